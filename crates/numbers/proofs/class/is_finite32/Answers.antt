-- `numbers::class::is_finite32` meets its contract: x - x is 0 exactly where x is finite (`ExactResults`). Assumes nothing.
use lib.Ieee.{binary32, of_bits}
use Rattle.floats.proofs.ExactResults.{finite-test}
use Rattle.numbers.proofs.class.is_finite32.Goals as goal

pub returns : goal.returns
unfolding of_bits
returns c = finite-test binary32 c.args.x
