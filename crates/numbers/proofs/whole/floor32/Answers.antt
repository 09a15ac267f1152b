-- `numbers::whole::floor32` meets its contract. From 0 up to 1 the result is a zero with x's sign, which x * 0.0 is. Assumes nothing.
use lib.Ieee.{neg, of_bits}
use Rattle.floats.proofs.Tests.{holds}
use Rattle.floats.proofs.FloorArms.{unit-zero}
use Rattle.numbers.proofs.whole.floor32.Goals as goal

pub returns-then-x-2 : goal.returns-then-x-2
unfolding of_bits neg
returns-then-x-2 c = unit-zero c.args.x (holds c.if-x.true) (holds c.if-x-2.true)
