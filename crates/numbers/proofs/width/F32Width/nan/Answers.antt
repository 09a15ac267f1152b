-- Here the code's `nan` meets `Width`'s contract: 0 / 0 is the NaN. Assumes nothing.
use Rattle.std.proofs.Common.{refl}
use lib.Ieee.{div, of_bits}
use Rattle.numbers.proofs.width.F32Width.nan.Goals as goal

pub returns : goal.returns
unfolding div of_bits
returns c = refl
