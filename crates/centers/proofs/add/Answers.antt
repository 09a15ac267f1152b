-- `centers::add` meets its contract. The code's three sums are the definition. Assumes nothing.
use mathlib.Core.Path.{refl}
use Rattle.centers.specs.Centers.{plus}
use Rattle.centers.proofs.add.Goals as goal

pub returns : goal.returns
unfolding plus
returns c = refl
