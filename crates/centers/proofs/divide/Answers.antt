-- `centers::divide` meets its contract. The code's three quotients are the definition. Assumes nothing.
use mathlib.Core.Path.{refl}
use Rattle.centers.specs.Centers.{divided_by}
use Rattle.centers.proofs.divide.Goals as goal

pub returns : goal.returns
unfolding divided_by
returns c = refl
