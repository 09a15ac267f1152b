-- `gates::short` meets its contract: its two tests are the definition. Assumes nothing.
use mathlib.Core.Path.{refl}
use lib.Ieee.{le}
use Rattle.gates.specs.Inner.{short}
use Rattle.gates.proofs.short.Goals as goal

pub returns : goal.returns
unfolding le short
returns c = refl
