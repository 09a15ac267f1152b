-- `gates::ends_at` meets its contract: a turn up to 32,768 is an f32. Assumes nothing.
use mathlib.Core.Path.{refl}
use Rattle.gates.specs.Inner.{ends_at}
use Rattle.gates.proofs.ends_at.Goals as goal

pub returns : goal.returns
unfolding ends_at
returns c = refl
