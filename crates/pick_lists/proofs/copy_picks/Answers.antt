-- `pick_lists::copy_picks` meets its contract: the part between two starts. Assumes nothing.
use mathlib.Core.Path.{refl}
use Rattle.pick_lists.specs.Sound.{pick_list}
use Rattle.pick_lists.proofs.copy_picks.Goals as goal

pub returns : goal.returns
unfolding pick_list
returns c = refl
