-- `sound_parents::four_up` meets its contract: two steps above two steps. Assumes nothing.
use Rattle.union_find.proofs.Trails.{walk-four}
use Rattle.sound_parents.proofs.four_up.Goals as goal

pub returns : goal.returns
returns c = (walk-four _ _ _ _ c.two_up.ensures.0 c.two_up-2.ensures.0, c.two_up-2.ensures.1)
