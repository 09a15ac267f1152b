-- What is left to prove of `all_below`. Assumes nothing.
use Rattle.base.proofs.Ranges.{all_none, all-next}
use Rattle.sound_parents.proofs.all_below.Goals as goal

pub loop-word-init : goal.loop-word-init
loop-word-init c = all_none _

pub loop-word-preserved : goal.loop-word-preserved
loop-word-preserved c = all-next _ _ _ c.loop-word.invariant
