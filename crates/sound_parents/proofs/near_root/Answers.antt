-- `sound_parents::near_root` meets its contract: a walk stays at a root four steps up, and otherwise the copy eight steps up decides. Assumes nothing.
use Rattle.union_find.proofs.Trails.{within-four, within-eight}
use Rattle.sound_parents.proofs.near_root.Goals as goal

pub returns-then-parent-k : goal.returns-then-parent-k
returns-then-parent-k c = within-four _ _ _ c.four_up-k.ensures.0 c.if-parent-k.true

pub returns : goal.returns
returns c = within-eight _ _ _ _ c.four_up-k.ensures.0 c.four_up-m.ensures.0
