-- `sound_parents::two_up` meets its contract: a parent is below n, so that its own parent is read. Assumes nothing.
use mathlib.Core.Path.{refl}
use Rattle.union_find.specs.Parents.{walk}
use Rattle.union_find.proofs.Forest.{closed_of}
use Rattle.sound_parents.proofs.two_up.Goals as goal

pub bounds-parent-k : goal.bounds-parent-k
bounds-parent-k c = (closed_of _ c.requires.parent_value).at _ c.requires.i_in_bounds

pub returns : goal.returns
unfolding walk
returns c =
    let closed = closed_of c.args.parent.now c.requires.parent_value in
    (refl, closed.at _ (closed.at c.args.i c.requires.i_in_bounds))
