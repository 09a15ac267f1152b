-- What is left to prove of `ends`. Assumes nothing.
use native.Mathlib.Omega.{arith}
use Rattle.union_find.proofs.Forest.{closed_of}
use Rattle.sound_parents.proofs.Climbs.{climb-first, climb-next, climb-less, climb-root, climb-end}
use Rattle.sound_parents.proofs.ends.Goals as goal

pub loop-seen-init : goal.loop-seen-init
loop-seen-init c = climb-first c.requires.i_in_bounds.0 c.requires.stamped

pub returns-then-parent-k : goal.returns-then-parent-k
returns-then-parent-k c =
    let r = climb-root (closed_of _ c.requires.parent_value) c.requires.i_in_bounds.0 (omega arith) c.loop-seen.invariant c.if-parent-k.true in
    record { value = r.0; stamped_2 = r.1 }

pub loop-seen-smaller : goal.loop-seen-smaller
loop-seen-smaller c = climb-less (omega arith) c.loop-seen.invariant c.loop-seen-test.true

pub loop-seen-preserved : goal.loop-seen-preserved
loop-seen-preserved c = climb-next (omega arith) c.loop-seen.invariant (closed_of _ c.requires.parent_value) c.if-parent-k.false

pub returns : goal.returns
returns c = let r = climb-end (closed_of _ c.requires.parent_value) c.requires.i_in_bounds.0 c.loop-seen.invariant c.loop-seen-test.false in record { value = r.0; stamped_2 = r.1 }
