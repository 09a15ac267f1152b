-- `union_find::find_root` meets its contract.
-- The first loop: `root` is a copy with the same root as i, and its distance falls by one in each turn.
-- The second: what is left of the shortening, d turns for the d steps from k to the root, gives the list that is promised (`Turn`). The copies
-- that are left stand as they were at entry, so the distance at entry falls there too.
-- Assumes nothing.
use mathlib.Core.Path.{◌≡◌}
use Prim.Native.Nat.{◌<◌}
use lib.ListN.{length}
use Rattle.union_find.specs.Parents.{root_of}
use Rattle.union_find.proofs.Forest.{depth}
use Rattle.union_find.proofs.Shortening.{Turn}
use Rattle.union_find.proofs.find_root.Given as goal

abbrev pub invariant-loop-root : goal.invariant-loop-root
invariant-loop-root l = (l.root < length l.parent) × (root_of l.parent l.root ≡ root_of l.parent l.i)

abbrev pub decreases-loop-root : goal.decreases-loop-root
decreases-loop-root l = depth l.parent l.root

abbrev pub invariant-loop-parent : goal.invariant-loop-parent
invariant-loop-parent l = Turn l.initial.parent l.i l.root l.parent l.k

abbrev pub decreases-loop-parent : goal.decreases-loop-parent
decreases-loop-parent l = depth l.initial.parent l.k
