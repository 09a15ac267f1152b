-- `spans::lists_touch` meets its contract. What is left of both lists decides, as long as nothing is found; a pick that is far from the box of b
-- is near none of b, and near on a level is near (OnLevel). The way out by the label has found a pair. Assumes nothing.
use mathlib.Core.Path.{◌≡◌}
use mathlib.Core.Bool.{false, ◌||◌}
use Prim.Native.Nat.{◌+◌}
use lib.ListN.{get_or, drop}
use Rattle.touch.specs.Touch.{near, any_in, any_pair}
use Rattle.spans.proofs.lists_touch.Given as goal

abbrev pub invariant-loop-j : goal.invariant-loop-j
invariant-loop-j l = (l.found ≡ false) × ((any_in (near l.cutoff l.e l.xs (get_or l.a l.i-index 0)) (drop l.j-index l.j-items) || any_pair (near l.cutoff l.e l.xs) (drop (l.i-index + 1) l.a) l.b) ≡ any_pair (near l.cutoff l.e l.xs) l.a l.b)

abbrev pub invariant-pairs : goal.invariant-pairs
invariant-pairs l = (l.found ≡ false) × (any_pair (near l.cutoff l.e l.xs) (drop l.i-index l.a) l.b ≡ any_pair (near l.cutoff l.e l.xs) l.a l.b)
