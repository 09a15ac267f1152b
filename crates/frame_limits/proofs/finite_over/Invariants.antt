-- `frame_limits::finite_over` meets its contract. The loop's invariant: what was found so far, or what is left of the list, decides.
-- Assumes nothing.
use mathlib.Core.Path.{◌≡◌}
use mathlib.Core.Bool.{◌||◌}
use lib.ListN.{drop}
use Rattle.frame_limits.specs.Limits.{exceeds, any, max_coordinate}
use Rattle.frame_limits.proofs.finite_over.Given as goal

abbrev pub invariant-loop-x : goal.invariant-loop-x
invariant-loop-x l = (l.over || any (exceeds max_coordinate) (drop l.x-index l.xs)) ≡ any (exceeds max_coordinate) l.xs
