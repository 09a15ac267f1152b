-- `sound_parents::all_end` meets its contract. The loop's invariant: each copy before i reaches its root, and so does each copy that is stamped.
-- Assumes nothing.
use Rattle.std.proofs.Common.{◌≡◌, true, ℕ, ◌<◌}
use Rattle.union_find.specs.Parents.{reaches_root}
use Rattle.sound_parents.specs.Inner.{Stamped}
use Rattle.sound_parents.proofs.all_end.Given as goal

abbrev pub invariant-loop-i : goal.invariant-loop-i
invariant-loop-i l = Stamped l.parent l.seen l.i × ((k : ℕ) → k < l.i → reaches_root l.parent k ≡ true)
