-- `sound_parents::shallow` meets its contract. The loop's invariant: each copy before i is at most eight steps below its root. Assumes nothing.
use Rattle.std.proofs.Common.{◌≡◌, true, ℕ, ◌<◌}
use Rattle.union_find.specs.Inner.{root_within}
use Rattle.sound_parents.proofs.shallow.Given as goal

abbrev pub invariant-loop-i : goal.invariant-loop-i
invariant-loop-i l = (k : ℕ) → k < l.i → root_within l.parent 8 k ≡ true
