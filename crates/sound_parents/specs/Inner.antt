-- What the walks from the copies below i leave in `seen`. Definitions only. Assumes nothing.
use Rattle.std.specs.Prelude.{◌≡◌, true, List, ℕ, ◌<◌, ◌≤◌, length, get_or}
use Rattle.union_find.specs.Parents.{reaches_root}

-- no stamp is above i, and a copy with a stamp other than 0 reaches its root
pub record Stamped (p seen : List ℕ) (i : ℕ) : Type 0 where
  pub low : (k : ℕ) → k < length p → get_or seen k 0 ≤ i
  pub good : (k : ℕ) → k < length p → 0 < get_or seen k 0 → reaches_root p k ≡ true
