-- What only contracts of inner functions cite. Definitions only. Assumes nothing.
use Rattle.std.specs.Prelude.{Bool, List, ℕ, get_or, eqb}
use Rattle.union_find.specs.Parents.{walk}

-- copy i has its root at most k steps above it
unfoldable pub root_within : List ℕ → ℕ → ℕ → Bool
unfolding walk
root_within p k i = eqb (get_or p (walk p k i) 0) (walk p k i)
