-- docs/RULES.md, 'Clusters': the parents of n copies, a list of n numbers. Copy i stands under copy `get_or p i 0`, and a root under itself.
-- Definitions only. Assumes nothing.
use Rattle.std.specs.Prelude.{Bool, cond, ◌&&◌, List, ℕ, zero, suc, length, get_or, set, eqb, ltb}
use Rattle.base.specs.Range.{all_below, count, greatest}

-- the copy k steps above i; at a root the walk stays
unfoldable pub walk : List ℕ → ℕ → ℕ → ℕ
walk p zero i = i
walk p (suc k) i = walk p k (get_or p i 0)

-- the root of i: the copy n steps above it
unfoldable pub root_of : List ℕ → ℕ → ℕ
unfolding walk
root_of p i = walk p (length p) i

-- the parents after `find_root(parent, i)`, as the Rust goes, k steps deep: at a root nothing is written; otherwise first what the
-- call at the parent writes, and then i is put under the root
unfoldable pub shortened : ℕ → List ℕ → ℕ → List ℕ
unfolding root_of
shortened zero p i = p
shortened (suc k) p i = cond (eqb (get_or p i 0) i) p (set (shortened k p (get_or p i 0)) i (root_of p i))

unfoldable pub compressed : List ℕ → ℕ → List ℕ
unfolding shortened
compressed p i = shortened (length p) p i

-- the parents after `union_roots(parent, a, b)`: both chains are shortened, and the root of b is put under that of a
unfoldable pub joined : List ℕ → ℕ → ℕ → List ℕ
unfolding compressed root_of
joined p a b =
    let q = compressed (compressed p a) b in
    cond (eqb (root_of p a) (root_of p b)) q (set q (root_of p b) (root_of p a))

-- copy i reaches its own root in n steps
unfoldable pub reaches_root : List ℕ → ℕ → Bool
unfolding root_of
reaches_root p i = eqb (get_or p (root_of p i) 0) (root_of p i)

-- each parent is below n, and each copy reaches its own root in n steps
unfoldable pub sound_parents : List ℕ → Bool
unfolding reaches_root
sound_parents p = all_below (length p) (λ i. ltb (get_or p i 0) (length p)) && all_below (length p) (reaches_root p)

-- how many copies have the root r
unfoldable pub set_size : List ℕ → ℕ → ℕ
unfolding root_of
set_size p r = count (length p) (λ i. eqb (root_of p i) r)

-- the size of the largest set with one root
unfoldable pub largest_set : List ℕ → ℕ
unfolding set_size
largest_set p = greatest (length p) (set_size p)
