-- Reading the table after writes: parents, degrees and marks are each their own part of it. Assumes nothing.
use mathlib.Core.Path.{◌≡◌, sym, ap, ◌∙◌}
use mathlib.Core.List.{List, ◌++◌}
use Prim.Native.Nat.{ℕ, ◌+◌, ◌-◌, ◌≤◌, ◌<◌}
use native.Mathlib.Nat.{add_assoc}
use native.Mathlib.Omega.{arith}
use lib.ListN.{length, get_or, set, take, drop, length-append, length-take, length-drop, get_or-append}
use lib.Seq.{drop-set-add, drop-set-lt, take-set-le, get_or-drop, get_or-take, take_at, drop_at, length-take-le, drop-drop}
use Rattle.cluster_table.specs.Table.{parents, with_parents, header, degree_at}

module _ (n : ℕ) (t : List ℕ) where
  -- a write past the parents, and one to the contacts, leave the parents
  pub parents-set : (m v : ℕ) → parents n (set t (degree_at n m) v) ≡ parents n t
  parents-set m v = rw (add_assoc header n m, drop-set-add header t (n + m) v, take-set-le n (drop header t) (n + m) v (omega arith))

  pub parents-set-contacts : (v : ℕ) → parents n (set t 1 v) ≡ parents n t
  parents-set-contacts v = rw (drop-set-lt header t 1 v (omega arith))

  pub parents-length : header + n ≤ length t → length (parents n t) ≡ n
  parents-length l = simp (length-take, length-drop) (omega arith)

  -- other parents in their place
  module _ (q : List ℕ) (l : header + n ≤ length t) (e : length q ≡ n) where
    head-length : length (take header t) ≡ header
    head-length = length-take-le header t (omega arith)

    rest : drop header (with_parents n t q) ≡ q ++ drop (header + n) t
    rest = drop_at (take header t) (q ++ drop (header + n) t) header head-length

    pub with-length : length (with_parents n t q) ≡ length t
    with-length = simp (length-append, length-take, length-drop) (omega arith)

    pub with-parents : parents n (with_parents n t q) ≡ q
    with-parents = ap (take n) rest ∙ take_at q (drop (header + n) t) n e

    pub with-head : (k : ℕ) → k < header → get_or (with_parents n t q) k 0 ≡ get_or t k 0
    with-head k h = get_or-append (take header t) (q ++ drop (header + n) t) 0 k (rw head-length h) ∙ get_or-take header t k 0 h

    pub with_tail : (m : ℕ) → get_or (with_parents n t q) (degree_at n m) 0 ≡ get_or t (degree_at n m) 0
    with_tail m =
        ap (λ (k : ℕ). get_or (with_parents n t q) k 0) (add_assoc header n m)
        ∙ sym (get_or-drop header (with_parents n t q) (n + m) 0)
        ∙ ap (λ (s : List ℕ). get_or s (n + m) 0) rest
        ∙ sym (get_or-drop n (q ++ drop (header + n) t) m 0)
        ∙ ap (λ (s : List ℕ). get_or s m 0) (drop_at q (drop (header + n) t) n e)
        ∙ get_or-drop (header + n) t m 0

-- the table after its parents were lent and came back
pub part-back : (n : ℕ) (t q : List ℕ) → take header t ++ (q ++ drop (header + n - header) (drop header t)) ≡ with_parents n t q
part-back n t q = rw (same, drop-drop n header t)
  where
    same : header + n - header ≡ n
    same = omega arith
