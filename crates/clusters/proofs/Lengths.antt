-- A row keeps the table's length, whatever the table. Assumes nothing.
use mathlib.Core.Path.{◌≡◌, refl, ◌∙◌}
use mathlib.Core.Bool.{Bool, true, false, cond}
use mathlib.Core.List.{List}
use Prim.Native.Nat.{ℕ, zero, suc, ◌-◌}
use native.Mathlib.Omega.{arith}
use lib.ListN.{length, get_or, set, length-set, length-append, length-take, length-drop}
use lib.Dec.{eqb}
use Rattle.union_find.specs.Parents.{root_of, shortened, compressed, joined}
use Rattle.cluster_table.specs.Table.{parents, with_parents, counted, contact, mark_at}
use Rattle.clusters.specs.Answers.{pass, row_table}

-- a test between two lists of one length
either-length : (b : Bool) (p q : List ℕ) (n : ℕ) → length p ≡ n → length q ≡ n → length (cond b p q) ≡ n
either-length true p q n d e = d
either-length false p q n d e = e

shortened-length : (k : ℕ) (p : List ℕ) (i : ℕ) → length (shortened k p i) ≡ length p
unfolding shortened
shortened-length zero p i = refl
shortened-length (suc k) p i =
    either-length (eqb (get_or p i 0) i) p (set (shortened k p (get_or p i 0)) i (root_of p i)) (length p) refl
    (length-set (shortened k p (get_or p i 0)) i (root_of p i) ∙ shortened-length k p (get_or p i 0))

compressed-length : (p : List ℕ) (i : ℕ) → length (compressed p i) ≡ length p
unfolding compressed
compressed-length p i = shortened-length (length p) p i

joined_length : (p : List ℕ) (a b : ℕ) → length (joined p a b) ≡ length p
unfolding joined
joined_length p a b =
    either-length (eqb (root_of p a) (root_of p b)) q (set q (root_of p b) (root_of p a)) (length p) same (length-set q (root_of p b) (root_of p a) ∙ same)
  where
    q : List ℕ
    q = compressed (compressed p a) b

    same : length q ≡ length p
    same = compressed-length (compressed p a) b ∙ compressed-length p a

-- other parents of the same length, in their place
with-same : (n : ℕ) (t q : List ℕ) → length q ≡ length (parents n t) → length (with_parents n t q) ≡ length t
with-same n t q e = simp (length-append, length-take, length-drop) (omega (arith, simp (length-take, length-drop) at e))

contact-length : (n : ℕ) (t : List ℕ) (i j : ℕ) → length (contact n t i j) ≡ length t
unfolding contact counted
contact-length n t i j = simp length-set (with-same n t (joined (parents n t) i j) (joined_length (parents n t) i j))

module _ (touch : ℕ → ℕ → Bool) (n i : ℕ) where
  pass-length : (k j : ℕ) (t : List ℕ) → length (pass touch n i k j t) ≡ length t
  unfolding pass
  pass-length zero j t = refl
  pass-length (suc k) j t =
      pass-length k (suc j) (cond (touch i j) (contact n t i j) t)
      ∙ either-length (touch i j) (contact n t i j) t (length t) (contact-length n t i j) refl

  pub row-length : (t : List ℕ) → length (row_table touch n i t) ≡ length t
  unfolding row_table
  row-length t = length-set (pass touch n i (n - suc i) (suc i) t) (mark_at n i) 1 ∙ pass-length (n - suc i) (suc i) t
