-- The test of a table (9), part by part, and what a sound table gives. Assumes nothing.
use mathlib.Core.Path.{◌≡◌, refl, sym, ap, ◌∙◌}
use mathlib.Core.Bool.{Bool, true, false, ◌&&◌}
use mathlib.Core.List.{List}
use Prim.Native.Nat.{ℕ, ◌^◌, ◌≤◌, ◌<◌}
use native.Mathlib.Omega.{arith}
use native.Mathlib.Decide.{dec_le}
use lib.Dec.{eqb, ltb, leb}
use borrow.Author.Tests.{eq-eqb, ne_eqb, eqb-true, ltb-true, leb-true, lt-ltb, le-ltb, le-leb, lt-leb}
use Rattle.base.specs.Limits.{max_copies}
use Rattle.base.specs.Range.{all_below}
use Rattle.union_find.specs.Parents.{sound_parents}
use Rattle.base.proofs.Ranges.{all-at, all_same, all_both}
use Rattle.base.proofs.Tests.{and_left, and_right, and-false}
use Rattle.cluster_table.specs.Table.{table_copies, contacts, parents, degree, mark, pairs, sound_words, sound_table}
use Rattle.cluster_table.proofs.Pairs.{half-few}

-- ---- degrees and marks
pub words_right : (n : ℕ) (t : List ℕ) (i : ℕ) → degree n t i < n → mark n t i ≤ 1 → sound_words n t i ≡ true
unfolding sound_words
words_right n t i a b = rw (lt-ltb (degree n t i) n a, le-leb (mark n t i) 1 b)

below_two : (x : ℕ) → ltb x 2 ≡ leb x 1
below_two x = go (dec_le x 1)
  where
    go : Dec (x ≤ 1) → ltb x 2 ≡ leb x 1
    go (yes h) = rw (lt-ltb x 2 (omega arith), le-leb x 1 h)
    go (no h) = rw (le-ltb x 2 (omega arith), lt-leb x 1 (omega arith))

-- the degrees and the marks, each in one pass
pub words-parts : (n : ℕ) (t : List ℕ) → (all_below n (λ i. ltb (degree n t i) n) && all_below n (λ i. ltb (mark n t i) 2)) ≡ all_below n (sound_words n t)
unfolding sound_words
words-parts n t =
    all_both n (λ i. ltb (degree n t i) n) (λ i. ltb (mark n t i) 2)
    ∙ all_same n _ _ (λ k l. ap (λ (b : Bool). ltb (degree n t k) n && b) (below_two (mark n t k)))

-- ---- the whole table
pub table-own : (n : ℕ) (t : List ℕ) → (table_copies t ≡ n → ⊥) → false ≡ sound_table n t
unfolding sound_table
table-own n t h = rw (ne_eqb (table_copies t) n h)

pub table-contacts : (n : ℕ) (t : List ℕ) → pairs n < contacts t → false ≡ sound_table n t
unfolding sound_table
table-contacts n t h = rw (lt-leb (contacts t) (pairs n) h) (sym (and-false (eqb (table_copies t) n) false refl))

pub table-parents : (n : ℕ) (t : List ℕ) → sound_parents (parents n t) ≡ false → false ≡ sound_table n t
unfolding sound_table
table-parents n t h = rw h (sym (and-false (eqb (table_copies t) n) _ (and-false (leb (contacts t) (pairs n)) false refl)))

pub table-words : (n : ℕ) (t : List ℕ) → table_copies t ≡ n → contacts t ≤ pairs n → sound_parents (parents n t) ≡ true
    → all_below n (sound_words n t) ≡ sound_table n t
unfolding sound_table
table-words n t a b c = rw (eq-eqb (table_copies t) n a, le-leb (contacts t) (pairs n) b, c)

-- ---- what a sound table gives
pub record Ready (n : ℕ) (t : List ℕ) : Type 0 where
  pub own : table_copies t ≡ n
  pub sound : sound_parents (parents n t) ≡ true
  pub low : (k : ℕ) → k < n → degree n t k < n
  pub few : contacts t ≤ 2 ^ 24

pub ready_of : (n : ℕ) (t : List ℕ) → n ≤ max_copies → sound_table n t ≡ true → Ready n t
unfolding sound_table sound_words
ready_of n t m e =
    let e₁ = and_right (eqb (table_copies t) n) _ e in
    let e₂ = and_right (leb (contacts t) (pairs n)) _ e₁ in
    let e₃ = and_right (sound_parents (parents n t)) _ e₂ in
    record {
      own = eqb-true (table_copies t) n (and_left _ _ e);
      sound = and_left _ _ e₂;
      low = λ k h. ltb-true (degree n t k) n (and_left _ _ (all-at n (sound_words n t) k e₃ h));
      few = omega (arith, leb-true (contacts t) (pairs n) (and_left _ _ e₁), half-few n m);
    }
