-- Loops that write a list into a table: from an entry on, an entry or a list at a time (`Filling`), or element i at turn i, over the whole table.
-- Assumes nothing.
use mathlib.Core.Path.{◌≡◌, refl, sym, ap, ◌∙◌}
use mathlib.Core.Logic.{◌⊎◌, inl, inr}
use mathlib.Core.List.{List, [], ◌∷◌, ◌++◌}
use Prim.Native.Nat.{ℕ, zero, suc, ◌+◌, ◌≤◌, ◌<◌}
use native.Mathlib.Nat.{add-zero, not-suc-le-zero, eq-or-lt_of_le, le_of_suc-le-suc}
use native.Mathlib.Numerals.{add-one}
use native.Mathlib.Omega.{arith}
use lib.ListN.{length, get_or, take, set, length-set, length-append, get_or-append}
use lib.Seq.{take-suc-set, take_all, get_or-append-add}
use Rattle.base.specs.Tables.{placed, first_numbers}
use Rattle.base.proofs.Placing.{placed-none, placed-step, placed-append, length-placed}

-- ---- a loop that writes the list `all` into the table t₀ from entry `at` on: now the table is t, and `rest` is still to be written
-- from entry `end` on
pub record Filling {A : Type 0} (at : ℕ) (all t₀ : List A) (end : ℕ) (rest t : List A) : Type 0 where
  pub left : end + length rest ≡ at + length all
  pub room : end + length rest ≤ length t
  pub same : length t ≡ length t₀
  pub table : placed end rest t ≡ placed at all t₀

module _ {A : Type 0} {at : ℕ} {all t₀ : List A} where
  pub filling-first : at + length all ≤ length t₀ → Filling at all t₀ at all t₀
  filling-first h = record { left = refl; room = h; same = refl; table = refl }

  pub filling-next : {end : ℕ} {v : A} {rest t : List A} → Filling at all t₀ end (v ∷ rest) t → Filling at all t₀ (end + 1) rest (set t end v)
  filling-next {end} {v} {rest} {t} z =
      record {
        left = omega (arith, z.left);
        room = simp length-set (omega (arith, z.room));
        same = length-set t end v ∙ z.same;
        table = placed-step end v rest t (omega (arith, z.room)) ∙ z.table;
      }

  pub filling-three :
      {end : ℕ} {x y z : A} {rest t : List A} → Filling at all t₀ end (x ∷ y ∷ z ∷ rest) t →
      Filling at all t₀ (end + 3) rest (set (set (set t end x) (end + 1) y) (end + 2) z)
  filling-three {end} f =
      let two : end + 2 ≡ end + 1 + 1 = omega arith in
      let three : end + 3 ≡ end + 1 + 1 + 1 = omega arith in
      rw (two, three) (filling-next (filling-next (filling-next f)))

  pub filling-append : {end : ℕ} (ys : List A) {rest t : List A} → Filling at all t₀ end (ys ++ rest) t → Filling at all t₀ (end + length ys) rest (placed end ys t)
  filling-append {end} ys {rest} {t} z =
      let n : length (ys ++ rest) ≡ length ys + length rest = length-append ys rest in
      let same : length (placed end ys t) ≡ length t = length-placed end ys t (omega (arith, z.room)) in
      record {
        left = omega (arith, z.left);
        room = omega (arith, z.room);
        same = same ∙ z.same;
        table = placed-append end ys rest t (omega (arith, z.room)) ∙ z.table;
      }

  pub filling-last : {end : ℕ} {t : List A} → Filling at all t₀ end [] t → t ≡ placed at all t₀
  filling-last {end} {t} z = sym (placed-none end t) ∙ z.table

-- ---- a loop that writes element i at turn i: F n has the first n elements
module _ {A : Type 0} (F : ℕ → List A) (v : ℕ → A) (more : (n : ℕ) → F (suc n) ≡ F n ++ (v n ∷ [])) where
  pub written : (s : List A) (i : ℕ) → i < length s → take i s ≡ F i → take (i + 1) (set s i (v i)) ≡ F (i + 1)
  written s i h e =
      ap (λ (n : ℕ). take n (set s i (v i))) (add-one i)
      ∙ take-suc-set s i (v i) h
      ∙ ap (λ (x : List A). x ++ (v i ∷ [])) e
      ∙ sym (more i)
      ∙ ap F (sym (add-one i))

  pub all-written : (s : List A) (n i : ℕ) → length s ≤ i → i ≤ n → length s ≡ n → take i s ≡ F i → s ≡ F n
  all-written s n i h k l e =
      let q : i ≡ n = omega arith in
      sym (take_all i s h) ∙ e ∙ ap F q

pub numbers_more : (n : ℕ) → first_numbers (suc n) ≡ first_numbers n ++ (n ∷ [])
unfolding first_numbers
numbers_more n = refl

pub numbers-none : [] ≡ first_numbers 0
unfolding first_numbers
numbers-none = refl

pub numbers-length : (n : ℕ) → length (first_numbers n) ≡ n
unfolding first_numbers
numbers-length zero = refl
numbers-length (suc n) = length-append (first_numbers n) (n ∷ []) ∙ omega (arith, numbers-length n)

pub numbers-at : (n i : ℕ) → i < n → get_or (first_numbers n) i 0 ≡ i
unfolding first_numbers
numbers-at zero i l = absurd (not-suc-le-zero l)
numbers-at (suc n) i l = split (λ h. numbers-at n i h) (eq-or-lt_of_le (le_of_suc-le-suc l))
  where
    all : List ℕ
    all = first_numbers n ++ (n ∷ [])

    last : get_or all n 0 ≡ n
    last =
        ap (λ (k : ℕ). get_or all k 0) (sym (add-zero n) ∙ ap (λ (k : ℕ). k + 0) (sym (numbers-length n)))
        ∙ get_or-append-add (first_numbers n) (n ∷ []) 0 0

    split : (i < n → get_or (first_numbers n) i 0 ≡ i) → (i ≡ n) ⊎ (i < n) → get_or all i 0 ≡ i
    split before (inl e) = rw e last
    split before (inr h) = get_or-append (first_numbers n) (n ∷ []) 0 i (rw (numbers-length n) h) ∙ before h
