-- A word written with the byte after it, and digits written backwards.
-- Assumes nothing.
use mathlib.Core.Path.{◌≡◌, sym, ap, ◌∙◌}
use mathlib.Core.List.{List, [], ◌∷◌, ◌++◌, append_assoc}
use Prim.Native.Nat.{ℕ, suc, ◌+◌, ◌-◌, ◌/◌, ◌%◌, ◌≤◌, ◌<◌}
use native.Mathlib.Omega.{arith}
use lib.ListN.{length, take, drop, set, length-append}
use lib.Seq.{length-take-le, set_split, drop_at, take-set-le}
use Rattle.base.specs.Tables.{placed}
use Rattle.text.specs.Text.{glyph, digits, followed}
use Rattle.base.proofs.Placing.{length-placed, placed_one, placed-append}
use Rattle.text.proofs.Numerals.{length_digits, digits_more}

module _ {A : Type 0} where
  -- the last entry of a list, written before the entries in front of it
  pub placed-last : (k : ℕ) (xs : List A) (v : A) (t : List A) → k + length xs < length t → placed k xs (set t (k + length xs) v) ≡ placed k (xs ++ (v ∷ [])) t
  unfolding placed
  placed-last k xs v t h =
      let j = k + length xs in
      let front : take k (set t j v) ≡ take k t = take-set-le k t j v (omega arith) in
      let back : drop j (set t j v) ≡ v ∷ drop (suc j) t = rw (set_split t j v h) (drop_at (take j t) (v ∷ drop (suc j) t) j (length-take-le j t (omega arith))) in
      let end : k + length (xs ++ (v ∷ [])) ≡ suc j = simp length-append (omega arith) in
      rw (front, back, end) (ap (λ (l : List A). take k t ++ l) (sym (append_assoc xs (v ∷ []) (drop (suc j) t))))

  -- a byte written after a word
  pub placed-after : (k : ℕ) (xs : List A) (v : A) (t : List A) → k + length xs < length t → set (placed k xs t) (k + length xs) v ≡ placed k (xs ++ (v ∷ [])) t
  placed-after k xs v t h =
      let same : length (placed k xs t) ≡ length t = length-placed k xs t (omega arith) in
      placed_one (k + length xs) v (placed k xs t) (omega arith) ∙ placed-append k xs (v ∷ []) t (omega arith)

-- the last of `left` digits, written before the others
pub placed-digit : (b left m at : ℕ) (t : List ℕ) → 0 < left → at + left ≤ length t → placed at (digits b (left - 1) (m / b)) (set t (at + (left - 1)) (glyph (m % b))) ≡ placed at (digits b left m) t
placed-digit b left m at t h r =
    let others = digits b (left - 1) (m / b) in
    let n : length others ≡ left - 1 = length_digits b (left - 1) (m / b) in
    let e : at + (left - 1) ≡ at + length others = omega arith in
    rw (digits_more b left m h, e) (placed-last at others (glyph (m % b)) t (omega arith))

-- digits and the byte after them
pub length-after : (b k n v : ℕ) → length (followed (digits b k n) v) ≡ k + 1
length-after b k n v = simp length-append (omega (arith, length_digits b k n))

pub digits-after : (b k n v at : ℕ) (t : List ℕ) → at + k < length t → set (placed at (digits b k n) t) (at + k) v ≡ placed at (followed (digits b k n) v) t
digits-after b k n v at t h =
    let word = digits b k n in
    let e : at + k ≡ at + length word = ap (λ (i : ℕ). at + i) (sym (length_digits b k n)) in
    rw e (placed-after at word v t (omega arith))
