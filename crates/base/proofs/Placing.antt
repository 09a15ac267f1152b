-- A table with a list written into it, at an entry or from its start: an entry or a list at a time, two lists side by side, and a part that came
-- back. Assumes nothing.
use mathlib.Core.Path.{◌≡◌, refl, sym, ap, ◌∙◌}
use mathlib.Core.List.{List, [], ◌∷◌, ◌++◌, append_assoc}
use Prim.Native.Nat.{ℕ, ◌+◌, ◌-◌, ◌≤◌, ◌<◌}
use native.Mathlib.Nat.{add-zero, zero-add, add_assoc}
use native.Mathlib.Numerals.{add-one}
use native.Mathlib.Omega.{arith}
use lib.ListN.{length, take, drop, set, length-append, length-drop, take-append-drop}
use lib.Seq.{length-take-le, set_split, take_at, drop_at, drop-drop, take-append-le, take-take}
use Rattle.base.specs.Tables.{placed, over}

module _ {A : Type 0} where
  pub placed-none : (k : ℕ) (t : List A) → placed k [] t ≡ t
  unfolding placed
  placed-none k t = rw (add-zero, take-append-drop)

  pub length_none : (ys : List A) → length ys ≤ 0 → ys ≡ []
  length_none [] h = refl
  length_none (y ∷ ys) h = absurd (omega arith)

  pub placed-empty : (k : ℕ) (ys t : List A) → length ys ≤ 0 → placed k ys t ≡ t
  placed-empty k ys t h = ap (λ (l : List A). placed k l t) (length_none ys h) ∙ placed-none k t

  pub placed-zero : (ys t : List A) → placed 0 ys t ≡ over ys t
  unfolding placed over
  placed-zero ys t = rw zero-add

  pub length-placed : (k : ℕ) (ys t : List A) → k + length ys ≤ length t → length (placed k ys t) ≡ length t
  unfolding placed
  length-placed k ys t h = simp (length-append, length-drop, length-take-le k t (omega arith)) (omega arith)

  -- two lists, one after the other, are one list
  pub placed-append : (k : ℕ) (xs ys t : List A) → k ≤ length t → placed (k + length xs) ys (placed k xs t) ≡ placed k (xs ++ ys) t
  unfolding placed
  placed-append k xs ys t h =
      let n = k + length xs in
      let front : placed k xs t ≡ (take k t ++ xs) ++ drop n t = sym (append_assoc (take k t) xs (drop n t)) in
      let long : length (take k t ++ xs) ≡ n = simp (length-append, length-take-le k t h) in
      let before : take n (placed k xs t) ≡ take k t ++ xs = rw front (take_at (take k t ++ xs) (drop n t) n long) in
      let after : drop (n + length ys) (placed k xs t) ≡ drop (k + length (xs ++ ys)) t =
      rw (← drop-drop (length ys) n (placed k xs t), front, drop_at (take k t ++ xs) (drop n t) n long, drop-drop, length-append, add_assoc) in
      simp (before, after, append_assoc)

  pub placed_one : (k : ℕ) (v : A) (t : List A) → k < length t → set t k v ≡ placed k (v ∷ []) t
  unfolding placed
  placed_one k v t h = rw (add-one, set_split t k v)

  pub placed-step : (k : ℕ) (v : A) (ys t : List A) → k < length t → placed (k + 1) ys (set t k v) ≡ placed k (v ∷ ys) t
  placed-step k v ys t h = ap (placed (k + 1) ys) (placed_one k v t h) ∙ placed-append k (v ∷ []) ys t (omega arith)

-- the part from i to e came back as ys
pub placed-part : {A : Type 0} (ys t : List A) (i e : ℕ) → e ≡ i + length ys → take i t ++ (ys ++ drop (e - i) (drop i t)) ≡ placed i ys t
unfolding placed
placed-part ys t i e q =
    let k : i + (e - i) ≡ i + length ys = omega arith in
    ap (λ (u : List _). take i t ++ (ys ++ u)) (drop-drop (e - i) i t ∙ ap (λ (j : ℕ). drop j t) k)

module _ {A : Type 0} (t us vs : List A) (i j : ℕ) (e : j ≡ i + length us) (h : j + length vs ≤ length t) where
  -- vs right behind us
  pub placed-next : placed j vs (placed i us t) ≡ placed i (us ++ vs) t
  placed-next = rw e (placed-append i us vs t (omega arith))

  -- us right before vs
  pub placed-before : placed i us (placed j vs t) ≡ placed i (us ++ vs) t
  unfolding placed
  placed-before =
      let le : length (take j t) ≡ j = length-take-le j t (omega arith) in
      let r : j + length vs ≡ i + length (us ++ vs) = omega (arith, length-append us vs) in
      let d : drop (i + length us) (placed j vs t) ≡ vs ++ drop (i + length (us ++ vs)) t =
      ap (λ (k : ℕ). drop k (placed j vs t)) (sym e)
      ∙ drop_at (take j t) (vs ++ drop (j + length vs) t) j le
      ∙ ap (λ (k : ℕ). vs ++ drop k t) r in
      ap (λ (l : List A). l ++ (us ++ drop (i + length us) (placed j vs t)))
      (take-append-le i (take j t) (vs ++ drop (j + length vs) t) (omega arith) ∙ take-take i j t (omega arith))
      ∙ ap (λ (l : List A). take i t ++ (us ++ l)) d
      ∙ ap (λ (l : List A). take i t ++ l) (sym (append_assoc us vs (drop (i + length (us ++ vs)) t)))
