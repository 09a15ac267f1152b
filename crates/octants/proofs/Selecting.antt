-- Selections of a list by a test, and the loop that copies a list. Assumes nothing.
use mathlib.Core.Path.{◌≡◌, refl, sym, ap, ◌∙◌}
use mathlib.Core.Bool.{Bool, true, false, cond}
use mathlib.Core.List.{List, [], ◌∷◌, ◌++◌, append-nil}
use Prim.Native.Nat.{ℕ, ◌+◌, ◌<◌}
use native.Mathlib.Numerals.{add-one}
use lib.ListN.{length, take, get_or, set}
use lib.Seq.{take-suc, take-suc-set}
use Rattle.octants.specs.Octants.{passing}

cond-append : (t : Bool) (v : ℕ) (x y : List ℕ) → cond t (v ∷ (x ++ y)) (x ++ y) ≡ cond t (v ∷ x) x ++ y
cond-append true v x y = refl
cond-append false v x y = refl

pub select-append : (p : ℕ → Bool) (a b : List ℕ) → passing p (a ++ b) ≡ passing p a ++ passing p b
unfolding passing
select-append p [] b = refl
select-append p (v ∷ vs) b = rw (select-append p vs b) (cond-append (p v) v (passing p vs) (passing p b))

pub select_yes : (p : ℕ → Bool) (l : List ℕ) (v : ℕ) → p v ≡ true → passing p (l ++ (v ∷ [])) ≡ passing p l ++ (v ∷ [])
unfolding passing
select_yes p l v e = select-append p l (v ∷ []) ∙ simp e

pub select_no : (p : ℕ → Bool) (l : List ℕ) (v : ℕ) → p v ≡ false → passing p (l ++ (v ∷ [])) ≡ passing p l
unfolding passing
select_no p l v e = select-append p l (v ∷ []) ∙ simp (e, append-nil)

-- the loop of `paste`: one more element is copied
pub copied : (d s : List ℕ) (j : ℕ) → j < length d → j < length s → take j d ≡ take j s → take (j + 1) (set d j (get_or s j 0)) ≡ take (j + 1) s
copied d s j h k e =
    ap (λ (n : ℕ). take n (set d j (get_or s j 0))) (add-one j)
    ∙ take-suc-set d j (get_or s j 0) h
    ∙ ap (λ (x : List ℕ). x ++ (get_or s j 0 ∷ [])) e
    ∙ sym (take-suc s j 0 k)
    ∙ ap (λ (n : ℕ). take n s) (sym (add-one j))
