-- A test over a list, and over a part of one, as over the numbers below its length. Assumes nothing.
use mathlib.Core.Path.{◌≡◌, refl, sym, ap, ◌∙◌}
use mathlib.Core.Bool.{Bool, true, false, ◌&&◌}
use mathlib.Core.List.{List, [], ◌∷◌}
use Prim.Native.Nat.{ℕ, zero, suc, ◌+◌, ◌≤◌, ◌<◌}
use native.Mathlib.Omega.{arith}
use lib.ListN.{length, get_or, take, drop, length-take, length-drop}
use lib.Seq.{get_or-take, get_or-drop}
use Rattle.std.specs.List.{list_all}
use Rattle.base.specs.Range.{all_below}
use Rattle.base.proofs.Ranges.{all_same}

and-step : (a b c d : Bool) → d ≡ (a && b) → (d && c) ≡ (a && (b && c))
and-step true b c d e = rw e
and-step false b c d e = rw e

-- the first number in the place of the last
all_front : (n : ℕ) (f : ℕ → Bool) → all_below (suc n) f ≡ (f 0 && all_below n (λ i. f (suc i)))
unfolding all_below
all_front zero f = one (f 0)
  where
    one : (a : Bool) → (true && a) ≡ (a && true)
    one true = refl
    one false = refl
all_front (suc n) f = and-step (f 0) (all_below n (λ i. f (suc i))) (f (suc n)) (all_below (suc n) f) (all_front n f)

-- what `all` tests
pub all_list : (f : ℕ → Bool) (xs : List ℕ) → list_all f xs ≡ all_below (length xs) (λ i. f (get_or xs i 0))
unfolding all_below
all_list f [] = refl
all_list f (x ∷ xs) = ap (λ b. f x && b) (all_list f xs) ∙ sym (all_front (length xs) (λ i. f (get_or (x ∷ xs) i 0)))

-- n words from `at` on
pub part-at : (t : List ℕ) (at n k : ℕ) → k < n → get_or (take n (drop at t)) k 0 ≡ get_or t (at + k) 0
part-at t at n k l = get_or-take n (drop at t) k 0 l ∙ get_or-drop at t k 0

module _ (t : List ℕ) (at n : ℕ) (h : at + n ≤ length t) (f : ℕ → Bool) where
  abbrev part : List ℕ
  part = take n (drop at t)

  size : length part ≡ n
  size = simp (length-take, length-drop) (omega arith)

  same : (k : ℕ) → k < n → f (get_or part k 0) ≡ f (get_or t (at + k) 0)
  same k l = ap f (part-at t at n k l)

  pub part-all : all_below (length part) (λ i. f (get_or part i 0)) ≡ all_below n (λ i. f (get_or t (at + i) 0))
  part-all = rw size (all_same n _ _ same)
