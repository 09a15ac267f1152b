-- Searches through lists, an element or a part at a time. Assumes nothing.
use mathlib.Core.Path.{◌≡◌, refl, sym, ap, ◌∙◌, fun_ext}
use mathlib.Core.Bool.{Bool, true, false, ◌||◌, or_assoc}
use mathlib.Core.List.{List, [], ◌∷◌, ◌++◌}
use Prim.Native.Nat.{ℕ, ◌+◌, ◌≤◌, ◌<◌}
use native.Mathlib.Numerals.{add-one}
use lib.ListN.{length, get_or, drop, drop_of_length-le}
use lib.Seq.{drop-cons}
use Rattle.touch.specs.Touch.{any_in, any_pair}

-- the next element, and the rest
pub any-more : (f : ℕ → Bool) (xs : List ℕ) (k : ℕ) → k < length xs → any_in f (drop k xs) ≡ (f (get_or xs k 0) || any_in f (drop (k + 1) xs))
unfolding any_in
any-more f xs k l = rw (add-one, drop-cons xs k 0)

-- past the end there is none
pub any_none : (f : ℕ → Bool) (xs : List ℕ) (k : ℕ) → length xs ≤ k → any_in f (drop k xs) ≡ false
unfolding any_in
any_none f xs k l = rw drop_of_length-le

-- the same for pairs
pub pair-more : (f : ℕ → ℕ → Bool) (xs ys : List ℕ) (k : ℕ) → k < length xs → any_pair f (drop k xs) ys ≡ (any_in (f (get_or xs k 0)) ys || any_pair f (drop (k + 1) xs) ys)
unfolding any_pair
pair-more f xs ys k l = any-more (λ p. any_in (f p) ys) xs k l

pub pair-none : (f : ℕ → ℕ → Bool) (xs ys : List ℕ) (k : ℕ) → length xs ≤ k → any_pair f (drop k xs) ys ≡ false
unfolding any_pair
pair-none f xs ys k l = any_none (λ p. any_in (f p) ys) xs k l

pub or-false : (s t : Bool) → s ≡ false → (s || t) ≡ t
or-false s t e = rw e

-- an element that does not pass is skipped; one that does decides; v is what the rest of the pairs give
pub any-skip : (f : ℕ → Bool) (xs : List ℕ) (k : ℕ) (v : Bool) → k < length xs → f (get_or xs k 0) ≡ false → (any_in f (drop (k + 1) xs) || v) ≡ (any_in f (drop k xs) || v)
any-skip f xs k v l e = rw (any-more f xs k l, e)

pub any-hit : (f : ℕ → Bool) (xs : List ℕ) (k : ℕ) (v : Bool) → k < length xs → f (get_or xs k 0) ≡ true → true ≡ (any_in f (drop k xs) || v)
any-hit f xs k v l e = rw (any-more f xs k l, e)

-- ---- a part at a time
any_append : (f : ℕ → Bool) (xs ys : List ℕ) → any_in f (xs ++ ys) ≡ (any_in f xs || any_in f ys)
unfolding any_in
any_append f [] ys = refl
any_append f (x ∷ xs) ys = ap (f x ||◌) (any_append f xs ys) ∙ sym (or_assoc (f x) (any_in f xs) (any_in f ys))

-- a test that nothing passes
pub never : (xs : List ℕ) → any_in (λ x. false) xs ≡ false
unfolding any_in
never [] = refl
never (x ∷ xs) = never xs

-- one test or the other
pub either : (f g : ℕ → Bool) (xs : List ℕ) → any_in (λ x. f x || g x) xs ≡ (any_in f xs || any_in g xs)
unfolding any_in
either f g [] = refl
either f g (x ∷ xs) = ap ((f x || g x) ||◌) (either f g xs) ∙ four (f x) (g x) (any_in f xs) (any_in g xs)
  where
    four : (a b c d : Bool) → ((a || b) || (c || d)) ≡ ((a || c) || (b || d))
    four true b c d = refl
    four false true true d = refl
    four false true false d = refl
    four false false c d = refl

-- a part of the first list and the rest of it, or of the second
pub pair-part-first : (f : ℕ → ℕ → Bool) {xs : List ℕ} (ps rest ys : List ℕ) → xs ≡ ps ++ rest → any_pair f xs ys ≡ (any_pair f ps ys || any_pair f rest ys)
unfolding any_pair
pair-part-first f ps rest ys is = rw is (any_append (λ p. any_in (f p) ys) ps rest)

pub pair-part-second : (f : ℕ → ℕ → Bool) (xs : List ℕ) {ys : List ℕ} (qs rest : List ℕ) → ys ≡ qs ++ rest → any_pair f xs ys ≡ (any_pair f xs qs || any_pair f xs rest)
unfolding any_pair
pair-part-second f xs qs rest is =
    rw is (ap (λ (g : ℕ → Bool). any_in g xs) (fun_ext (λ p. any_append (f p) qs rest)) ∙ either (λ p. any_in (f p) qs) (λ p. any_in (f p) rest) xs)

-- past the end of the second list there is no pair
pub pair-none-second : (f : ℕ → ℕ → Bool) (xs ys : List ℕ) (k : ℕ) → length ys ≤ k → any_pair f xs (drop k ys) ≡ false
unfolding any_pair
pair-none-second f xs ys k l = ap (λ (g : ℕ → Bool). any_in g xs) (fun_ext (λ p. any_none (f p) ys k l)) ∙ never xs

-- a part without a pair is skipped; one with a pair decides; w is what the part and the rest give
pub part-skip : (s t w : Bool) → w ≡ (s || t) → s ≡ false → t ≡ w
part-skip s t w p e = sym (p ∙ or-false s t e)

pub part-hit : (s t w : Bool) → w ≡ (s || t) → s ≡ true → true ≡ w
part-hit s t w p e = rw (p, e)
