-- How many digits a number has, between two powers of ten, and how many are written.
-- Assumes nothing.
use mathlib.Core.Path.{◌≡◌, refl, sym}
use Rattle.std.proofs.Common.{max}
use native.Mathlib.Nat.{one-le-pow}
use mathlib.Core.Bool.{Bool, true, false, cond}
use mathlib.Core.List.{[], ◌∷◌, ◌++◌}
use Prim.Native.Nat.{ℕ, zero, suc, ◌+◌, ◌-◌, ◌*◌, ◌/◌, ◌%◌, ◌^◌, ◌≤◌, ◌<◌}
use native.Mathlib.Omega.{arith}
use lib.Dec.{ltb}
use lib.ListN.{length, length-append}
use borrow.Author.Tests.{lt-ltb, le-ltb}
use Rattle.text.specs.Text.{glyph, digits, places_in, places}

-- a number between two powers of ten
between : (f k n : ℕ) → k ≤ f → 10 ^ k ≤ n → n < 10 * 10 ^ k → places_in f n ≡ k + 1
unfolding places_in
between zero zero n l h m = refl
between zero (suc k) n l h m = absurd (omega arith)
between (suc f) zero n l h m = rw (lt-ltb n 10 (omega arith))
between (suc f) (suc k) n l h m =
    let one : 1 ≤ 10 ^ k = one-le-pow k 10 (omega arith) in
    let few : 10 ≤ n = omega arith in
    let rest : places_in f (n / 10) ≡ k + 1 = between f k (n / 10) (omega arith) (omega arith) (omega arith) in
    rw (le-ltb n 10 few) (omega arith)

-- 0 has as many digits as 1
pub places-between : (k n : ℕ) → k < 20 → 10 ^ k ≤ max n 1 → max n 1 < 10 * 10 ^ k → k + 1 ≡ places n
unfolding places places_in
places-between k zero l h m = sym (between 19 k 1 (omega arith) h m)
places-between k (suc n) l h m = sym (between 19 k (suc n) (omega arith) (omega arith) (omega arith))

few : (f n : ℕ) → places_in f n ≤ suc f
unfolding places_in
few zero n = omega arith
few (suc f) n = by-test (ltb n 10) (few f (n / 10))
  where
    by-test : (t : Bool) → places_in f (n / 10) ≤ suc f → cond t 1 (places_in f (n / 10) + 1) ≤ suc (suc f)
    by-test true r = omega arith
    by-test false r = omega arith

pub places-few : (n : ℕ) → places n ≤ 20
unfolding places
places-few n = few 19 n

pub length_digits : (b k n : ℕ) → length (digits b k n) ≡ k
unfolding digits
length_digits b zero n = refl
length_digits b (suc k) n = simp length-append (omega (arith, length_digits b k (n / b)))

pub digits_more : (b k n : ℕ) → 0 < k → digits b k n ≡ digits b (k - 1) (n / b) ++ (glyph (n % b) ∷ [])
unfolding digits
digits_more b zero n h = absurd (omega arith)
digits_more b (suc k) n h = let e : suc k - 1 ≡ k = omega arith in rw e
