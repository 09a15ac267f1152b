-- The size of y * whole (x / y), where `whole` rounds to a whole number either way: at most twice the size of x and once that of y, however small y is.
-- This is what keeps a wrapped coordinate and a nearest image within bounds: x / y can be large, but y times it is not. Assumes nothing.
pub use Rattle.floats.proofs.Operations.{Nonzero}
use mathlib.Core.Path.{◌≡◌, refl, sym, ap, ◌∙◌, subst}
use mathlib.Core.Logic.{◌⊎◌, inl, inr}
use Prim.Native.Nat.{ℕ, ◌+◌, ◌-◌, ◌*◌, ◌/◌, ◌^◌, ◌≤◌, ◌<◌, zero-le}
use native.Mathlib.Nat.{le_trans, le_of_eq, le_of_lt, lt_of_not-le, zero-lt-suc, mul-one, mul_comm, mul_assoc, mul-pos, mul-le-mul_left, mul-le-mul_right, le_of_mul-le-mul_right, le-div_iff_mul-le, div-lt_iff_lt-mul}
use native.Mathlib.Omega.{arith}
use native.Mathlib.Decide.{dec_le}
use mathlib.Core.Bool.{Bool}
use lib.IntN.{ℤ}
use lib.Ieee.{Float, nan, inf, fin, Format, emax, unlike, up, down, size, round, mul, div}
use lib.Ieee.Fits.{up_pos, down_pos}
use lib.Ieee.Digits.{size-lt, size-le, size_reaches}
use Rattle.floats.specs.Whole.{floor_of, round_of}
use Rattle.floats.proofs.Powers.{suc-pred, pow-halved, size-gt}
use Rattle.floats.proofs.Operations.{div_is}
use Rattle.floats.proofs.Bounds.{Within, Exact, exact-pow, round-within}
use Rattle.floats.proofs.WholeSizes.{floor_size, round_size, Rounds, floor-rounds, round-rounds}

-- ---- a function that takes a value within a whole bound to one within it
abbrev pub Keeps : Format → (Float → Float) → Type 0
Keeps f g = (x : Float) (B : ℕ) → Exact f B → Within B x → Within B (g x)

rounds-keeps : (f : Format) (σ : Bool → ℕ → ℕ → ℕ) (g : Float → Float) → Rounds f σ g → Keeps f g
rounds-keeps f σ g r nan B X h = absurd h
rounds-keeps f σ g r (inf s) B X h = absurd h
rounds-keeps f σ g r (fin s m e) B X h =
    let n = σ s (m * up e) (down e) in
    subst (λ (z : Float). Within B z) (sym (r.at-fin s m e))
    (round-within f s n 1 B (zero-lt-suc 0) X (le_trans (r.bounded s (m * up e) (down e) B (down_pos e) h) (le_of_eq (sym (mul-one B)))))

pub round_keeps : (f : Format) → Keeps f (round_of f)
round_keeps f = rounds-keeps f round_size (round_of f) (round-rounds f)

pub floor-keeps : (f : Format) → Keeps f (floor_of f)
floor-keeps f = rounds-keeps f floor_size (floor_of f) (floor-rounds f)

-- ---- a power of two that is not below a / c, and is 1 or at most twice a / c
record Power (a c k : ℕ) : Type 0 where
  z : ℕ
  short : z ≤ k
  over : a ≤ 2 ^ z * c
  near : (z ≡ 0) ⊎ (2 ^ z * c ≤ 2 * a)

power : (a c k : ℕ) → 0 < c → a < 2 ^ k * c → Power a c k
power a c k C h = go (dec_le a c)
  where
    go : Dec (a ≤ c) → Power a c k
    go (yes l) = record { z = 0; short = zero-le; over = omega arith; near = inl refl }
    go (no l) =
        let w = a / c in
        let one : 1 ≤ w = (le-div_iff_mul-le C).1 (omega (arith, lt_of_not-le l)) in
        let some : 0 < size w = size-gt w 0 one in
        let half : 2 ^ (size w - 1) * c ≤ a = (le-div_iff_mul-le C).0 (size_reaches w (size w - 1) (le_of_eq (sym (suc-pred (size w) some)))) in
        let two : 2 ^ size w * c ≡ 2 * 2 ^ (size w - 1) * c = ap (λ (x : ℕ). x * c) (pow-halved (size w) some) in
        record {
          z = size w;
          short = size-le w k ((div-lt_iff_lt-mul C).1 h);
          over = le_of_lt ((div-lt_iff_lt-mul C).0 (size-lt w));
          near = inr (omega arith);
        }

-- ---- the image
-- x / y is below 2 ^ k in size
abbrev pub Ratio : ℕ → Float → Float → Type 0
Ratio k nan y = ⊥
Ratio k (inf s) y = ⊥
Ratio k (fin s m e) nan = ⊥
Ratio k (fin s m e) (inf t) = ⊥
Ratio k (fin s m e) (fin t n d) = m * up e * down d < 2 ^ k * (n * up d * down e)

-- y times a factor within P
mul-bound : (f : Format) (t : Bool) (n : ℕ) (d : ℤ) (z : Float) (P B : ℕ) → Within P z → Exact f B → P * (n * up d) ≤ B * down d
    → Within B (mul f (fin t n d) z)
unfolding mul
mul-bound f t n d nan P B w X h = absurd w
mul-bound f t n d (inf s) P B w X h = absurd w
mul-bound f t n d (fin s m e) P B w X h =
    round-within f (unlike t s) (n * up d * (m * up e)) (down d * down e) B (mul-pos (down_pos d) (down_pos e)) X
    (le_trans (mul-le-mul_left (n * up d) w)
    (le_trans (le_of_eq (sym (mul_assoc (n * up d) P (down e)) ∙ ap (λ (k : ℕ). k * down e) (mul_comm (n * up d) P)))
    (le_trans (mul-le-mul_right (down e) h) (le_of_eq (mul_assoc B (down d) (down e))))))

pub image-within : (f : Format) (g : Float → Float) → Keeps f g → (x y : Float) (D E B k : ℕ) → Within D x → Within E y → Nonzero y
    → Ratio k x y → k ≤ emax f → Exact f B → 2 * D + E ≤ B → Within B (mul f y (g (div f x y)))
image-within f g K nan y D E B k wx wy nz r ke X h = absurd wx
image-within f g K (inf s) y D E B k wx wy nz r ke X h = absurd wx
image-within f g K (fin s m e) nan D E B k wx wy nz r ke X h = absurd wy
image-within f g K (fin s m e) (inf t) D E B k wx wy nz r ke X h = absurd wy
image-within f g K (fin s m e) (fin t n d) D E B k wx wy nz r ke X h =
    let a = m * up e * down d in
    let c = n * up d * down e in
    let C : 0 < c = mul-pos (mul-pos nz (up_pos d)) (down_pos e) in
    let p = power a c k C r in
    let q = round f (unlike s t) a c in
    let P = exact-pow f p.z (le_trans p.short ke) in
    subst (λ (v : Float). Within B (mul f (fin t n d) (g v))) (sym (div_is f s m e t n d nz))
    (mul-bound f t n d (g q) (2 ^ p.z) B (K q (2 ^ p.z) P (round-within f (unlike s t) a c (2 ^ p.z) C P p.over)) X (bound p.z p.near))
  where
    scale : 2 * D + E ≤ B → (2 * D + E) * down d ≤ B * down d
    scale l = mul-le-mul_right (down d) l

    bound : (z : ℕ) → (z ≡ 0) ⊎ (2 ^ z * (n * up d * down e) ≤ 2 * (m * up e * down d)) → 2 ^ z * (n * up d) ≤ B * down d
    bound z (inl i) = le_trans (le_of_eq (ap (λ (j : ℕ). 2 ^ j * (n * up d)) i)) (omega (arith, wy, scale h))
    bound z (inr l) =
        let w : m * up e * down d ≤ D * down e * down d = mul-le-mul_right (down d) wx in
        let v : (2 * D + E) * down d * down e ≤ B * down d * down e = mul-le-mul_right (down e) (scale h) in
        le_of_mul-le-mul_right {m = 2 ^ z * (n * up d)} {n = B * down d} {k = down e} (omega arith) (down_pos e)
