-- The root of a value that a format holds, in units of the format's smallest value: `root_units` is Y = q * 2 ^ (d + 1) units, the format holds it,
-- and the exact root lies on Y's side of the mean of Y and any other number of the format's digits (`RootIs`). The argument is `RootCore`'s, at p =
-- prec f. Assumes nothing.
use mathlib.Core.Path.{◌≡◌, refl, sym, ap, ◌∙◌, subst}
use Prim.Native.Nat.{ℕ, zero, suc, ◌+◌, ◌-◌, ◌*◌, ◌/◌, ◌^◌, ◌≤◌, ◌<◌}
use native.Mathlib.Nat.{le_refl, le_trans, le_of_eq, le_of_suc-le-suc, lt_of_lt_of_le, lt_of_le_of_lt, lt-suc_self, zero-lt-suc, add-suc, le-add_left, one-mul, mul_assoc, mul_right_comm, mul-mul-mul_comm, mul-pos, mul-le-mul_right, mul-lt-mul_of_pos_right, pow-succ', div-mul-le_self, mul-div_cancel, le-div_iff_mul-le, div-lt_iff_lt-mul}
use native.Mathlib.Omega.{arith}
use mathlib.Core.Bool.{Bool, true, false, cond}
use lib.IntN.{ℤ}
use lib.Dec.{T, ltb}
use lib.Pow.{pow-add, pow_pos, pow_mono, pow-lt}
use lib.Ieee.{Float, nan, inf, fin, Format, prec, emax, low, up, down, size, odd, units, fits}
use lib.Ieee.Fits.{inf-fits, kept-lt, odd-fits, two, two-le_pos, down_pos, nan-fits}
use lib.Ieee.Digits.{size_reaches}
use lib.Ieee.Exact.{units_val, HasValue}
use lib.Ieee.Positive.{positive, positive_of_value}
use Rattle.floats.specs.Root.{whole_root, sqrt_of, root_units}
use Rattle.floats.proofs.Powers.{pow-halved, pow-join, size-gt}
use Rattle.floats.proofs.Squares.{sq-le, sq-lt-back, whole_root-is}
use Rattle.floats.proofs.Signs.{value-parts}
use Rattle.floats.proofs.Held.{low-ge, emax-pos, fits-digits, Grid, fits-grid, fits_under, InUnits}
use Rattle.floats.proofs.RootCore.{above_root, below_root}

-- ---- the number whose root is taken: A = m * 2 ^ t
abbrev pub Squared : Format → ℕ → ℤ → ℕ
Squared f m e = m * up e * (2 ^ low f * 2 ^ low f) / down e

pub squared-is : (f : Format) (m : ℕ) (e : ℤ) (a : ℕ) → m * up e * 2 ^ low f ≡ a * down e → Squared f m e ≡ a * 2 ^ low f
squared-is f m e a h =
    let U = 2 ^ low f in
    ap (λ (x : ℕ). x / down e) (sym (mul_assoc (m * up e) U U) ∙ ap (λ (x : ℕ). x * U) h ∙ mul_right_comm a (down e) U) ∙ mul-div_cancel (a * U) (down_pos e)

-- ---- the root of q₀ * 2 ^ k units, a value that the format holds: A = q₀ * 2 ^ (k + low) squared units
module _ (f : Format) (q₀ k : ℕ) (Z : 0 < q₀) (M : q₀ < 2 ^ prec f) (O : q₀ * 2 ^ k < 2 ^ (low f + suc (emax f))) where
  abbrev A : ℕ
  A = q₀ * 2 ^ (k + low f)

  A-top : A < 2 ^ (low f + suc (emax f) + low f)
  A-top =
      lt_of_le_of_lt (le_of_eq (sym (pow-join q₀ k (low f))))
      (lt_of_lt_of_le (mul-lt-mul_of_pos_right O (pow_pos (low f))) (le_of_eq (sym (pow-add 2 (low f + suc (emax f)) (low f)))))

  abbrev p : ℕ
  p = prec f

  abbrev r : ℕ
  r = whole_root A

  abbrev d : ℕ
  d = size r - suc p

  abbrev R : ℕ
  R = r / 2 ^ d

  abbrev q : ℕ
  q = (R + 1) / 2

  -- p + p digits at least, since low is not below p + p
  long : p < size r
  long = size-gt r p (le_of_suc-le-suc (sq-lt-back (2 ^ p) (suc r) (lt_of_le_of_lt reached (whole_root-is A).1)))
    where
      reached : 2 ^ p * 2 ^ p ≤ A
      reached =
          le_trans (le_of_eq (sym (pow-add 2 p p)))
          (le_trans (pow_mono (le_trans (low-ge f) (le-add_left (low f) k)))
          (le_trans (le_of_eq (sym (one-mul (2 ^ (k + low f))))) (mul-le-mul_right (2 ^ (k + low f)) Z)))

  -- R, the leading p + 1 digits of the root
  R-lo : 2 ^ p ≤ R
  R-lo = (le-div_iff_mul-le (pow_pos d)).1 (le_trans (le_of_eq (sym (pow-add 2 p d))) (size_reaches r (p + d) (digits (size r) p long)))
    where
      digits : (z n : ℕ) → n < z → n + (z - suc n) < z
      digits z n h = omega arith

  R-hi : R < 2 ^ suc p
  R-hi = kept-lt (suc p) r

  lo : R * R * (2 ^ d * 2 ^ d) ≤ A
  lo = le_trans (le_of_eq (mul-mul-mul_comm R R (2 ^ d) (2 ^ d))) (le_trans (sq-le (div-mul-le_self r (2 ^ d))) (whole_root-is A).0)

  hi : A < suc R * suc R * (2 ^ d * 2 ^ d)
  hi =
      lt_of_lt_of_le (whole_root-is A).1
      (le_trans (sq-le ((div-lt_iff_lt-mul (pow_pos d)).0 (lt-suc_self R))) (le_of_eq (sym (mul-mul-mul_comm (suc R) (suc R) (2 ^ d) (2 ^ d)))))

  -- q, half of R and up: prec digits, or 2 ^ prec
  pub q-le : q ≤ 2 ^ p
  q-le =
      let e : 2 ^ suc p ≡ 2 * 2 ^ p = pow-succ' 2 p in
      let h : R < 2 ^ suc p = R-hi in
      omega arith

  q-ge : 0 < q
  q-ge =
      let a : 1 ≤ 2 ^ p = pow_pos p in
      let h : 2 ^ p ≤ R = R-lo in
      omega arith

  pub q-floor : 2 ^ (p - 1) ≤ q
  q-floor =
      let e : 2 ^ p ≡ 2 * 2 ^ (p - 1) = pow-halved p (two-le_pos p (two f)) in
      let h : 2 ^ p ≤ R = R-lo in
      omega arith

  -- q * 2 ^ (d + 1) units are below the overflow
  r-lt : r < 2 ^ (low f + emax f)
  r-lt =
      sq-lt-back r (2 ^ (low f + emax f))
      (lt_of_le_of_lt (whole_root-is A).0
      (lt_of_lt_of_le A-top (le_trans (pow_mono (fine (emax f) (low f) (emax-pos f))) (le_of_eq (pow-add 2 (low f + emax f) (low f + emax f))))))
    where
      fine : (e l : ℕ) → 1 ≤ e → l + suc e + l ≤ (l + e) + (l + e)
      fine e l h = omega arith

  under : q * 2 ^ suc d < 2 ^ (low f + suc (emax f))
  under =
      let a : R * 2 ^ d ≤ r = div-mul-le_self r (2 ^ d) in
      let b : q * 2 ^ d ≤ R * 2 ^ d = mul-le-mul_right (2 ^ d) (omega (arith, pow_pos p, R-lo)) in
      let e : q * 2 ^ suc d ≡ q * (2 * 2 ^ d) = ap (λ (x : ℕ). q * x) (pow-succ' 2 d) in
      let g : 2 ^ (low f + suc (emax f)) ≡ 2 * 2 ^ (low f + emax f) = ap (λ (x : ℕ). 2 ^ x) (add-suc (low f) (emax f)) ∙ pow-succ' 2 (low f + emax f) in
      omega (arith, r-lt)

  -- the value of so many units
  unfoldable pub y : Float
  y = units f false q (suc d)

  pub y-value : HasValue y false (q * (2 * 2 ^ d)) (2 ^ low f)
  unfolding y
  y-value = subst (λ (x : ℕ). HasValue (units f false q (suc d)) false (q * x) (2 ^ low f)) (pow-succ' 2 d) (units_val f false q (suc d) under)

  y-held : T (fits f y)
  unfolding y units
  y-held = go (ltb (q * 2 ^ suc d) (2 ^ (low f + suc (emax f))))
    where
      go : (b : Bool) → T (fits f (cond b (odd (suc (prec f)) false q (suc d) (low f)) (inf false)))
      go true = odd-fits f (suc (prec f)) false q (suc d) (lt_of_le_of_lt q-le (pow-lt (le_refl (suc (prec f))))) q-le under
      go false = inf-fits f false

  y-positive : T (positive y)
  y-positive = positive_of_value y (q * (2 * 2 ^ d)) (2 ^ low f) y-value (mul-pos q-ge (mul-pos (zero-lt-suc 1) (pow_pos d)))

  y-above : (c j : ℕ) → c < 2 ^ p → q * (2 * 2 ^ d) < c * 2 ^ j → 4 * A < (q * (2 * 2 ^ d) + c * 2 ^ j) * (q * (2 * 2 ^ d) + c * 2 ^ j)
  y-above = above_root p d R A q₀ (k + low f) (two-le_pos p (two f)) R-lo lo hi M refl

  y-below : (c j : ℕ) → c < 2 ^ p → c * 2 ^ j < q * (2 * 2 ^ d) → (q * (2 * 2 ^ d) + c * 2 ^ j) * (q * (2 * 2 ^ d) + c * 2 ^ j) < 4 * A
  y-below = below_root p d R A q₀ (k + low f) (two-le_pos p (two f)) R-lo lo hi M refl

-- ---- of a value m * 2 ^ e that the format holds
pub record RootIs (f : Format) (A : ℕ) (r : Float) : Type 0 where
  pub Y : ℕ
  pub held : T (fits f r)
  pub above_zero : T (positive r)
  pub value : InUnits f r Y
  pub above : (c j : ℕ) → c < 2 ^ prec f → Y < c * 2 ^ j → 4 * A < (Y + c * 2 ^ j) * (Y + c * 2 ^ j)
  pub below : (c j : ℕ) → c < 2 ^ prec f → c * 2 ^ j < Y → (Y + c * 2 ^ j) * (Y + c * 2 ^ j) < 4 * A

module _ (f : Format) (m : ℕ) (e : ℤ) (h : T (fits f (fin false (suc m) e))) where
  abbrev U : ℕ
  U = 2 ^ low f

  abbrev g : Grid f (suc m) e
  g = fits-grid f false (suc m) e h

  -- the value in squared units
  pub square : suc m * up e * (U * U) ≡ Squared f (suc m) e * down e
  square =
      sym (ap (λ (x : ℕ). x * down e) (squared-is f (suc m) e (suc m * 2 ^ g.0) g.1) ∙ mul_right_comm (suc m * 2 ^ g.0) U (down e)
      ∙ ap (λ (x : ℕ). x * U) (sym g.1) ∙ mul_assoc (suc m * up e) U U)

  pub root_is : RootIs f (Squared f (suc m) e) (sqrt_of f (fin false (suc m) e))
  unfolding sqrt_of y
  root_is =
      let k = g.0 in
      let Z = zero-lt-suc m in
      let M = fits-digits f false (suc m) e h in
      let O = fits_under f false (suc m) e h in
      let r = y f (suc m) k Z M O in
      let Y = q f (suc m) k Z M O * (2 * 2 ^ d f (suc m) k Z M O) in
      subst (λ (a : ℕ). RootIs f a (root_units f a)) (sym (squared-is f (suc m) e (suc m * 2 ^ k) g.1 ∙ pow-join (suc m) k (low f)))
      (record {
        Y = Y;
        held = y-held f (suc m) k Z M O;
        above_zero = y-positive f (suc m) k Z M O;
        value = (value-parts r false Y U (y-value f (suc m) k Z M O)).1;
        above = y-above f (suc m) k Z M O;
        below = y-below f (suc m) k Z M O;
      })

-- the root of a value of the format is one
pub sqrt-fits : (f : Format) (x : Float) → T (fits f x) → T (fits f (sqrt_of f x))
unfolding sqrt_of
sqrt-fits f nan h = nan-fits f
sqrt-fits f (inf true) h = nan-fits f
sqrt-fits f (inf false) h = inf-fits f false
sqrt-fits f (fin s zero e) h = h
sqrt-fits f (fin true (suc m) e) h = nan-fits f
sqrt-fits f (fin false (suc m) e) h = (root_is f m e h).held
