-- The arms of `floor_any32` and `floor32`: where x is below zero, the whole part of its size, or one more; and from 0 up to 1, a zero. Assumes nothing.
use mathlib.Core.Path.{◌≡◌, sym, ap, ◌∙◌, subst}
use Prim.Native.Nat.{ℕ, suc, ◌+◌, ◌*◌, ◌≤◌, ◌<◌}
use native.Mathlib.Nat.{le_trans, le_of_eq, lt_of_le_of_lt, mul-one, mul_right_comm, le_of_mul-le-mul_right, lt_of_mul-lt-mul_right, div-eq_of_lt}
use native.Mathlib.Numerals.{add-one}
use native.Mathlib.Omega.{arith}
use mathlib.Core.Bool.{true, false, not}
use lib.IntN.{pos}
use lib.Dec.{T, ltb→lt}
use lib.Ieee.{Float, nan, inf, fin, binary32, up, down, neg, mul, of_int, lt, le, eq, fits}
use lib.Ieee.Fits.{down_pos}
use lib.Ieee.Exact.{HasValue}
use lib.Ieee.Back.{round_whole}
use lib.Ieee.Positive.{num, den, den_pos, positive}
use Rattle.floats.specs.Whole.{ceiling, floor_of}
use Rattle.floats.specs.Standard.{unsigned}
use Rattle.floats.proofs.Fractions.{ceiling-le, ceiling-same, ceiling-next}
use Rattle.floats.proofs.Signs.{value-parts, value-unsigned, positive-unsigned}
use Rattle.floats.proofs.Signed.{of_test, lt→cross, nlt→cross}
use Rattle.floats.proofs.SizeTests.{zero32, part, of_int_is, Large, Nothing}
use Rattle.floats.proofs.WholeSizes.{floor_size, floor-rounds, large-stays, nothing-stays, arm-plus, arm-minus, arm-zero}

-- ---- n, the whole part of a, compared with a
module _ (a : Float) (p : T (positive a)) (n : ℕ) (v : n ≡ part a) (b : n ≤ 16777216) where
  t : Float
  t = of_int binary32 (pos n)

  t-value : HasValue t false n 1
  unfolding t
  t-value = subst (λ (z : Float). HasValue z false n 1) (sym (of_int_is binary32 n)) (round_whole binary32 false n b)

  t-unsigned : T (unsigned t)
  t-unsigned = value-unsigned t n 1 t-value

  -- n * den a, in t's fraction
  moved : num t * den a ≡ part a * den a * den t
  moved =
      ap (λ (k : ℕ). k * den a) (sym (mul-one (num t)) ∙ (value-parts t false n 1 t-value).1 ∙ ap (λ (k : ℕ). k * den t) v)
      ∙ mul_right_comm (part a) (den t) (den a)

  -- below it: there is a fraction, so the next whole number is the one above
  up_one : T (lt t a) → ceiling (num a) (den a) ≡ suc (part a)
  up_one h =
      ceiling-next (num a) (den a) (den_pos a) (lt_of_mul-lt-mul_right (den t)
      (lt_of_le_of_lt (le_of_eq (sym moved)) (lt→cross t a t-unsigned (positive-unsigned a p) h)))

  same : T (not (lt t a)) → ceiling (num a) (den a) ≡ part a
  same h =
      ceiling-same (num a) (den a) (den_pos a) (le_of_mul-le-mul_right
      (le_trans (nlt→cross t a t-unsigned (positive-unsigned a p) h) (le_of_eq moved)) (den_pos t))

-- ---- below zero
module _ (x : Float) (p : T (positive (neg x))) (n : ℕ) (v : n ≡ part (neg x)) (b : n ≤ 16777216) where
  pub floor-up : T (lt (of_int binary32 (pos n)) (neg x)) → neg (of_int binary32 (pos (n + 1))) ≡ floor_of binary32 x
  unfolding t
  floor-up h = arm-minus binary32 floor_size (floor_of binary32) (floor-rounds binary32) x (n + 1) p (add-one n ∙ ap suc v ∙ sym (up_one (neg x) p n v b h))

  pub floor-same : T (not (lt (of_int binary32 (pos n)) (neg x))) → neg (of_int binary32 (pos n)) ≡ floor_of binary32 x
  unfolding t
  floor-same h = arm-minus binary32 floor_size (floor_of binary32) (floor-rounds binary32) x n p (v ∙ sym (same (neg x) p n v b h))

-- ---- above zero, from 2 ^ 23 on, and at zero
pub floor-plus : (x : Float) (n : ℕ) → T (positive x) → n ≡ part x → of_int binary32 (pos n) ≡ floor_of binary32 x
floor-plus = arm-plus binary32 floor_size (floor_of binary32) (floor-rounds binary32)

pub floor-large : (x : Float) → T (fits binary32 x) → Large 23 x → x ≡ floor_of binary32 x
floor-large = large-stays binary32 floor_size (floor_of binary32) (floor-rounds binary32)

pub floor-nothing : (x : Float) → T (fits binary32 x) → Nothing x → x ≡ floor_of binary32 x
floor-nothing = nothing-stays binary32 floor_size (floor_of binary32) (floor-rounds binary32)

-- ---- from 0 up to 1, -0 included
abbrev pub one32 : Float
one32 = fin false 1 (pos 0)

pub unit-zero : (x : Float) → T (lt x one32) → T (le zero32 x) → mul binary32 x zero32 ≡ floor_of binary32 x
unfolding le lt eq
unit-zero nan a b = absurd a
unit-zero (inf true) a b = absurd b
unit-zero (inf false) a b = absurd a
unit-zero (fin false m e) a b =
    let l : m * up e * 1 < 1 * 1 * down e = ltb→lt (m * up e * 1) (1 * 1 * down e) a in
    arm-zero binary32 floor_size (floor_of binary32) (floor-rounds binary32) false m e (div-eq_of_lt (omega arith))
unit-zero (fin true m e) a b =
    let z : 0 * 1 * down e + m * up e * 1 ≤ 0 + 0 = of_test false (0 * 1 * down e) true (m * up e * 1) b in
    let c : ceiling (m * up e) (down e) ≤ 0 = ceiling-le (m * up e) (down e) 0 (down_pos e) (omega arith) in
    arm-zero binary32 floor_size (floor_of binary32) (floor-rounds binary32) true m e (omega arith)
