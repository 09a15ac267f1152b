-- The arms of `narrow_size` and `narrow_bits`: an f64's pattern b, by its exponent's field e, and the f32's pattern that each arm gives; then the
-- sign, and the NaNs. Assumes nothing.
use mathlib.Core.Path.{◌≡◌, refl, sym, ap, ◌∙◌}
use mathlib.Core.Logic.{◌⊎◌, inl, inr}
use Prim.Native.Nat.{ℕ, zero, suc, ◌+◌, ◌-◌, ◌*◌, ◌/◌, ◌%◌, ◌^◌, ◌≤◌, ◌<◌}
use native.Mathlib.Nat.{le_trans, le_of_eq, lt_of_lt_of_le, zero-lt-suc, eq-or-lt_of_le, add_comm, le-add_right, mul-le-mul, mul-lt-mul_of_pos_right}
use native.Mathlib.Omega.{arith}
use mathlib.Core.Bool.{true, false}
use lib.Dec.{T, lit≤}
use lib.Pow.{pow-add, pow_mono}
use lib.Bits.{bit_and, bit_or}
use lib.Ieee.{Float, nan, inf, fin, binary32, binary64, up, down, units, round, neg, of_bits, to_bits}
use lib.Ieee.Nearest.{closest}
use Rattle.floats.specs.Convert.{narrow_of}
use Rattle.floats.proofs.Signs.{plain, plain-round}
use Rattle.floats.proofs.Negation.{narrow-neg}
use Rattle.floats.proofs.Patterns.{nan32, nan_pattern}
use Rattle.floats.proofs.Fields.{lead_is, low_value, normal-value, with_lead, plain-pattern, neg-pattern}
use Rattle.floats.proofs.Packing.{units-inf, to_bits-neg}
use Rattle.floats.proofs.ClosestShift.{closest-le, closest-ge, closest-zero}
use Rattle.floats.proofs.NarrowRounds.{narrow-value, rounds-normal, rounds-low, inf_bits, units-bits}

-- the pattern of the f32 nearest to the f64 whose pattern is b
abbrev narrowed : ℕ → ℕ
narrowed b = to_bits binary32 (narrow_of binary32 (of_bits binary64 b))

-- ---- with no sign
module _ (b : ℕ) (h : b ≤ 0x7ff0_0000_0000_0000) where
  abbrev e : ℕ
  e = b / 4503599627370496

  abbrev digits : ℕ
  digits = 4503599627370496 + b % 4503599627370496

  b_lt : b < 2 ^ 63
  b_lt = omega arith

  digits-lo : 2 ^ 52 ≤ digits
  digits-lo = le-add_right (2 ^ 52) (b % 4503599627370496)

  digits-hi : digits < 2 ^ 53
  digits-hi = with_lead binary64 b

  -- a normal f64
  value-is : 0 < e → e < 2047 → narrow_of binary32 (of_bits binary64 b) ≡ round binary32 false (digits * 2 ^ (e - 1)) (2 ^ 1074)
  value-is k l = narrow-value (of_bits binary64 b) (digits * 2 ^ (e - 1)) (normal-value binary64 b (e - 1) b_lt (omega arith) (omega arith))

  normal-is : 897 ≤ e → e < 2047 → narrow_of binary32 (of_bits binary64 b) ≡ units binary32 false (closest digits (2 ^ 29)) (e - 897)
  normal-is k l =
      let z : 0 < e = omega arith in
      let y : 896 ≤ e - 1 = omega arith in
      let w : e - 1 - 896 ≡ e - 897 = omega arith in
      value-is z l ∙ rounds-normal digits (e - 1) digits-lo digits-hi y ∙ ap (λ (i : ℕ). units binary32 false (closest digits (2 ^ 29)) i) w

  low-is : 0 < e → e < 897 → narrow_of binary32 (of_bits binary64 b) ≡ units binary32 false (closest digits (2 ^ (926 - e))) 0
  low-is k l =
      let o : e < 2047 = omega arith in
      let y : e - 1 ≤ 895 = omega arith in
      let w : 925 - (e - 1) ≡ 926 - e = omega arith in
      value-is k o ∙ rounds-low digits (e - 1) digits-hi y ∙ ap (λ (i : ℕ). units binary32 false (closest digits (2 ^ i)) 0) w

  -- the digits as the code has them, and r is what `shift_nearest` keeps of them
  abbrev code : ℕ
  code = bit_or (bit_and b 4503599627370495) 4503599627370496

  kept : (r d : ℕ) → r ≡ closest code (2 ^ d) → r ≡ closest digits (2 ^ d)
  kept r d i = i ∙ ap (λ (q : ℕ). closest q (2 ^ d)) (lead_is binary64 b)

  -- to a normal f32
  kept-ge : 8388608 ≤ closest digits (2 ^ 29)
  kept-ge = closest-ge digits 29 23 digits-lo

  pub narrow-normal-le : (r : ℕ) → r ≡ closest code (2 ^ 29) → r ≤ 16777216
  narrow-normal-le r i = le_trans (le_of_eq (kept r 29 i)) (closest-le digits 29 24 digits-hi)

  pub narrow-normal : (r : ℕ) → r ≡ closest code (2 ^ 29) → 897 ≤ e → e < 1151 → (e - 897) * 8388608 + r ≡ narrowed b
  narrow-normal r i k l =
      let o : e < 2047 = omega arith in
      let j : e - 897 ≤ 253 = omega arith in
      ap (λ (x : ℕ). (e - 897) * 8388608 + x) (kept r 29 i)
      ∙ sym (ap (to_bits binary32) (normal-is k o) ∙ units-bits (closest digits (2 ^ 29)) (e - 897) (λ z. kept-ge) (closest-le digits 29 24 digits-hi) j)

  -- to a subnormal one
  low_bits : (q : ℕ) → q ≤ 2 ^ 24 → q ≡ to_bits binary32 (units binary32 false q 0)
  low_bits q k = sym (units-bits q 0 (λ z. absurd (omega (arith, z))) k (lit≤ tt) ∙ none q)
    where
      none : (x : ℕ) → 0 * 8388608 + x ≡ x
      none x = omega arith

  pub narrow-low-le : (r : ℕ) → r ≡ closest code (2 ^ (926 - e)) → 872 ≤ e → e < 897 → r ≤ 16777216
  narrow-low-le r i k l =
      let y : 53 ≤ 24 + (926 - e) = omega arith in
      le_trans (le_of_eq (kept r (926 - e) i)) (closest-le digits (926 - e) 24 (lt_of_lt_of_le digits-hi (pow_mono y)))

  pub narrow-low : (r : ℕ) → r ≡ closest code (2 ^ (926 - e)) → 872 ≤ e → e < 897 → r ≡ narrowed b
  narrow-low r i k l =
      let z : 0 < e = omega arith in
      low_bits r (narrow-low-le r i k l) ∙ ap (λ (q : ℕ). to_bits binary32 (units binary32 false q 0)) (kept r (926 - e) i) ∙ sym (ap (to_bits binary32) (low-is z l))

  -- to zero: what is kept of q is nothing
  nothing : (q d : ℕ) → q * 2 < 2 ^ d → 0 ≡ to_bits binary32 (units binary32 false (closest q (2 ^ d)) 0)
  nothing q d l = low_bits 0 (lit≤ tt) ∙ ap (λ (x : ℕ). to_bits binary32 (units binary32 false x 0)) (sym (closest-zero q d l))

  pub narrow-zero : e < 872 → 0 ≡ narrowed b
  narrow-zero k = go e refl
    where
      go : (x : ℕ) → e ≡ x → 0 ≡ narrowed b
      go zero z =
          let t : b < 2 ^ 52 = omega arith in
          nothing b 925 (lt_of_lt_of_le (mul-lt-mul_of_pos_right t (zero-lt-suc 1)) (lit≤ tt))
          ∙ sym (ap (to_bits binary32) (narrow-value (of_bits binary64 b) (b * 2 ^ 0) (low_value binary64 b t) ∙ rounds-low b 0
          (lt_of_lt_of_le t (lit≤ tt)) (lit≤ tt)))
      go (suc x) z =
          let p : 0 < e = omega arith in
          let l : e < 897 = omega arith in
          let y : 54 ≤ 926 - e = omega arith in
          nothing digits (926 - e) (lt_of_lt_of_le (mul-lt-mul_of_pos_right digits-hi (zero-lt-suc 1)) (pow_mono {i = 54} {j = 926 - e} y))
          ∙ sym (ap (to_bits binary32) (low-is p l))

  -- to infinity
  pub narrow-over : 1151 ≤ e → 0x7f80_0000 ≡ narrowed b
  narrow-over k = go (eq-or-lt_of_le e-le)
    where
      e-le : e ≤ 2047
      e-le = omega arith

      inf-is : narrow_of binary32 (of_bits binary64 0x7ff0_0000_0000_0000) ≡ inf false
      inf-is = unfold narrow_of of_bits in refl

      go : (e ≡ 2047) ⊎ (e < 2047) → 0x7f80_0000 ≡ narrowed b
      go (inl z) =
          let w : b ≡ 0x7ff0_0000_0000_0000 = omega arith in
          sym (ap narrowed w ∙ ap (to_bits binary32) inf-is ∙ inf_bits)
      go (inr z) =
          let l : 897 ≤ e = omega arith in
          let i : 254 ≤ e - 897 = omega arith in
          sym (ap (to_bits binary32) (normal-is l z ∙ units-inf binary32 false (closest digits (2 ^ 29)) (e - 897)
          (le_trans (le_of_eq (pow-add 2 23 254)) (mul-le-mul kept-ge (pow_mono i)))) ∙ inf_bits)

-- ---- the sign: a pattern with it set is read as the opposite, and the opposite's pattern is 2 ^ 31 more
plain-narrow : (x : Float) → T (plain x) → T (plain (narrow_of binary32 x))
unfolding narrow_of
plain-narrow nan p = absurd p
plain-narrow (inf true) p = absurd p
plain-narrow (inf false) p = tt
plain-narrow (fin true m e) p = absurd p
plain-narrow (fin false m e) p = plain-round binary32 (m * up e) (down e)

pub narrow-minus : (b n : ℕ) → 2 ^ 63 ≤ b → n ≡ b % 2 ^ 63 → n ≤ 0x7ff0_0000_0000_0000 → narrowed n + 2147483648 ≡ narrowed b
narrow-minus b n k e l =
    add_comm (narrowed n) 2147483648
    ∙ sym (ap (λ (x : Float). to_bits binary32 (narrow_of binary32 x)) (neg-pattern binary64 b k ∙ ap (λ (x : ℕ). neg (of_bits binary64 x)) (sym e))
    ∙ ap (to_bits binary32) (narrow-neg binary32 (of_bits binary64 n))
    ∙ to_bits-neg binary32 (narrow_of binary32 (of_bits binary64 n)) (plain-narrow (of_bits binary64 n) (plain-pattern binary64 n (omega arith) (top-only n l))))
  where
    top-only : (x : ℕ) → x ≤ 0x7ff0_0000_0000_0000 → x / 4503599627370496 ≡ 2047 → x % 4503599627370496 ≡ 0
    top-only x u v = omega arith

-- ---- a NaN
pub narrow-nan : (b : ℕ) → 0x7ff0_0000_0000_0000 < bit_and b 0x7fff_ffff_ffff_ffff → 0x7fc0_0000 ≡ narrowed b
unfolding narrow_of
narrow-nan b h = nan32 ∙ sym (ap (λ (x : Float). to_bits binary32 (narrow_of binary32 x)) (nan_pattern binary64 b h))
