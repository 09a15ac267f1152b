-- Narrowing over whole numbers: q * 2 ^ j units of 2 ^ -1074, an f64's, rounded to units of 2 ^ -149, an f32's, and the pattern of the result.
-- Assumes nothing.
use mathlib.Core.Path.{◌≡◌, refl, sym, ap, ap₂, ◌∙◌}
use mathlib.Core.Logic.{◌⊎◌, inl, inr}
use Prim.Native.Nat.{ℕ, suc, ◌+◌, ◌-◌, ◌*◌, ◌/◌, ◌^◌, ◌≤◌, ◌<◌}
use native.Mathlib.Nat.{le_trans, le_of_eq, lt_of_lt_of_le, lt_of_le_of_lt, eq-or-lt_of_le, sub-eq-zero_of_le, mul-pos, mul-le-mul_right, mul-lt-mul_of_pos_right, le-div_iff_mul-le, div-lt_iff_lt-mul}
use native.Mathlib.Omega.{arith}
use mathlib.Core.Bool.{true, false, true≢false}
use lib.Pow.{pow-add, pow_pos, pow_mono, pow-lt, shl_lt}
use lib.Ieee.{Float, nan, inf, fin, binary32, up, down, size, units, round, to_bits}
use lib.Ieee.Fits.{core, round_is, down_pos}
use lib.Ieee.Digits.{size-le}
use lib.Ieee.Exact.{HasValue, units_val}
use lib.Ieee.Nearest.{closest, closest_same}
use lib.Ieee.Scale.{round_same}
use Rattle.floats.specs.Convert.{narrow_of}
use Rattle.floats.proofs.Powers.{pow-join, size_is}
use Rattle.floats.proofs.Packing.{plus-bits, units-inf}

pub narrow-value : (x : Float) (a : ℕ) → HasValue x false a (2 ^ 1074) → narrow_of binary32 x ≡ round binary32 false a (2 ^ 1074)
unfolding narrow_of
narrow-value nan a v = absurd v
narrow-value (inf s) a v = absurd v
narrow-value (fin true m e) a v = absurd (true≢false v.0)
narrow-value (fin false m e) a v = round_same binary32 false (m * up e) (down e) a (2 ^ 1074) (down_pos e) (pow_pos 1074) v.1

-- ---- rounding
module _ (q j : ℕ) where
  abbrev n : ℕ
  n = q * 2 ^ j * 2 ^ 149

  n-is : n ≡ q * 2 ^ (j + 149)
  n-is = pow-join q j 149

  -- below 2 ^ i units, where q has 53 digits at most
  under : (i : ℕ) → q < 2 ^ 53 → 53 + (j + 149) ≤ i + 1074 → n / 2 ^ 1074 < 2 ^ i
  under i hi s =
      (div-lt_iff_lt-mul (pow_pos 1074)).1
      (lt_of_le_of_lt (le_of_eq n-is) (lt_of_lt_of_le (mul-lt-mul_of_pos_right hi (pow_pos (j + 149)))
      (le_trans (le_of_eq (sym (pow-add 2 53 (j + 149)))) (le_trans (pow_mono s) (le_of_eq (pow-add 2 i 1074))))))

  -- k digits are dropped, and of q then d
  dropped : (k d : ℕ) → size (n / 2 ^ 1074) - 24 ≡ k → j + 149 + d ≡ 1074 + k
      → round binary32 false (q * 2 ^ j) (2 ^ 1074) ≡ units binary32 false (closest q (2 ^ d)) k
  dropped k d s e =
      round_is binary32 false (q * 2 ^ j) (2 ^ 1074)
      ∙ ap (λ (x : ℕ). core binary32 false n (2 ^ 1074) x) s
      ∙ ap (λ (x : ℕ). units binary32 false x k)
      (closest_same n (2 ^ 1074 * 2 ^ k) q (2 ^ d) (mul-pos (pow_pos 1074) (pow_pos k)) (pow_pos d)
      (ap (λ (x : ℕ). x * 2 ^ d) n-is ∙ pow-join q (j + 149) d ∙ ap (λ (x : ℕ). q * x) (ap (λ (x : ℕ). 2 ^ x) e ∙ pow-add 2 1074 k)))

  -- 53 digits, and the result is no subnormal
  pub rounds-normal : 2 ^ 52 ≤ q → q < 2 ^ 53 → 896 ≤ j
      → round binary32 false (q * 2 ^ j) (2 ^ 1074) ≡ units binary32 false (closest q (2 ^ 29)) (j - 896)
  rounds-normal lo hi J =
      dropped (j - 896) 29 (ap (λ (z : ℕ). z - 24) (size_is (n / 2 ^ 1074) (23 + (j - 896)) reached (under (suc (23 + (j - 896))) hi (omega arith)))
      ∙ less (j - 896)) (omega arith)
    where
      less : (x : ℕ) → suc (23 + x) - 24 ≡ x
      less x = omega arith

      sums : (x : ℕ) → 896 ≤ x → 23 + (x - 896) + 1074 ≡ 52 + (x + 149)
      sums x h = omega arith

      reached : 2 ^ (23 + (j - 896)) ≤ n / 2 ^ 1074
      reached =
          (le-div_iff_mul-le (pow_pos 1074)).1
          (le_trans (le_of_eq (sym (pow-add 2 (23 + (j - 896)) 1074) ∙ ap (λ (x : ℕ). 2 ^ x) (sums j J) ∙ pow-add 2 52 (j + 149)))
          (le_trans (mul-le-mul_right (2 ^ (j + 149)) lo) (le_of_eq (sym n-is))))

  -- below 2 ^ 24 units of 2 ^ -149
  pub rounds-low : q < 2 ^ 53 → j ≤ 895 → round binary32 false (q * 2 ^ j) (2 ^ 1074) ≡ units binary32 false (closest q (2 ^ (925 - j))) 0
  rounds-low hi J = dropped 0 (925 - j) (sub-eq-zero_of_le (size-le (n / 2 ^ 1074) 24 (under 24 hi (omega arith)))) (omega arith)

-- ---- the pattern of the result, up to infinity's
pub inf_bits : to_bits binary32 (inf false) ≡ 0x7f80_0000
unfolding to_bits
inf_bits = refl

pub units-bits : (q k : ℕ) → (0 < k → 2 ^ 23 ≤ q) → q ≤ 2 ^ 24 → k ≤ 253 → to_bits binary32 (units binary32 false q k) ≡ k * 2 ^ 23 + q
units-bits q k full hi K = go (eq-or-lt_of_le hi) (eq-or-lt_of_le K)
  where
    fits : q * 2 ^ k < 2 ^ 277 → to_bits binary32 (units binary32 false q k) ≡ k * 2 ^ 23 + q
    fits h = plus-bits binary32 (units binary32 false q k) q k (units_val binary32 false q k h) full hi

    go : (q ≡ 2 ^ 24) ⊎ (q < 2 ^ 24) → (k ≡ 253) ⊎ (k < 253) → to_bits binary32 (units binary32 false q k) ≡ k * 2 ^ 23 + q
    go (inr l) z = fits (lt_of_lt_of_le (shl_lt 24 k l) (pow_mono {i = 24 + k} {j = 277} (omega arith)))
    go (inl e) (inr z) = fits (lt_of_le_of_lt (le_of_eq (ap (λ (x : ℕ). x * 2 ^ k) e ∙ sym (pow-add 2 24 k))) (pow-lt {i = 24 + k} {j = 277} (omega arith)))
    go (inl e) (inl z) =
        ap (to_bits binary32) (units-inf binary32 false q k (le_of_eq (sym (ap₂ (λ (x y : ℕ). x * 2 ^ y) e z)))) ∙ inf_bits
        ∙ sym (ap₂ (λ (x y : ℕ). y * 2 ^ 23 + x) e z)
