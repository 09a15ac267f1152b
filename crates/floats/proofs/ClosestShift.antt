-- `shift_nearest`: the whole number nearest to q / 2 ^ k (`closest`) by a shift and a mask, and its bounds by powers of two. Nothing here is about
-- floats. Assumes nothing.
use mathlib.Core.Path.{◌≡◌, sym, ap, ◌∙◌, subst}
use Prim.Native.Nat.{ℕ, ◌+◌, ◌-◌, ◌*◌, ◌/◌, ◌%◌, ◌^◌, ◌≤◌, ◌<◌, compare}
use native.Mathlib.Nat.{le_trans, le_antisymm, le_of_eq, one-mul, div-eq_of_lt, le-div_iff_mul-le, mod-eq_of_lt}
use native.Mathlib.Numerals.{add-one}
use native.Mathlib.Omega.{arith}
use lib.Pow.{pow-add, pow_pos, pow-lt, shr_lt}
use lib.Bits.{bit_and, and_mask}
use lib.Ieee.Fits.{nearest-le}
use lib.Ieee.Nearest.{closest, nearest-ge}
use Rattle.floats.proofs.NearestClose.{closest-down, closest-up, closest-tie}

-- ---- the code's unit 1 << k, and its mask
pub unit-is : (k : ℕ) → k < 64 → 1 * 2 ^ k % 2 ^ 64 ≡ 2 ^ k
unit-is k h = ap (λ (x : ℕ). x % 2 ^ 64) (one-mul (2 ^ k)) ∙ mod-eq_of_lt (pow-lt h)

mask_is : (q k : ℕ) → k < 64 → bit_and q (1 * 2 ^ k % 2 ^ 64 - 1) ≡ q % 2 ^ k
mask_is q k h = ap (λ (x : ℕ). bit_and q (x - 1)) (unit-is k h) ∙ and_mask q k

-- ---- its three answers
module _ (q k : ℕ) (h : k < 64) where
  abbrev unit : ℕ
  unit = 1 * 2 ^ k % 2 ^ 64

  abbrev twice : ℕ
  twice = bit_and q (unit - 1) * 2

  -- a test of the code's numbers, as one of q's
  lower : (P : ℕ → ℕ → Type 0) → P twice unit → P (q % 2 ^ k * 2) (2 ^ k)
  lower P t = subst (λ (x : ℕ). P (q % 2 ^ k * 2) x) (unit-is k h) (subst (λ (x : ℕ). P (x * 2) unit) (mask_is q k h) t)

  pub shift-down : twice < unit → q / 2 ^ k ≡ closest q (2 ^ k)
  shift-down t = sym (closest-down q (2 ^ k) (lower (λ a b. a < b) t))

  pub shift-up : unit < twice → q / 2 ^ k + 1 ≡ closest q (2 ^ k)
  shift-up t = add-one (q / 2 ^ k) ∙ sym (closest-up q (2 ^ k) (lower (λ a b. b < a) t))

  pub shift-tie : unit ≤ twice → twice ≤ unit → q / 2 ^ k + q / 2 ^ k % 2 ≡ closest q (2 ^ k)
  shift-tie t s = sym (closest-tie q (2 ^ k) (le_antisymm (lower (λ a b. a ≤ b) s) (lower (λ a b. b ≤ a) t)))

-- ---- bounds
pub closest-le : (q k b : ℕ) → q < 2 ^ (b + k) → closest q (2 ^ k) ≤ 2 ^ b
closest-le q k b h = le_trans (nearest-le (q / 2 ^ k) (compare (q % 2 ^ k * 2) (2 ^ k))) (shr_lt b k h)

pub closest-ge : (q k b : ℕ) → 2 ^ (b + k) ≤ q → 2 ^ b ≤ closest q (2 ^ k)
closest-ge q k b h =
    le_trans ((le-div_iff_mul-le (pow_pos k)).1 (le_trans (le_of_eq (sym (pow-add 2 b k))) h)) (nearest-ge (q / 2 ^ k) (compare (q % 2 ^ k * 2) (2 ^ k)))

pub closest-zero : (q k : ℕ) → q * 2 < 2 ^ k → closest q (2 ^ k) ≡ 0
closest-zero q k h =
    let small : q < 2 ^ k = omega arith in
    closest-down q (2 ^ k) (subst (λ (x : ℕ). x * 2 < 2 ^ k) (sym (mod-eq_of_lt small)) h) ∙ div-eq_of_lt small
