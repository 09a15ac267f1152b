-- `sqrt_of` is IEEE 754's square root of specs/Standard.antt, in any format: for an x that the format holds, finite and above zero, `sqrt_of f x` is
-- the format's value nearest to the root of x (`root-is-nearest`), and no other value is (`root-unique`). The proof is `RootUnits`'s, from units to
-- fractions. Assumes nothing.
use mathlib.Core.Path.{◌≡◌, sym, ap, ap₂, ◌∙◌}
use Prim.Native.Nat.{ℕ, zero, suc, ◌+◌, ◌*◌, ◌^◌, ◌≤◌, ◌<◌}
use native.Mathlib.Nat.{le_antisymm, le_of_eq, le_of_lt, lt_of_lt_of_le, lt_of_le_of_lt, lt_irrefl, add_comm, mul_comm, mul_assoc, mul_right_comm, mul-mul-mul_comm, add-mul, mul-pos, mul-lt-mul_of_pos_right, lt_of_mul-lt-mul_right}
use native.Mathlib.Omega.{arith}
use mathlib.Core.Bool.{true, false}
use lib.IntN.{ℤ}
use lib.Dec.{T, not_T}
use lib.Pow.{pow_pos}
use lib.Ieee.{Float, nan, inf, fin, Format, low, up, down, lt, fits}
use lib.Ieee.Fits.{down_pos}
use lib.Ieee.Positive.{num, den, den_pos, positive, positive-finite}
use Rattle.floats.specs.Root.{sqrt_of}
use Rattle.floats.specs.Standard.{IsRoot, cross_sum}
use Rattle.floats.proofs.Signs.{unsigned-finite, positive-unsigned, positive-sign}
use Rattle.floats.proofs.Held.{on-grid}
use Rattle.floats.proofs.SameValue.{same-value}
use Rattle.floats.proofs.Signed.{lt→cross, nlt→cross}
use Rattle.floats.proofs.RootUnits.{Squared, square, root_is}

-- ---- from units to fractions: ny / dy is Y / U and nz / dz is Z / U
module _ (ny dy nz dz Y Z U : ℕ) (a : ny * U ≡ Y * dy) (b : nz * U ≡ Z * dz) where
  first : ny * U * dz ≡ Y * dy * dz
  first = ap (λ (x : ℕ). x * dz) a

  second : nz * U * dy ≡ Z * dz * dy
  second = ap (λ (x : ℕ). x * dy) b

  cross-lt : 0 < U → ny * dz < nz * dy → Y < Z
  cross-lt P h =
      let l : ny * dz * U < nz * dy * U = mul-lt-mul_of_pos_right h P in
      lt_of_mul-lt-mul_right (dy * dz) (omega (arith, first, second))

  sum_is : (ny * dz + nz * dy) * U ≡ (Y + Z) * (dy * dz)
  sum_is = omega (arith, first, second, add-mul Y Z (dy * dz))

-- x is X / E, and A squared units; the sum y + z is S / D, and W units
module _ (X E A U S D W : ℕ) (a : X * (U * U) ≡ A * E) (b : S * U ≡ W * D) (DP : 0 < D) (EP : 0 < E) where
  left : 4 * X * (D * D) * (U * U) ≡ 4 * A * (E * (D * D))
  left =
      mul_right_comm (4 * X) (D * D) (U * U) ∙ ap (λ (x : ℕ). x * (D * D)) (mul_assoc 4 X (U * U) ∙ ap (λ (x : ℕ). 4 * x) a ∙ sym (mul_assoc 4 A E))
      ∙ mul_assoc (4 * A) E (D * D)

  right : S * S * E * (U * U) ≡ W * W * (E * (D * D))
  right =
      mul_right_comm (S * S) E (U * U) ∙ ap (λ (x : ℕ). x * E) (mul-mul-mul_comm S S U U ∙ ap₂ (λ (x y : ℕ). x * y) b b ∙ sym (mul-mul-mul_comm W W D D))
      ∙ mul_assoc (W * W) (D * D) E ∙ ap (λ (x : ℕ). W * W * x) (mul_comm (D * D) E)

  F : 0 < E * (D * D)
  F = mul-pos EP (mul-pos DP DP)

  to-above : 4 * A < W * W → 4 * X * (D * D) < S * S * E
  to-above h = lt_of_mul-lt-mul_right (U * U) (lt_of_le_of_lt (le_of_eq left) (lt_of_lt_of_le (mul-lt-mul_of_pos_right h F) (le_of_eq (sym right))))

  to_below : W * W < 4 * A → S * S * E < 4 * X * (D * D)
  to_below h = lt_of_mul-lt-mul_right (U * U) (lt_of_le_of_lt (le_of_eq right) (lt_of_lt_of_le (mul-lt-mul_of_pos_right h F) (le_of_eq (sym left))))

-- ---- the theorem
is-root : (f : Format) (m : ℕ) (e : ℤ) → T (fits f (fin false (suc m) e)) → T (positive (fin false (suc m) e))
    → IsRoot f (fin false (suc m) e) (sqrt_of f (fin false (suc m) e))
is-root f m e h p =
    let A = Squared f (suc m) e in
    let U = 2 ^ low f in
    let r = sqrt_of f (fin false (suc m) e) in
    let R = root_is f m e h in
    let Y = R.Y in
    let P = positive-unsigned r R.above_zero in
    record {
      domain = p;
      held = R.held;
      above_zero = R.above_zero;
      above = λ z k u l.
          let w = on-grid f z k (unsigned-finite z u) in
          let Z = w.0 * 2 ^ w.1 in
          to-above (suc m * up e) (down e) A U (cross_sum r z) (den r * den z) (Y + Z) (square f m e h)
          (sum_is (num r) (den r) (num z) (den z) Y Z U R.value w.3)
          (mul-pos (den_pos r) (den_pos z)) (down_pos e)
          (R.above w.0 w.1 w.2 (cross-lt (num r) (den r) (num z) (den z) Y Z U R.value w.3 (pow_pos (low f)) (lt→cross r z P u l)));
      below = λ z k u l.
          let w = on-grid f z k (unsigned-finite z u) in
          let Z = w.0 * 2 ^ w.1 in
          to_below (suc m * up e) (down e) A U (cross_sum r z) (den r * den z) (Y + Z) (square f m e h)
          (sum_is (num r) (den r) (num z) (den z) Y Z U R.value w.3)
          (mul-pos (den_pos r) (den_pos z)) (down_pos e)
          (R.below w.0 w.1 w.2 (cross-lt (num z) (den z) (num r) (den r) Z Y U w.3 R.value (pow_pos (low f)) (lt→cross z r u P l)));
    }

-- For any format, and any x above zero that it holds: `sqrt_of f x` is the value of the format nearest to the root of x.
pub root-is-nearest : (f : Format) (x : Float) → T (fits f x) → T (positive x) → IsRoot f x (sqrt_of f x)
root-is-nearest f nan h p = absurd p
root-is-nearest f (inf s) h p = absurd p
root-is-nearest f (fin true m e) h p = absurd p
root-is-nearest f (fin false zero e) h p = absurd p
root-is-nearest f (fin false (suc m) e) h p = is-root f m e h p

-- ---- no other value is the root
-- `IsRoot f x` holds of no two values one of which is above the other.
pub root-only : (f : Format) (x y z : Float) → IsRoot f x y → IsRoot f x z → T (lt y z) → ⊥
root-only f x y z p q h =
    let a = p.above z q.held (positive-unsigned z q.above_zero) h in
    let b = q.below y p.held (positive-unsigned y p.above_zero) h in
    let t : cross_sum z y ≡ cross_sum y z = add_comm (num z * den y) (num y * den z) in
    let d : den z * den y ≡ den y * den z = mul_comm (den z) (den y) in
    lt_irrefl (4 * num x * (den y * den z * (den y * den z)))
    (lt_of_lt_of_le a (le_of_lt (lt_of_le_of_lt (le_of_eq (sym (ap (λ (k : ℕ). k * k * den x) t)))
    (lt_of_lt_of_le b (le_of_eq (ap (λ (k : ℕ). 4 * num x * (k * k)) d))))))

not-above : (f : Format) (x y z : Float) → IsRoot f x y → IsRoot f x z → num z * den y ≤ num y * den z
not-above f x y z p q = nlt→cross y z (positive-unsigned y p.above_zero) (positive-unsigned z q.above_zero) (not_T (lt y z) (root-only f x y z p q))

pub root-unique : (f : Format) (x y z : Float) → IsRoot f x y → IsRoot f x z → y ≡ z
root-unique f x y z p q =
    let P = p.above_zero in
    let Q = q.above_zero in
    same-value f y z p.held q.held (positive-finite y P) (positive-finite z Q) (positive-sign y P ∙ sym (positive-sign z Q))
    (le_antisymm (not-above f x z y q p) (not-above f x y z p q))
