-- Rounding a square root to p binary digits, over whole numbers and for any p. A is the number whose root is wanted, g = 2 ^ d, and R is A's root
-- with the digits below g cut off: R * g ≤ √A < (R + 1) * g. R has p + 1 digits, and q = (R + 1) / 2 is the result, in units of 2 * g. Z is any other
-- number of p digits at most, times a power of two. Then 2 * √A lies on q's side of q * 2 * g + Z. Nothing here is about floats. Assumes nothing.
use mathlib.Core.Path.{◌≡◌, refl, sym, ap, ap₂, ◌∙◌, subst}
use mathlib.Core.Logic.{◌⊎◌, inl, inr}
use Prim.Native.Nat.{ℕ, zero, suc, ◌+◌, ◌-◌, ◌*◌, ◌/◌, ◌%◌, ◌^◌, ◌≤◌, ◌<◌}
use native.Mathlib.Nat.{le_trans, le_of_eq, le_of_lt, le_of_suc-le-suc, lt_of_lt_of_le, lt_of_le_of_lt, lt_of_not-le, lt_irrefl, zero-lt-suc, mul_assoc, mul_left_comm, mul-mul-mul_comm, add-mul, mul-pos, mul-le-mul_left, mul-le-mul_right, mul-lt-mul_of_pos_right, lt_of_mul-lt-mul_right, eq_of_mul-eq-mul_right, pow-succ', mul-mod_left}
use native.Mathlib.Omega.{arith}
use native.Mathlib.Decide.{dec_le}
use lib.Arith.{lt_of_le-ne}
use lib.Pow.{pow-add, pow_pos, pow_mono}
use Rattle.floats.proofs.Powers.{pow-halved, pow-shift, pow_lt_back}
use Rattle.floats.proofs.Squares.{sq-double, sq-odd, sq-le, sq-lt}

-- (a * 2g)² is 4 * (a² * g²)
doubled : (a g : ℕ) → a * (2 * g) * (a * (2 * g)) ≡ 4 * (a * a * (g * g))
doubled a g = mul-mul-mul_comm a (2 * g) a (2 * g) ∙ ap (λ (x : ℕ). a * a * x) (sq-double g) ∙ mul_left_comm (a * a) 4 (g * g)

above-core : (R q A g W : ℕ) → A < suc R * suc R * (g * g) → R ≤ 2 * q → (2 * q + 1) * (2 * g) ≤ W → 4 * A < W * W
above-core R q A g W h k w =
    let n : suc R ≤ 2 * q + 1 = omega arith in
    let a : suc R * (2 * g) * (suc R * (2 * g)) ≤ W * W = sq-le (le_trans (mul-le-mul_right (2 * g) n) w) in
    let e : suc R * (2 * g) * (suc R * (2 * g)) ≡ 4 * (suc R * suc R * (g * g)) = doubled (suc R) g in
    omega arith

-- where W is below 2 * R * g
below-strict : (R A g W : ℕ) → R * R * (g * g) ≤ A → W < R * (2 * g) → W * W < 4 * A
below-strict R A g W h w =
    let a : W * W < R * (2 * g) * (R * (2 * g)) = sq-lt w in
    let e : R * (2 * g) * (R * (2 * g)) ≡ 4 * (R * R * (g * g)) = doubled R g in
    omega arith

-- and where it may be 2 * R * g, which is not the root
below-tie : (R A g W : ℕ) → R * R * (g * g) < A → W ≤ R * (2 * g) → W * W < 4 * A
below-tie R A g W h w =
    let a : W * W ≤ R * (2 * g) * (R * (2 * g)) = sq-le w in
    let e : R * (2 * g) * (R * (2 * g)) ≡ 4 * (R * R * (g * g)) = doubled R g in
    omega arith

-- ---- a number Z of p digits at most, times 2 ^ j: a multiple of 2 ^ (d + 1), or below 2 ^ (p + d)
abbrev Gap : ℕ → ℕ → ℕ → Type 0
Gap p d Z = ((c : ℕ) × (Z ≡ c * (2 * 2 ^ d))) ⊎ (Z < 2 ^ p * 2 ^ d)

gap : (p d c j : ℕ) → c < 2 ^ p → Gap p d (c * 2 ^ j)
gap p d c j h = go (dec_le (suc d) j)
  where
    go : Dec (suc d ≤ j) → Gap p d (c * 2 ^ j)
    go (yes l) = inl (c * 2 ^ (j - suc d), sym (pow-shift c j (suc d) l) ∙ ap (λ (x : ℕ). c * 2 ^ (j - suc d) * x) (pow-succ' 2 d))
    go (no l) = inr (lt_of_le_of_lt (mul-le-mul_left c (pow_mono (le_of_suc-le-suc (lt_of_not-le l)))) (mul-lt-mul_of_pos_right h (pow_pos d)))

-- ---- the root is no tie: A has p digits at most, and R * R is odd and has more
odd-square : (R : ℕ) → R % 2 ≡ 1 → R * R % 2 ≡ 1
odd-square R o =
    let h : R ≡ 2 * (R / 2) + 1 = omega arith in
    let e : (2 * (R / 2) + 1) * (2 * (R / 2) + 1) ≡ 4 * (R / 2 * (R / 2)) + 4 * (R / 2) + 1 = sq-odd (R / 2) in
    subst (λ (x : ℕ). x * x % 2 ≡ 1) (sym h) (subst (λ (x : ℕ). x % 2 ≡ 1) (sym e) (last (R / 2 * (R / 2)) (R / 2)))
  where
    last : (a b : ℕ) → (4 * a + 4 * b + 1) % 2 ≡ 1
    last a b = omega arith

no_tie : (p d R m t : ℕ) → 2 ^ p ≤ R → m < 2 ^ p → R % 2 ≡ 1 → R * R * (2 ^ d * 2 ^ d) ≡ m * 2 ^ t → ⊥
no_tie p d R m t P M o e =
    let big : 2 ^ ((p + p) + (d + d)) ≤ m * 2 ^ t =
    le_trans (le_of_eq (pow-add 2 (p + p) (d + d) ∙ ap₂ (λ (x y : ℕ). x * y) (pow-add 2 p p) (pow-add 2 d d)))
    (le_trans (mul-le-mul_right (2 ^ d * 2 ^ d) (sq-le P)) (le_of_eq e)) in
    let less : 2 ^ ((p + p) + (d + d)) < 2 ^ (p + t) =
    lt_of_le_of_lt big (lt_of_lt_of_le (mul-lt-mul_of_pos_right M (pow_pos t)) (le_of_eq (sym (pow-add 2 p t)))) in
    let k = t - suc (d + d) in
    let split : m * 2 ^ t ≡ m * 2 ^ k * (2 * 2 ^ (d + d)) =
    sym (pow-shift m t (suc (d + d)) (span (pow_lt_back ((p + p) + (d + d)) (p + t) less))) ∙ ap (λ (x : ℕ). m * 2 ^ k * x) (pow-succ' 2 (d + d)) in
    let same : R * R ≡ m * 2 ^ k * 2 =
    eq_of_mul-eq-mul_right (2 ^ (d + d)) (pow_pos (d + d)) (R * R) (m * 2 ^ k * 2)
    (ap (λ (x : ℕ). R * R * x) (pow-add 2 d d) ∙ e ∙ split ∙ sym (mul_assoc (m * 2 ^ k) 2 (2 ^ (d + d)))) in
    omega (arith, ap (λ (x : ℕ). x % 2) same ∙ mul-mod_left (m * 2 ^ k) 2, odd-square R o)
  where
    span : (p + p) + (d + d) < p + t → suc (d + d) ≤ t
    span h = omega arith

-- ---- the two sides
module _ (p d R A m t : ℕ) (two : 0 < p) (P : 2 ^ p ≤ R) (lo : R * R * (2 ^ d * 2 ^ d) ≤ A) (hi : A < suc R * suc R * (2 ^ d * 2 ^ d)) (M : m < 2 ^ p) (is : A ≡ m * 2 ^ t) where
  abbrev q : ℕ
  q = (R + 1) / 2

  abbrev G : ℕ
  G = 2 * 2 ^ d

  G-pos : 0 < G
  G-pos = mul-pos (zero-lt-suc 1) (pow_pos d)

  q-hi : R ≤ 2 * q
  q-hi = omega arith

  -- 2 ^ p * 2 ^ d is not above q * G
  floor : 2 ^ p * 2 ^ d ≤ q * G
  floor = let a : 2 ^ p * 2 ^ d ≤ 2 * q * 2 ^ d = mul-le-mul_right (2 ^ d) (le_trans P q-hi) in omega arith

  pub above_root : (c j : ℕ) → c < 2 ^ p → q * G < c * 2 ^ j → 4 * A < (q * G + c * 2 ^ j) * (q * G + c * 2 ^ j)
  above_root c j h l = go (gap p d c j h)
    where
      go : Gap p d (c * 2 ^ j) → 4 * A < (q * G + c * 2 ^ j) * (q * G + c * 2 ^ j)
      go (inl (b, e)) =
          let less : q < b = lt_of_mul-lt-mul_right G (subst (λ (x : ℕ). q * G < x) e l) in
          let n : 2 * q + 1 ≤ q + b = omega arith in
          above-core R q A (2 ^ d) (q * G + c * 2 ^ j) hi q-hi
          (subst (λ (x : ℕ). (2 * q + 1) * G ≤ q * G + x) (sym e) (le_trans (mul-le-mul_right G n) (le_of_eq (add-mul q b G))))
      go (inr s) = absurd (lt_irrefl (q * G) (lt_of_lt_of_le l (le_trans (le_of_lt s) floor)))

  strictly : R % 2 ≡ 1 → R * R * (2 ^ d * 2 ^ d) < A
  strictly o = lt_of_le-ne lo (λ (e : R * R * (2 ^ d * 2 ^ d) ≡ A). no_tie p d R m t P M o (e ∙ is))

  pub below_root : (c j : ℕ) → c < 2 ^ p → c * 2 ^ j < q * G → (q * G + c * 2 ^ j) * (q * G + c * 2 ^ j) < 4 * A
  below_root c j h l = go (gap p d c j h)
    where
      parity : (b : ℕ) → b < q → (e : c * 2 ^ j ≡ b * G) → (r : ℕ) → R % 2 ≡ r → (q * G + c * 2 ^ j) * (q * G + c * 2 ^ j) < 4 * A
      parity b k e zero o =
          let n : suc (q + b) ≤ R = omega arith in
          below-strict R A (2 ^ d) (q * G + c * 2 ^ j) lo
          (subst (λ (x : ℕ). q * G + x < R * G) (sym e) (lt_of_le_of_lt (le_of_eq (sym (add-mul q b G))) (mul-lt-mul_of_pos_right n G-pos)))
      parity b k e (suc r) o =
          let n : q + b ≤ R = omega arith in
          let odd : R % 2 ≡ 1 = omega arith in
          below-tie R A (2 ^ d) (q * G + c * 2 ^ j) (strictly odd)
          (subst (λ (x : ℕ). q * G + x ≤ R * G) (sym e) (le_trans (le_of_eq (sym (add-mul q b G))) (mul-le-mul_right G n)))

      room : 2 * q + 2 ^ p ≤ 2 * R
      room =
          let e : 2 ^ p ≡ 2 * 2 ^ (p - 1) = pow-halved p two in
          omega arith

      fine : c * 2 ^ j < 2 ^ p * 2 ^ d → q * G + c * 2 ^ j < R * G
      fine s = let a : (2 * q + 2 ^ p) * 2 ^ d ≤ 2 * R * 2 ^ d = mul-le-mul_right (2 ^ d) room in omega arith

      go : Gap p d (c * 2 ^ j) → (q * G + c * 2 ^ j) * (q * G + c * 2 ^ j) < 4 * A
      go (inl (b, e)) = parity b (lt_of_mul-lt-mul_right G (subst (λ (x : ℕ). x < q * G) e l)) e (R % 2) refl
      go (inr s) = below-strict R A (2 ^ d) (q * G + c * 2 ^ j) lo (fine s)
