-- Squares of whole numbers: their order, the square of a sum, and that `root_by` is the whole root. Nothing here is about floats. Assumes nothing.
use mathlib.Core.Path.{◌≡◌, refl, sym, ap, ap₂, ◌∙◌, subst}
use Prim.Native.Nat.{ℕ, zero, suc, ◌+◌, ◌*◌, ◌/◌, ◌^◌, ◌≤◌, ◌<◌}
use native.Mathlib.Nat.{le_trans, le_of_eq, lt_of_lt_of_le, lt_of_not-le, not-le_of_lt, zero-lt-suc, mul-one, mul_comm, mul-mul-mul_comm, add-mul, mul-add, mul-le-mul, mul-le-mul_left, pow-suc, div-lt_iff_lt-mul}
use native.Mathlib.Omega.{arith}
use mathlib.Core.Bool.{Bool, true, false, not, cond}
use lib.Dec.{T, leb, leb→le, nleb→lt}
use lib.Pow.{pow_pos}
use lib.Ieee.{size}
use lib.Ieee.Digits.{size-lt}
use Rattle.floats.specs.Root.{root_by, whole_root}
use Rattle.floats.specs.Inner.{Rooted}

-- ---- the square of a sum
sq-add : (a b : ℕ) → (a + b) * (a + b) ≡ a * a + 2 * (a * b) + b * b
sq-add a b =
    let e1 : (a + b) * (a + b) ≡ a * (a + b) + b * (a + b) = add-mul a b (a + b) in
    let e2 : a * (a + b) ≡ a * a + a * b = mul-add a a b in
    let e3 : b * (a + b) ≡ b * a + b * b = mul-add b a b in
    let e4 : b * a ≡ a * b = mul_comm b a in
    omega arith

pub sq-double : (r : ℕ) → 2 * r * (2 * r) ≡ 4 * (r * r)
sq-double r = mul-mul-mul_comm 2 r 2 r

pub sq-odd : (r : ℕ) → (2 * r + 1) * (2 * r + 1) ≡ 4 * (r * r) + 4 * r + 1
sq-odd r =
    let e1 : (2 * r + 1) * (2 * r + 1) ≡ 2 * r * (2 * r) + 2 * (2 * r * 1) + 1 * 1 = sq-add (2 * r) 1 in
    let e2 : 2 * r * (2 * r) ≡ 4 * (r * r) = sq-double r in
    omega arith

pub sq-suc : (r : ℕ) → suc r * suc r ≡ r * r + 2 * r + 1
sq-suc r =
    let e0 : suc r ≡ r + 1 = omega arith in
    let e1 : (r + 1) * (r + 1) ≡ r * r + 2 * (r * 1) + 1 * 1 = sq-add r 1 in
    ap (λ (x : ℕ). x * x) e0 ∙ tidy e1
  where
    tidy : (r + 1) * (r + 1) ≡ r * r + 2 * (r * 1) + 1 * 1 → (r + 1) * (r + 1) ≡ r * r + 2 * r + 1
    tidy e = omega arith

-- ---- their order, and back
pub sq-le : {a b : ℕ} → a ≤ b → a * a ≤ b * b
sq-le h = mul-le-mul h h

pub sq-lt : {a b : ℕ} → a < b → a * a < b * b
sq-lt {a} {b} h =
    let s : suc a * suc a ≤ b * b = sq-le h in
    let e : suc a * suc a ≡ a * a + 2 * a + 1 = sq-suc a in
    omega arith

pub sq-lt-back : (a b : ℕ) → a * a < b * b → a < b
sq-lt-back a b h = lt_of_not-le (λ (g : b ≤ a). not-le_of_lt h (sq-le g))

-- ---- the whole root
-- a digit more: the root of n is twice the root of n / 4, or one more where its square still fits
digit : (b : Bool) (n r : ℕ) → (T b → (2 * r + 1) * (2 * r + 1) ≤ n) → (T (not b) → n < (2 * r + 1) * (2 * r + 1)) → Rooted (n / 4) r
    → Rooted n (2 * r + cond b 1 0)
digit true n r y u h =
    let a : suc (n / 4) ≤ suc r * suc r = h.1 in
    let e : suc r * suc r ≡ r * r + 2 * r + 1 = sq-suc r in
    let o : suc (2 * r + 1) * suc (2 * r + 1) ≡ (2 * r + 1) * (2 * r + 1) + 2 * (2 * r + 1) + 1 = sq-suc (2 * r + 1) in
    let w : (2 * r + 1) * (2 * r + 1) ≡ 4 * (r * r) + 4 * r + 1 = sq-odd r in
    (y tt, omega arith)
digit false n r y u h =
    let a : r * r ≤ n / 4 = h.0 in
    let z : 2 * r + 0 ≡ 2 * r = omega arith in
    let e : 2 * r * (2 * r) ≡ 4 * (r * r) = sq-double r in
    let k : n < (2 * r + 1) * (2 * r + 1) = u tt in
    let s : suc (2 * r) ≡ 2 * r + 1 = omega arith in
    subst (λ (x : ℕ). Rooted n x) (sym z) (omega arith, subst (λ (x : ℕ). n < x * x) (sym s) k)

below_one : (n : ℕ) → n < 1 → Rooted n 0
below_one n h = omega arith

root_by-is : (d n : ℕ) → n < 4 ^ d → Rooted n (root_by d n)
unfolding root_by
root_by-is zero n h = below_one n h
root_by-is (suc d) n h =
    let r = root_by d (n / 4) in
    digit (leb ((2 * r + 1) * (2 * r + 1)) n) n r (leb→le ((2 * r + 1) * (2 * r + 1)) n) (nleb→lt ((2 * r + 1) * (2 * r + 1)) n)
    (root_by-is d (n / 4) ((div-lt_iff_lt-mul (zero-lt-suc 3)).1 (subst (λ (x : ℕ). n < x) (pow-suc 4 d) h)))

pub four_is : (n : ℕ) → 4 ^ n ≡ 2 ^ n * 2 ^ n
four_is zero = refl
four_is (suc n) =
    pow-suc 4 n ∙ ap (λ (x : ℕ). x * 4) (four_is n)
    ∙ sym (ap₂ (λ (x y : ℕ). x * y) (pow-suc 2 n) (pow-suc 2 n) ∙ mul-mul-mul_comm (2 ^ n) 2 (2 ^ n) 2)

pub whole_root-is : (n : ℕ) → Rooted n (whole_root n)
unfolding whole_root
whole_root-is n =
    root_by-is (size n) n (lt_of_lt_of_le (size-lt n)
    (le_trans (le_of_eq (sym (mul-one (2 ^ size n))))
    (le_trans (mul-le-mul_left (2 ^ size n) (pow_pos (size n))) (le_of_eq (sym (four_is (size n)))))))
