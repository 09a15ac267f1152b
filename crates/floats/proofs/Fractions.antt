-- A fraction a / c to a whole number: down (`a / c`), up (`ceiling`), and to the nearest with a half going up (`half_up`).
-- Nothing here is about floats. Assumes nothing.
use mathlib.Core.Path.{◌≡◌, sym, ap, ◌∙◌}
use mathlib.Core.Logic.{inl, inr}
use Prim.Native.Nat.{ℕ, suc, ◌+◌, ◌*◌, ◌/◌, ◌%◌, ◌≤◌, ◌<◌}
use native.Mathlib.Nat.{le_trans, le_antisymm, le_of_eq, lt_of_lt_of_le, zero-lt-suc, eq-or-lt_of_le, suc-mul, mul_comm, mul-pos, mul-le-mul_right, le_of_mul-le-mul_right, lt_of_mul-lt-mul_right, div-eq_of_lt, div-add-mod', div-mul-le_self, lt-div-mul-add, div-le_of_le-mul, div-lt_iff_lt-mul, le-div_iff_mul-le, mul-mod_left}
use native.Mathlib.Omega.{arith}
use mathlib.Core.Bool.{Bool, true, false, cond}
use lib.Dec.{T, eqb, eqb→eq}
use lib.Ieee.Fits.{eq→eqb}
use lib.Ieee.Nearest.{div_mono}
use Rattle.floats.specs.Whole.{ceiling, half_up}

-- ---- multiples of c: two of them are the same, or c apart
pub step : (j k c : ℕ) → j < k → j * c + c ≤ k * c
step j k c h = le_trans (le_of_eq (sym (suc-mul j c))) (mul-le-mul_right c h)

-- ---- down
pub part-le : (a c k : ℕ) → a ≤ k * c → a / c ≤ k
part-le a c k h = div-le_of_le-mul c (rw mul_comm at h)

-- ---- up: the least whole number that is not below a / c
pub ceiling-ge : (a c : ℕ) → 0 < c → a ≤ ceiling a c * c
ceiling-ge a c C = go (eqb (a % c) 0) (eqb→eq (a % c) 0)
  where
    go : (b : Bool) → (T b → a % c ≡ 0) → a ≤ cond b (a / c) (suc (a / c)) * c
    go true h =
        let z : a % c ≡ 0 = h tt in
        let s : a / c * c + a % c ≡ a = div-add-mod' a c in
        omega arith
    go false h =
        let l : a < a / c * c + c = lt-div-mul-add C in
        let s : suc (a / c) * c ≡ a / c * c + c = suc-mul (a / c) c in
        omega arith

pub ceiling-le : (a c k : ℕ) → 0 < c → a ≤ k * c → ceiling a c ≤ k
ceiling-le a c k C h = go (eqb (a % c) 0) (λ z. eq→eqb z)
  where
    go : (b : Bool) → (a % c ≡ 0 → T b) → cond b (a / c) (suc (a / c)) ≤ k
    go true n = part-le a c k h
    go false n = elim (eq-or-lt_of_le h) [ inl e ↦ absurd (n (ap (λ (x : ℕ). x % c) e ∙ mul-mod_left k c)) | inr l ↦ (div-lt_iff_lt-mul C).1 l ]

pub ceiling-one : (a : ℕ) → ceiling a 1 ≡ a
ceiling-one a =
    let u : ceiling a 1 ≤ a = ceiling-le a 1 a (zero-lt-suc 0) (omega arith) in
    let l : a ≤ ceiling a 1 * 1 = ceiling-ge a 1 (zero-lt-suc 0) in
    omega arith

-- the whole part, where nothing is left over, and else the next number up
pub ceiling-same : (a c : ℕ) → 0 < c → a ≤ a / c * c → ceiling a c ≡ a / c
ceiling-same a c C h = le_antisymm (ceiling-le a c (a / c) C h) (le_of_mul-le-mul_right (le_trans (div-mul-le_self a c) (ceiling-ge a c C)) C)

pub ceiling-next : (a c : ℕ) → 0 < c → a / c * c < a → ceiling a c ≡ suc (a / c)
ceiling-next a c C h =
    let l : a < a / c * c + c = lt-div-mul-add C in
    le_antisymm (ceiling-le a c (suc (a / c)) C (omega arith)) (lt_of_mul-lt-mul_right c (lt_of_lt_of_le h (ceiling-ge a c C)))

-- ---- to the nearest
two_pos : (c : ℕ) → 0 < c → 0 < 2 * c
two_pos c C = mul-pos (zero-lt-suc 1) C

pub half_le : (a c k : ℕ) → 0 < c → a ≤ k * c → half_up a c ≤ k
half_le a c k C h = suc-le (half_up a c) k ((div-lt_iff_lt-mul (two_pos c C)).1 (omega arith))
  where
    suc-le : (x y : ℕ) → x < suc y → x ≤ y
    suc-le x y l = omega arith

pub half-one : (a : ℕ) → half_up a 1 ≡ a
half-one a = omega arith

pub half-mono : (a c b d : ℕ) → 0 < c → 0 < d → a * d ≤ b * c → half_up a c ≤ half_up b d
half-mono a c b d C D h = div_mono (2 * a + c) (2 * c) (2 * b + d) (2 * d) (two_pos c C) (two_pos d D) (omega arith)

-- below a half it is 0
pub half-none : (a c : ℕ) → a * 2 < c → half_up a c ≡ 0
half-none a c h = div-eq_of_lt (below a c h)
  where
    below : (x y : ℕ) → x * 2 < y → 2 * x + y < 2 * y
    below x y k = omega arith

-- from a half up to three halves it is 1
pub half-unit : (a c : ℕ) → 0 < c → c ≤ a * 2 → a * 2 < 3 * c → half_up a c ≡ 1
half-unit a c C l h =
    let u : half_up a c < 2 = (div-lt_iff_lt-mul (two_pos c C)).1 (omega arith) in
    let d : 1 ≤ half_up a c = (le-div_iff_mul-le (two_pos c C)).1 (omega arith) in
    only (half_up a c) d u
  where
    only : (x : ℕ) → 1 ≤ x → x < 2 → x ≡ 1
    only x d u = omega arith
