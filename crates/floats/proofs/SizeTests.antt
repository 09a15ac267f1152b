-- What the tests of `floor_any32` say of x: it is above zero and small (`Small`), its negative is, it is large (`Large`), or it is
-- nothing but a zero or a NaN (`Nothing`). And what the language's conversions ask and give. Assumes nothing.
use mathlib.Core.Path.{◌≡◌, refl, sym, ◌∙◌}
use Prim.Native.Nat.{ℕ, zero, suc, ◌+◌, ◌-◌, ◌*◌, ◌/◌, ◌^◌, ◌≤◌, ◌<◌, min}
use native.Mathlib.Nat.{le_of_eq, lt_of_lt_of_le, lt_of_le_of_lt, zero-lt-suc, one-mul, mul-one, mul-pos, mul-le-mul_right, pow-succ', div-lt_iff_lt-mul}
use native.Mathlib.Omega.{arith}
use mathlib.Core.Bool.{true, false, not}
use lib.IntN.{ℤ, pos, negsuc}
use lib.Dec.{T, le→leb, ltb→lt, lt→ltb, nltb→le, eqb→eq}
use lib.Pow.{pow_pos, pow_mono}
use lib.Ieee.{Float, nan, inf, fin, Format, binary32, up, down, round, neg, of_int, to_unsigned, in_float, lt, fits}
use lib.Ieee.Fits.{up_pos, down_pos}
use lib.Ieee.Positive.{num, den, den_pos, positive, first_pos}

abbrev pub zero32 : Float
zero32 = fin false 0 (pos 0)

-- ---- above zero and below 2 ^ k
abbrev pub Small : ℕ → Float → Type 0
Small k x = T (positive x) × (num x < 2 ^ k * den x)

pub small : (k : ℕ) (x : Float) → T (lt zero32 x) → T (lt x (fin false 1 (pos k))) → Small k x
unfolding lt
small k nan a b = absurd a
small k (inf true) a b = absurd a
small k (inf false) a b = absurd b
small k (fin true m e) a b = absurd a
small k (fin false m e) a b =
    let A : 0 * 1 * down e < m * up e * 1 = ltb→lt (0 * 1 * down e) (m * up e * 1) a in
    let B : m * up e * 1 < 1 * 2 ^ k * down e = ltb→lt (m * up e * 1) (1 * 2 ^ k * down e) b in
    (lt→ltb 0 m (first_pos m (up e) (omega arith)), omega arith)

pub small-neg : (k : ℕ) (x : Float) → T (lt x zero32) → T (lt (fin true 1 (pos k)) x) → Small k (neg x)
unfolding lt neg
small-neg k nan a b = absurd a
small-neg k (inf true) a b = absurd b
small-neg k (inf false) a b = absurd a
small-neg k (fin false m e) a b = let A : m * up e * 1 < 0 * 1 * down e = ltb→lt (m * up e * 1) (0 * 1 * down e) a in omega arith
small-neg k (fin true m e) a b =
    let A : 0 < m * up e * 1 + 0 * 1 * down e = ltb→lt 0 (m * up e * 1 + 0 * 1 * down e) a in
    let B : m * up e * 1 < 1 * 2 ^ k * down e = ltb→lt (m * up e * 1) (1 * 2 ^ k * down e) b in
    (lt→ltb 0 m (first_pos m (up e) (omega arith)), omega arith)

-- ---- the whole part of a small value
abbrev pub part : Float → ℕ
part x = num x / den x

part-lt : (k : ℕ) (x : Float) → Small k x → part x < 2 ^ k
part-lt k x s = (div-lt_iff_lt-mul (den_pos x)).1 s.1

-- what `truncating_f32_to_u64` asks, and what it gives
pub in-range : (k : ℕ) (x : Float) → k ≤ 64 → Small k x → T (lt (fin true 1 (pos 0)) x) × T (lt x (fin false 1 (pos 64)))
unfolding lt
in-range k nan h s = absurd s.0
in-range k (inf t) h s = absurd s.0
in-range k (fin true m e) h s = absurd s.0
in-range k (fin false m e) h s =
    let D : 0 < down e = down_pos e in
    let B : m * up e < 2 ^ 64 * down e = lt_of_lt_of_le s.1 (mul-le-mul_right (down e) (pow_mono h)) in
    (lt→ltb 0 (1 * 1 * down e + m * up e * 1) (omega arith), lt→ltb (m * up e * 1) (1 * 2 ^ 64 * down e) (omega arith))

part-is : (k : ℕ) (x : Float) → k ≤ 63 → Small k x → to_unsigned 64 x ≡ part x
unfolding to_unsigned
part-is k nan h s = absurd s.0
part-is k (inf t) h s = absurd s.0
part-is k (fin true m e) h s = absurd s.0
part-is k (fin false m e) h s = uncapped (m * up e / down e) (lt_of_lt_of_le (part-lt k (fin false m e) s) (pow_mono h))
  where
    uncapped : (a : ℕ) → a < 2 ^ 63 → min a (2 ^ 64 - 1) ≡ a
    uncapped a z = omega arith

-- the call's result n
module _ (k : ℕ) (x : Float) (h : k ≤ 63) (s : Small k x) (n : ℕ) (e : n ≡ to_unsigned 64 x) where
  pub cut-is : n ≡ part x
  cut-is = e ∙ part-is k x h s

  pub cut-lt : n < 2 ^ k
  cut-lt = lt_of_le_of_lt (le_of_eq cut-is) (part-lt k x s)

-- what `as f32` asks, and what it gives
pub in-float : (n : ℕ) → n ≤ 16777216 → T (in_float binary32 (pos n))
unfolding in_float
in-float n h = le→leb n 16777216 h

pub of_int_is : (f : Format) (n : ℕ) → of_int f (pos n) ≡ round f false n 1
unfolding of_int
of_int_is f n = refl

-- ---- 2 ^ k or more in size, or no number
abbrev pub Large : ℕ → Float → Type 0
Large k nan = Unit {0}
Large k (inf s) = Unit {0}
Large k (fin s m e) = 2 ^ k * down e ≤ m * up e

pub large : (k : ℕ) (x : Float) → T (lt zero32 x) → T (not (lt x (fin false 1 (pos k)))) → Large k x
unfolding lt
large k nan a b = absurd a
large k (inf s) a b = tt
large k (fin true m e) a b = absurd a
large k (fin false m e) a b = let B : 1 * 2 ^ k * down e ≤ m * up e * 1 = nltb→le (m * up e * 1) (1 * 2 ^ k * down e) b in omega arith

pub large-neg : (k : ℕ) (x : Float) → T (lt x zero32) → T (not (lt (fin true 1 (pos k)) x)) → Large k x
unfolding lt
large-neg k nan a b = absurd a
large-neg k (inf s) a b = tt
large-neg k (fin false m e) a b = let A : m * up e * 1 < 0 * 1 * down e = ltb→lt (m * up e * 1) (0 * 1 * down e) a in omega arith
large-neg k (fin true m e) a b = let B : 1 * 2 ^ k * down e ≤ m * up e * 1 = nltb→le (m * up e * 1) (1 * 2 ^ k * down e) b in omega arith

-- ---- neither above nor below zero
abbrev pub Nothing : Float → Type 0
Nothing nan = Unit {0}
Nothing (inf s) = ⊥
Nothing (fin s m e) = (m ≡ 0) × (e ≡ pos 0)

not-one : (k : ℕ) → 2 ^ suc k ≡ 1 → ⊥
not-one k h = even (2 ^ k) (pow_pos k) (sym (pow-succ' 2 k) ∙ h)
  where
    even : (a : ℕ) → 0 < a → 2 * a ≡ 1 → ⊥
    even a p q = omega arith

no-exp : (e : ℤ) → up e * down e ≡ 1 → e ≡ pos 0
no-exp (pos zero) h = refl
no-exp (pos (suc k)) h = absurd (not-one k (sym (mul-one (2 ^ suc k)) ∙ h))
no-exp (negsuc k) h = absurd (not-one k (sym (one-mul (2 ^ suc k)) ∙ h))

pub neither : (f : Format) (x : Float) → T (fits f x) → T (not (lt zero32 x)) → T (not (lt x zero32)) → Nothing x
unfolding lt fits
neither f nan h a b = tt
neither f (inf true) h a b = absurd b
neither f (inf false) h a b = absurd a
neither f (fin s zero e) h a b = (refl, no-exp e (eqb→eq (up e * down e) 1 h))
neither f (fin false (suc m) e) h a b =
    let p : 0 < suc m * up e = mul-pos (zero-lt-suc m) (up_pos e) in
    let A : suc m * up e * 1 ≤ 0 * 1 * down e = nltb→le (0 * 1 * down e) (suc m * up e * 1) a in
    let no : ⊥ = omega arith in
    absurd no
neither f (fin true (suc m) e) h a b =
    let p : 0 < suc m * up e = mul-pos (zero-lt-suc m) (up_pos e) in
    let B : suc m * up e * 1 + 0 * 1 * down e ≤ 0 = nltb→le 0 (suc m * up e * 1 + 0 * 1 * down e) b in
    let no : ⊥ = omega arith in
    absurd no
