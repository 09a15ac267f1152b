-- The digits of a whole root, one a turn: what a turn of `root` keeps. Assumes nothing.
use mathlib.Core.Path.{◌≡◌, sym, ap, ◌∙◌, subst}
use Prim.Native.Nat.{ℕ, suc, ◌+◌, ◌-◌, ◌*◌, ◌/◌, ◌%◌, ◌^◌, ◌≤◌, ◌<◌}
use native.Mathlib.Nat.{lt_of_lt_of_le, zero-lt-suc, add-zero, mul_comm, mul_assoc, pow-suc, two-pow-succ}
use native.Mathlib.Numerals.{add-one}
use native.Mathlib.Omega.{arith}
use mathlib.Core.Bool.{Bool, true, false, not}
use mir.Val.{bool_byte}
use lib.Dec.{T, ltb, ltb→lt, nltb→le}
use lib.Arith.{digits_div}
use lib.Pow.{pow_pos, pow_mono}
use lib.Bits.{bit_and, and_mask}
use Rattle.floats.specs.Inner.{Rooted}
use Rattle.floats.proofs.Squares.{sq-double, sq-odd, sq-suc}

-- The digits of m taken so far, in base 4, are r * r + rem, and w holds the others
abbrev pub Taken : (m n r rem w i : ℕ) → Type 0
Taken m n r rem w i = (r < 2 ^ i) × (r < 2 ^ 54) × (rem ≤ 2 * r) × (w < 2 ^ 54) × (i ≤ n) × ((r * r + rem) * 2 ^ 54 + w ≡ m * 4 ^ i)

pub start : (m n : ℕ) → m < 2 ^ 54 → Taken m n 0 0 m 0
start m n h = (zero-lt-suc 0, pow_pos 54, omega arith, h, omega arith, omega arith)

shifted : (w : ℕ) → bit_and w 4503599627370495 * 2 ^ 2 % 2 ^ 64 ≡ w % 2 ^ 52 * 4
shifted w = ap (λ (x : ℕ). x * 2 ^ 2 % 2 ^ 64) (and_mask w 52) ∙ small w
  where
    small : (x : ℕ) → x % 2 ^ 52 * 4 % 2 ^ 64 ≡ x % 2 ^ 52 * 4
    small x = omega arith

-- r' * r' + rem' is (r * r + rem) * 4 and the next digit
next : (m n r rem w i r' rem' : ℕ) → Taken m n r rem w i → i < n → n ≤ 54 → r' ≤ 2 * r + 1 → rem' ≤ 2 * r'
    → r' * r' + rem' ≡ (r * r + rem) * 4 + w / 2 ^ 52 → Taken m n r' rem' (bit_and w 4503599627370495 * 2 ^ 2 % 2 ^ 64) (i + 1)
next m n r rem w i r' rem' h k N a b e =
    let p : 2 ^ (i + 1) ≡ 2 ^ i + 2 ^ i = ap (λ (x : ℕ). 2 ^ x) (add-one i) ∙ two-pow-succ i in
    let g : r < 2 ^ i = h.0 in
    let small : r' < 2 ^ (i + 1) = omega arith in
    let ui : i + 1 ≤ 54 = omega arith in
    let q : m * 4 ^ (i + 1) ≡ m * 4 ^ i * 4 = ap (λ (x : ℕ). m * 4 ^ x) (add-one i) ∙ ap (λ (x : ℕ). m * x) (pow-suc 4 i) ∙ sym (mul_assoc m (4 ^ i) 4) in
    let z : (r * r + rem) * 2 ^ 54 + w ≡ m * 4 ^ i = h.5 in
    subst (λ (v : ℕ). Taken m n r' rem' v (i + 1)) (sym (shifted w))
    (small, lt_of_lt_of_le small (pow_mono ui), b, omega arith, omega arith, whole (r * r + rem) (r' * r' + rem') (m * 4 ^ i) (m * 4 ^ (i + 1)) z e q)
  where
    whole : (x x' y y' : ℕ) → x * 2 ^ 54 + w ≡ y → x' ≡ x * 4 + w / 2 ^ 52 → y' ≡ y * 4 → x' * 2 ^ 54 + w % 2 ^ 52 * 4 ≡ y'
    whole x x' y y' h1 h2 h3 = omega arith

-- a flag as a number, by the two answers of its test
pub flag : (P : ℕ → Type 0) (a t : ℕ) → (a < t → P 1) → (t ≤ a → P 0) → P (bool_byte (ltb a t))
flag P a t y n = go (ltb a t) (ltb→lt a t) (nltb→le a t)
  where
    go : (b : Bool) → (T b → a < t) → (T (not b) → t ≤ a) → P (bool_byte b)
    go true h k = y (h tt)
    go false h k = n (k tt)

-- a turn: the next digit of the root is 1 where r * 4 is below what is left, and 0 where it is not
pub turn : (m n r rem w i : ℕ) → Taken m n r rem w i → i < n → n ≤ 54
    → Taken m n (r * 2 + bool_byte (ltb (r * 4) (rem * 4 + w / 2 ^ 52))) (rem * 4 + w / 2 ^ 52 - (r * 4 + 1) * bool_byte (ltb (r * 4) (rem * 4 + w / 2 ^ 52)))
    (bit_and w 4503599627370495 * 2 ^ 2 % 2 ^ 64) (i + 1)
turn m n r rem w i h k N =
    flag (λ (d : ℕ). Taken m n (r * 2 + d) (t - (r * 4 + 1) * d) (bit_and w 4503599627370495 * 2 ^ 2 % 2 ^ 64) (i + 1)) (r * 4) t one none
  where
    t : ℕ
    t = rem * 4 + w / 2 ^ 52

    one : r * 4 < t → Taken m n (r * 2 + 1) (t - (r * 4 + 1) * 1) (bit_and w 4503599627370495 * 2 ^ 2 % 2 ^ 64) (i + 1)
    one l =
        let e : (r * 2 + 1) * (r * 2 + 1) ≡ 4 * (r * r) + 4 * r + 1 = ap (λ (x : ℕ). (x + 1) * (x + 1)) (mul_comm r 2) ∙ sq-odd r in
        let d : w / 2 ^ 52 < 4 = omega arith in
        next m n r rem w i (r * 2 + 1) (t - (r * 4 + 1) * 1) h k N (omega arith) (omega arith) (omega arith)

    none : t ≤ r * 4 → Taken m n (r * 2 + 0) (t - (r * 4 + 1) * 0) (bit_and w 4503599627370495 * 2 ^ 2 % 2 ^ 64) (i + 1)
    none l =
        let e : (r * 2 + 0) * (r * 2 + 0) ≡ 4 * (r * r) =
        ap (λ (x : ℕ). (x + 0) * (x + 0)) (mul_comm r 2) ∙ ap (λ (x : ℕ). x * x) (add-zero (2 * r)) ∙ sq-double r in
        next m n r rem w i (r * 2 + 0) (t - (r * 4 + 1) * 0) h k N (omega arith) (omega arith) (omega arith)

pub done : (m n r rem w i : ℕ) → Taken m n r rem w i → n ≤ i → Rooted (m * 4 ^ n / 2 ^ 54) r
done m n r rem w i h k =
    let i≡ : i ≡ n = omega arith in
    let e : m * 4 ^ n / 2 ^ 54 ≡ r * r + rem =
    ap (λ (x : ℕ). m * 4 ^ x / 2 ^ 54) (sym i≡) ∙ ap (λ (x : ℕ). x / 2 ^ 54) (sym h.5) ∙ digits_div (r * r + rem) h.3 in
    let s : suc r * suc r ≡ r * r + 2 * r + 1 = sq-suc r in
    subst (λ (x : ℕ). Rooted x r) (sym e) (omega arith)
