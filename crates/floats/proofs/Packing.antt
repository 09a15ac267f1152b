-- The bit pattern of q * 2 ^ k units of a format's smallest value: k in the exponent's field and q beside it, k * 2 ^ (prec - 1) + q.
-- A q of all the format's digits carries its leading one into the field, and 2 ^ prec carries twice that. Assumes nothing.
use mathlib.Core.Path.{◌≡◌, refl, sym, ap, ◌∙◌}
use mathlib.Core.Logic.{◌⊎◌, inl, inr}
use Prim.Native.Nat.{ℕ, zero, suc, ◌+◌, ◌-◌, ◌*◌, ◌/◌, ◌%◌, ◌^◌, ◌≤◌, ◌<◌}
use native.Mathlib.Nat.{le_refl, le_trans, le_of_eq, lt_of_le_of_lt, zero-lt-suc, eq-or-lt_of_le, mul_comm, mul_assoc, mul-le-mul_right, pow-succ', mul-mod_left}
use native.Mathlib.Omega.{arith}
use mathlib.Core.Bool.{Bool, true, false, cond}
use lib.Dec.{T, ltb}
use lib.Arith.{le→nltb}
use lib.Pow.{pow-add, pow-lt, shl_lt, shl-shr}
use lib.Ieee.{Float, nan, inf, fin, Format, binary32, binary64, prec, low, hid, top, up, down, size, odd, units, neg, to_bits}
use lib.Ieee.Fits.{two, two-le_pos}
use lib.Ieee.Bits.{cond_no}
use lib.Ieee.Digits.{size-le}
use lib.Ieee.Exact.{HasValue}
use lib.Ieee.Scale.{finite, overflow}
use Rattle.floats.specs.Standard.{sign}
use Rattle.floats.proofs.Powers.{pow-halved, size-gt, size_is}
use Rattle.floats.proofs.Signs.{plain, value-finite, value-parts}
use Rattle.floats.proofs.Held.{InUnits, hid-even}
use Rattle.floats.proofs.SameValue.{bits_at}

-- ---- over whole numbers: q * 2 ^ k has p digits and k more, or q is 2 ^ p
size-drop : (p q k : ℕ) → 0 < p → q < 2 ^ p → (0 < k → 2 ^ (p - 1) ≤ q) → size (q * 2 ^ k) - p ≡ k
size-drop p q k P h full = go (size G) k (size-le G (p + k) (shl_lt p k h)) long
  where
    G : ℕ
    G = q * 2 ^ k

    long : 0 < k → p - 1 + k < size G
    long K = size-gt G (p - 1 + k) (le_trans (le_of_eq (pow-add 2 (p - 1) k)) (mul-le-mul_right (2 ^ k) (full K)))

    go : (z y : ℕ) → z ≤ p + y → (0 < y → p - 1 + y < z) → z - p ≡ y
    go z zero a m = omega arith
    go z (suc y) a m = omega (arith, m (zero-lt-suc y))

packs : (p q k : ℕ) → 0 < p → (0 < k → 2 ^ (p - 1) ≤ q) → q ≤ 2 ^ p
    → (size (q * 2 ^ k) - p) * 2 ^ (p - 1) + q * 2 ^ k / 2 ^ (size (q * 2 ^ k) - p) ≡ k * 2 ^ (p - 1) + q
packs p q k P full hi = go (eq-or-lt_of_le hi)
  where
    next : (x : ℕ) → suc (x + k) - x ≡ suc k
    next x = omega arith

    go : (q ≡ 2 ^ p) ⊎ (q < 2 ^ p) → (size (q * 2 ^ k) - p) * 2 ^ (p - 1) + q * 2 ^ k / 2 ^ (size (q * 2 ^ k) - p) ≡ k * 2 ^ (p - 1) + q
    go (inr h) = ap (λ (w : ℕ). w * 2 ^ (p - 1) + q * 2 ^ k / 2 ^ w) (size-drop p q k P h full) ∙ ap (λ (x : ℕ). k * 2 ^ (p - 1) + x) (shl-shr q k)
    go (inl e) =
        let d : 2 ^ p ≡ 2 * 2 ^ (p - 1) = pow-halved p P in
        let g : q * 2 ^ k ≡ 2 ^ (p + k) = ap (λ (x : ℕ). x * 2 ^ k) e ∙ sym (pow-add 2 p k) in
        let s : q * 2 ^ k ≡ 2 ^ (p - 1) * 2 ^ suc k =
        ap (λ (x : ℕ). x * 2 ^ k) (e ∙ d ∙ mul_comm 2 (2 ^ (p - 1))) ∙ mul_assoc (2 ^ (p - 1)) 2 (2 ^ k)
        ∙ ap (λ (x : ℕ). 2 ^ (p - 1) * x) (sym (pow-succ' 2 k)) in
        ap (λ (w : ℕ). w * 2 ^ (p - 1) + q * 2 ^ k / 2 ^ w)
        (ap (λ (x : ℕ). x - p) (size_is (q * 2 ^ k) (p + k) (le_of_eq (sym g)) (lt_of_le_of_lt (le_of_eq g) (pow-lt (le_refl (suc (p + k)))))) ∙ next p)
        ∙ ap (λ (x : ℕ). suc k * 2 ^ (p - 1) + x) (ap (λ (x : ℕ). x / 2 ^ suc k) s ∙ shl-shr (2 ^ (p - 1)) (suc k))
        ∙ carried k (2 ^ (p - 1)) q (e ∙ d)
      where
        carried : (x c y : ℕ) → y ≡ 2 * c → suc x * c + c ≡ x * c + y
        carried x c y z = omega arith

-- ---- of a value
pub bits_of : (f : Format) (y : Float) (q k : ℕ) → T (finite y) → InUnits f y (q * 2 ^ k) → (0 < k → 2 ^ (prec f - 1) ≤ q) → q ≤ 2 ^ prec f
    → to_bits f y ≡ cond (sign y) (top f) 0 + (k * hid f + q)
bits_of f y q k t g full hi =
    bits_at f y (q * 2 ^ k) t g ∙ grouped (cond (sign y) (top f) 0) ((size (q * 2 ^ k) - prec f) * hid f) (q * 2 ^ k / 2 ^ (size (q * 2 ^ k) - prec f))
    ∙ ap (λ (x : ℕ). cond (sign y) (top f) 0 + x) (packs (prec f) q k (two-le_pos (prec f) (two f)) full hi)
  where
    grouped : (a b c : ℕ) → a + b + c ≡ a + (b + c)
    grouped a b c = omega arith

pub plus-bits : (f : Format) (y : Float) (q k : ℕ) → HasValue y false (q * 2 ^ k) (2 ^ low f) → (0 < k → 2 ^ (prec f - 1) ≤ q) → q ≤ 2 ^ prec f
    → to_bits f y ≡ k * hid f + q
plus-bits f y q k v full hi =
    let p = value-parts y false (q * 2 ^ k) (2 ^ low f) v in
    bits_of f y q k (value-finite y false (q * 2 ^ k) (2 ^ low f) v) p.1 full hi
    ∙ ap (λ (s : Bool). cond s (top f) 0 + (k * hid f + q)) p.0
    ∙ none (k * hid f + q)
  where
    none : (a : ℕ) → 0 + a ≡ a
    none a = omega arith

-- the last bit is q's last digit
mul-even : (x h : ℕ) → h % 2 ≡ 0 → x * h % 2 ≡ 0
mul-even x h e = ap (λ (k : ℕ). x * k % 2) (halved h e) ∙ ap (λ (k : ℕ). k % 2) (sym (mul_assoc x (h / 2) 2)) ∙ mul-mod_left (x * (h / 2)) 2
  where
    halved : (k : ℕ) → k % 2 ≡ 0 → k ≡ k / 2 * 2
    halved k z = omega arith

sign-even : (f : Format) (s : Bool) → cond s (top f) 0 % 2 ≡ 0
sign-even f false = refl
sign-even binary32 true = refl
sign-even binary64 true = refl

pub last_bit : (f : Format) (y : Float) (q k : ℕ) → T (finite y) → InUnits f y (q * 2 ^ k) → (0 < k → 2 ^ (prec f - 1) ≤ q) → q ≤ 2 ^ prec f
    → to_bits f y % 2 ≡ q % 2
last_bit f y q k t g full hi =
    ap (λ (x : ℕ). x % 2) (bits_of f y q k t g full hi)
    ∙ sums (cond (sign y) (top f) 0) (k * hid f) q (sign-even f (sign y)) (mul-even k (hid f) (hid-even f))
  where
    sums : (a b c : ℕ) → a % 2 ≡ 0 → b % 2 ≡ 0 → (a + (b + c)) % 2 ≡ c % 2
    sums a b c x z = omega arith

-- ---- past the largest value
pub units-inf : (f : Format) (s : Bool) (q k : ℕ) → overflow f ≤ q * 2 ^ k → units f s q k ≡ inf s
unfolding units
units-inf f s q k h = cond_no (ltb (q * 2 ^ k) (overflow f)) (odd (suc (prec f)) s q k (low f)) (inf s) (le→nltb (q * 2 ^ k) (overflow f) h)

-- ---- the opposite's pattern has the sign's bit too
pub to_bits-neg : (f : Format) (y : Float) → T (plain y) → to_bits f (neg y) ≡ top f + to_bits f y
unfolding to_bits neg
to_bits-neg f nan p = absurd p
to_bits-neg f (inf true) p = absurd p
to_bits-neg f (inf false) p = omega arith
to_bits-neg f (fin true m e) p = absurd p
to_bits-neg f (fin false m e) p =
    let n = m * up e * 2 ^ low f / down e in
    let k = size n - prec f in
    sums (top f) (k * hid f) (n / 2 ^ k)
  where
    sums : (a b c : ℕ) → a + b + c ≡ a + (0 + b + c)
    sums a b c = omega arith
