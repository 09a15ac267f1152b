-- A bit pattern by its fields, in any format: the sign, the exponent's field and the fraction. What each kind of pattern is, and what the code's
-- masks take from it. Assumes nothing.
use mathlib.Core.Path.{◌≡◌, refl, sym, ap, ◌∙◌, subst}
use Prim.Native.Nat.{ℕ, zero, suc, ◌+◌, ◌-◌, ◌*◌, ◌/◌, ◌%◌, ◌^◌, ◌≤◌, ◌<◌}
use native.Mathlib.Nat.{le_trans, le_of_eq, lt_of_lt_of_le, not-le_of_lt, zero-lt-suc, one-mul, mul-one, mul-pos, mul-le-mul_left, div-eq_of_lt, div-lt_iff_lt-mul, mod-lt, mod-eq_of_lt, mod-mod_of_dvd, dvd-mul_right}
use native.Mathlib.Omega.{arith}
use mathlib.Core.Bool.{Bool, true, false, cond}
use lib.IntN.{pos}
use lib.Dec.{T, leb, eqb, le→leb, eqb→eq, not_T}
use lib.Arith.{lt→nleb}
use lib.Pow.{pow_pos}
use lib.Bits.{bit_and, bit_or, and_mask, or_shifted_r}
use lib.Ieee.{Float, nan, inf, fin, Format, prec, low, hid, ones, top, odd, neg, of_fields, of_bits}
use lib.Ieee.Fits.{eq→eqb}
use lib.Ieee.Bits.{is_true, is_false, cond_no}
use lib.Ieee.Exact.{HasValue, odd_sign}
use Rattle.floats.proofs.Held.{hid-twice}
use Rattle.floats.proofs.Signs.{plain, plain-odd, neg-odd}

pub of_bits_is : (f : Format) (b : ℕ) → of_bits f b ≡ of_fields f (leb (top f) b) (b % top f / hid f) (b % hid f)
unfolding of_bits
of_bits_is f b = refl

hid-pos : (f : Format) → 0 < hid f
hid-pos f = pow_pos (prec f - 1)

pub top_pos : (f : Format) → 0 < top f
top_pos f = mul-pos (hid-pos f) (zero-lt-suc (ones f))

-- the fraction of b is the fraction of b without its sign
pub same-fraction : (f : Format) (b : ℕ) → b % top f % hid f ≡ b % hid f
same-fraction f b = mod-mod_of_dvd (hid f) b (dvd-mul_right (hid f) (suc (ones f)))

-- ---- what the code's masks take
pub fraction-is : (f : Format) (b : ℕ) → bit_and b (hid f - 1) ≡ b % hid f
fraction-is f b = and_mask b (prec f - 1)

pub lead_is : (f : Format) (b : ℕ) → bit_or (bit_and b (hid f - 1)) (hid f) ≡ hid f + b % hid f
lead_is f b =
    ap (λ (k : ℕ). bit_or k (hid f)) (fraction-is f b)
    ∙ ap (λ (k : ℕ). bit_or (b % hid f) k) (sym (one-mul (hid f)))
    ∙ or_shifted_r 1 (prec f - 1) (b % hid f) (mod-lt b (hid-pos f))
    ∙ ap (λ (k : ℕ). k + b % hid f) (one-mul (hid f))

-- ---- the sign clear
clear : (f : Format) (b : ℕ) → b < top f → of_bits f b ≡ of_fields f false (b / hid f) (b % hid f)
clear f b h =
    of_bits_is f b
    ∙ ap (λ (s : Bool). of_fields f s (b % top f / hid f) (b % hid f)) (is_false (leb (top f) b) (lt→nleb (top f) b h))
    ∙ ap (λ (n : ℕ). of_fields f false (n / hid f) (b % hid f)) (mod-eq_of_lt h)

pub below_top : (f : Format) (b : ℕ) → b / top f ≡ 0 → b < top f
below_top f b e = lt_of_lt_of_le ((div-lt_iff_lt-mul (top_pos f)).0 (le_of_eq (ap suc e))) (le_of_eq (one-mul (top f)))

-- a subnormal number, and a normal one
pub low_value : (f : Format) (b : ℕ) → b < hid f → HasValue (of_bits f b) false (b * 2 ^ 0) (2 ^ low f)
unfolding of_fields
low_value f b h =
    subst (λ (x : Float). HasValue x false (b * 2 ^ 0) (2 ^ low f))
    (sym (clear f b (lt_of_lt_of_le h (le_trans (le_of_eq (sym (mul-one (hid f)))) (mul-le-mul_left (hid f) (zero-lt-suc (ones f)))))
    ∙ ap (λ (n : ℕ). of_fields f false n (b % hid f)) (div-eq_of_lt h) ∙ ap (λ (n : ℕ). of_fields f false 0 n) (mod-eq_of_lt h)))
    (odd_sign (prec f) false b 0 (low f))

pub normal-value : (f : Format) (b j : ℕ) → b < top f → b / hid f ≡ suc j → suc j < ones f
    → HasValue (of_bits f b) false ((hid f + b % hid f) * 2 ^ j) (2 ^ low f)
unfolding of_fields
normal-value f b j h e o =
    let t = b % hid f in
    subst (λ (x : Float). HasValue x false ((hid f + t) * 2 ^ j) (2 ^ low f))
    (sym (clear f b h ∙ ap (λ (n : ℕ). of_fields f false n t) e
    ∙ cond_no (eqb (suc j) (ones f)) (cond (eqb t 0) (inf false) nan) (odd (prec f) false (hid f + t) j (low f))
    (not_T (eqb (suc j) (ones f)) (λ u. not-le_of_lt o (le_of_eq (sym (eqb→eq (suc j) (ones f) u)))))))
    (odd_sign (prec f) false (hid f + t) j (low f))

-- the digits of a normal number are the format's
pub with_lead : (f : Format) (b : ℕ) → hid f + b % hid f < 2 ^ prec f
with_lead f b =
    let l : b % hid f < hid f = mod-lt b (hid-pos f) in
    let e : 2 ^ prec f ≡ 2 * 2 ^ (prec f - 1) = hid-twice f in
    omega arith

-- up to infinity's pattern there is no NaN, and no minus sign
pub plain-pattern : (f : Format) (b : ℕ) → b < top f → (b / hid f ≡ ones f → b % hid f ≡ 0) → T (plain (of_bits f b))
unfolding of_fields
plain-pattern f b h k = subst (λ (y : Float). T (plain y)) (sym (clear f b h)) (fields (b / hid f) (b % hid f) k)
  where
    fields : (x t : ℕ) → (x ≡ ones f → t ≡ 0) → T (plain (of_fields f false x t))
    fields zero t i = plain-odd (prec f) t 0 (low f)
    fields (suc x) t i = cases (eqb (suc x) (ones f)) (eqb t 0) (eqb→eq (suc x) (ones f)) (λ z. eq→eqb (i z))
      where
        cases : (a c : Bool) → (T a → suc x ≡ ones f) → (suc x ≡ ones f → T c)
            → T (plain (cond a (cond c (inf false) nan) (odd (prec f) false (hid f + t) x (low f))))
        cases true true u v = tt
        cases true false u v = absurd (v (u tt))
        cases false c u v = plain-odd (prec f) (hid f + t) x (low f)

-- ---- a zero, of either sign
pub zero_is : (f : Format) (b : ℕ) → b % top f ≡ 0 → of_bits f b ≡ fin (leb (top f) b) 0 (pos 0)
unfolding of_fields odd
zero_is f b h =
    of_bits_is f b
    ∙ ap (λ (x : ℕ). of_fields f (leb (top f) b) (x / hid f) (b % hid f)) h
    ∙ ap (λ (x : ℕ). of_fields f (leb (top f) b) x (b % hid f)) (div-eq_of_lt (hid-pos f))
    ∙ ap (λ (x : ℕ). of_fields f (leb (top f) b) 0 x) (sym (same-fraction f b) ∙ ap (λ (x : ℕ). x % hid f) h ∙ mod-eq_of_lt (hid-pos f))

-- ---- the sign set: the opposite of the rest
neg-fields : (f : Format) (x t : ℕ) → of_fields f true x t ≡ neg (of_fields f false x t)
unfolding of_fields
neg-fields f zero t = sym (neg-odd (prec f) t 0 (low f))
neg-fields f (suc x) t = go (eqb (suc x) (ones f)) (eqb t 0)
  where
    go : (a b : Bool)
        → cond a (cond b (inf true) nan) (odd (prec f) true (hid f + t) x (low f)) ≡ neg (cond a (cond b (inf false) nan) (odd (prec f) false (hid f + t) x (low f)))
    go true true = unfold neg in refl
    go true false = unfold neg in refl
    go false b = sym (neg-odd (prec f) (hid f + t) x (low f))

pub neg-pattern : (f : Format) (b : ℕ) → top f ≤ b → of_bits f b ≡ neg (of_bits f (b % top f))
neg-pattern f b k =
    of_bits_is f b
    ∙ ap (λ (s : Bool). of_fields f s (b % top f / hid f) (b % hid f)) (is_true (leb (top f) b) (le→leb (top f) b k))
    ∙ neg-fields f (b % top f / hid f) (b % hid f)
    ∙ ap neg (ap (λ (t : ℕ). of_fields f false (b % top f / hid f) t) (sym (same-fraction f b)) ∙ sym (clear f (b % top f) (mod-lt b (top_pos f))))
