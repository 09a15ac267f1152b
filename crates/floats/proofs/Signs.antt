-- The sign of a float: what has no minus sign (`plain`), that rounding knows the sign only to set it, and what a value says of its sign. Assumes nothing.
use mathlib.Core.Path.{◌≡◌, refl, sym, ap, ◌∙◌, subst}
use Prim.Native.Nat.{ℕ, zero, suc, ◌+◌, ◌*◌, ◌^◌}
use mathlib.Core.Bool.{Bool, true, false, not, cond, true≢false}
use lib.Dec.{T, ltb}
use lib.Ieee.{Float, nan, inf, fin, Format, prec, emax, low, unlike, odd, units, round, neg, is_nan}
use lib.Ieee.Fits.{round_is}
use lib.Ieee.Exact.{HasValue}
use lib.Ieee.Scale.{finite}
use lib.Ieee.Positive.{num, den, positive}
use Rattle.floats.specs.Standard.{sign, unsigned}

-- ---- no NaN, and no minus sign
abbrev pub plain : Float → Bool
plain nan = false
plain (inf s) = not s
plain (fin s m e) = not s

pub plain-odd : (d q k l : ℕ) → T (plain (odd d false q k l))
unfolding odd
plain-odd d zero k l = tt
plain-odd d (suc q) k l = tt

pub plain-units : (f : Format) (q k : ℕ) → T (plain (units f false q k))
unfolding units
plain-units f q k = go (ltb (q * 2 ^ k) (2 ^ (low f + suc (emax f))))
  where
    go : (b : Bool) → T (plain (cond b (odd (suc (prec f)) false q k (low f)) (inf false)))
    go true = plain-odd (suc (prec f)) q k (low f)
    go false = tt

pub plain-round : (f : Format) (a c : ℕ) → T (plain (round f false a c))
plain-round f a c = subst (λ (x : Float). T (plain x)) (sym (round_is f false a c)) (plain-units f _ _)

-- ---- the opposite
pub neg-odd : (d q k l : ℕ) → neg (odd d false q k l) ≡ odd d true q k l
unfolding neg odd
neg-odd d zero k l = refl
neg-odd d (suc q) k l = refl

neg-units : (f : Format) (q k : ℕ) → neg (units f false q k) ≡ units f true q k
unfolding units neg
neg-units f q k = go (ltb (q * 2 ^ k) (2 ^ (low f + suc (emax f))))
  where
    go : (b : Bool) → neg (cond b (odd (suc (prec f)) false q k (low f)) (inf false)) ≡ cond b (odd (suc (prec f)) true q k (low f)) (inf true)
    go true = neg-odd (suc (prec f)) q k (low f)
    go false = refl

pub neg-round : (f : Format) (a c : ℕ) → neg (round f false a c) ≡ round f true a c
neg-round f a c = ap neg (round_is f false a c) ∙ neg-units f _ _ ∙ sym (round_is f true a c)

pub neg-neg : (x : Float) → neg (neg x) ≡ x
unfolding neg
neg-neg nan = refl
neg-neg (inf true) = refl
neg-neg (inf false) = refl
neg-neg (fin true m e) = refl
neg-neg (fin false m e) = refl

pub round-neg : (f : Format) (s : Bool) (a c : ℕ) → round f (not s) a c ≡ neg (round f s a c)
round-neg f false a c = sym (neg-round f a c)
round-neg f true a c = sym (neg-neg (round f false a c)) ∙ ap neg (neg-round f a c)

-- ---- no NaN
neg-number : (x : Float) → T (not (is_nan x)) → T (not (is_nan (neg x)))
unfolding is_nan neg
neg-number nan n = n
neg-number (inf s) n = tt
neg-number (fin s m e) n = tt

plain-number : (x : Float) → T (plain x) → T (not (is_nan x))
unfolding is_nan
plain-number nan p = p
plain-number (inf s) p = tt
plain-number (fin s m e) p = tt

pub round_number : (f : Format) (s : Bool) (a c : ℕ) → T (not (is_nan (round f s a c)))
round_number f false a c = plain-number (round f false a c) (plain-round f a c)
round_number f true a c =
    subst (λ (x : Float). T (not (is_nan x))) (neg-round f a c) (neg-number (round f false a c) (plain-number (round f false a c) (plain-round f a c)))

pub neg-finite : (x : Float) → T (finite x) → T (finite (neg x))
unfolding neg
neg-finite nan h = h
neg-finite (inf s) h = h
neg-finite (fin s m e) h = tt

-- the sign of a product or a quotient with a number that has no minus sign
pub same_sign : (s : Bool) → unlike s false ≡ s
same_sign true = refl
same_sign false = refl

-- ---- what `HasValue x s a c`, x is ±a / c, says of x
pub value-finite : (x : Float) (s : Bool) (a c : ℕ) → HasValue x s a c → T (finite x)
value-finite nan s a c v = absurd v
value-finite (inf t) s a c v = absurd v
value-finite (fin t m e) s a c v = tt

pub value-parts : (x : Float) (s : Bool) (a c : ℕ) → HasValue x s a c → (sign x ≡ s) × (num x * c ≡ a * den x)
value-parts nan s a c v = absurd v
value-parts (inf t) s a c v = absurd v
value-parts (fin t m e) s a c v = v

pub value-unsigned : (x : Float) (a c : ℕ) → HasValue x false a c → T (unsigned x)
value-unsigned nan a c v = absurd v
value-unsigned (inf s) a c v = absurd v
value-unsigned (fin true m e) a c v = absurd (true≢false v.0)
value-unsigned (fin false m e) a c v = tt

-- ---- from zero up, and above zero
pub unsigned-finite : (x : Float) → T (unsigned x) → T (finite x)
unsigned-finite nan u = absurd u
unsigned-finite (inf s) u = absurd u
unsigned-finite (fin s m e) u = tt

pub positive-unsigned : (x : Float) → T (positive x) → T (unsigned x)
positive-unsigned nan p = absurd p
positive-unsigned (inf s) p = absurd p
positive-unsigned (fin true m e) p = absurd p
positive-unsigned (fin false m e) p = tt

pub positive-sign : (x : Float) → T (positive x) → sign x ≡ false
positive-sign nan p = absurd p
positive-sign (inf s) p = absurd p
positive-sign (fin true m e) p = absurd p
positive-sign (fin false m e) p = refl
