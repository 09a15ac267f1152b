-- Each operation on finite values is the exact result rounded: sums, differences, products and quotients, of any signs, as differences of fractions.
-- Assumes nothing.
use mathlib.Core.Path.{◌≡◌, refl, sym, ap, ap₂, ◌∙◌, subst}
use Prim.Native.Nat.{ℕ, ◌+◌, ◌-◌, ◌*◌, ◌≤◌, ◌<◌}
use native.Mathlib.Nat.{le_of_eq, not-le_of_lt, zero-lt-suc, add_comm, mul_comm, mul-pos}
use native.Mathlib.Omega.{arith}
use mathlib.Core.Bool.{Bool, true, false, not, cond}
use lib.IntN.{ℤ}
use lib.Dec.{T, ltb, eqb, ltb→lt, nltb→le, eqb→eq, not_T}
use lib.Ieee.{Float, nan, inf, fin, Format, unlike, up, down, round, neg, sum, add, sub, mul, div, fits, is_nan}
use lib.Ieee.Fits.{down_pos}
use lib.Ieee.Bits.{cond_no}
use lib.Ieee.Exact.{HasValue}
use lib.Ieee.Scale.{finite, round_same}
use lib.Ieee.Positive.{num, den}
use Rattle.floats.specs.Standard.{gain, loss, sign}
use Rattle.floats.proofs.Differences.{gain-mul, loss-mul, gain-not, loss-not, product-val}
use Rattle.floats.proofs.Signs.{round_number}
use Rattle.floats.proofs.SameValue.{own-round}
use Rattle.floats.proofs.Signed.{G, L, Rounded}

rounded-number : {f : Format} {z : Float} {g l c : ℕ} → Rounded f z g l c → T (not (is_nan z))
rounded-number {f} {z} {g} {l} {c} r = subst (λ (x : Float). T (not (is_nan x))) (sym r.is) (round_number f r.s r.k c)

-- ---- sums and differences
sum-rounded : (f : Format) (s : Bool) (a : ℕ) (t : Bool) (b c : ℕ) → Rounded f (sum f s a t b c) (gain s a + gain t b) (loss s a + loss t b) c
unfolding sum
sum-rounded f false a false b c = record { s = false; k = a + b; is = refl; val = omega arith }
sum-rounded f true a true b c = record { s = true; k = a + b; is = refl; val = omega arith }
sum-rounded f false a true b c = go (ltb a b) (ltb→lt a b) (nltb→le a b)
  where
    go : (x : Bool) → (T x → a < b) → (T (not x) → b ≤ a)
        → Rounded f (cond x (round f true (b - a) c) (round f false (a - b) c)) (a + 0) (0 + b) c
    go true h k = let l : a < b = h tt in record { s = true; k = b - a; is = refl; val = omega arith }
    go false h k = let l : b ≤ a = k tt in record { s = false; k = a - b; is = refl; val = omega arith }
sum-rounded f true a false b c = go (ltb a b) (ltb→lt a b) (nltb→le a b)
  where
    -- a zero is +0
    last : b ≤ a → (y : Bool) → (T (not y) → a ≤ b) → Rounded f (round f y (a - b) c) (0 + b) (a + 0) c
    last l true h = record { s = true; k = a - b; is = refl; val = omega arith }
    last l false h = let u : a ≤ b = h tt in record { s = false; k = a - b; is = refl; val = omega arith }

    go : (x : Bool) → (T x → a < b) → (T (not x) → b ≤ a)
        → Rounded f (cond x (round f false (b - a) c) (round f (ltb b a) (a - b) c)) (0 + b) (a + 0) c
    go true h k = let l : a < b = h tt in record { s = false; k = b - a; is = refl; val = omega arith }
    go false h k = last (k tt) (ltb b a) (nltb→le b a)

recount : (f : Format) (z : Float) (g l c g' l' : ℕ) → g ≡ g' → l ≡ l' → Rounded f z g l c → Rounded f z g' l' c
recount f z g l c g' l' p q r =
    record {
      s = r.s;
      k = r.k;
      is = r.is;
      val = ap (λ (x : ℕ). gain r.s r.k + x) (sym q) ∙ r.val ∙ ap (λ (x : ℕ). loss r.s r.k + x) p;
    }

pub add-rounded : (f : Format) (x y : Float) → T (finite x) → T (finite y)
    → Rounded f (add f x y) (G x * den y + G y * den x) (L x * den y + L y * den x) (den x * den y)
unfolding add
add-rounded f nan y p q = absurd p
add-rounded f (inf s) y p q = absurd p
add-rounded f (fin s m e) nan p q = absurd q
add-rounded f (fin s m e) (inf t) p q = absurd q
add-rounded f (fin s m e) (fin t n d) p q =
    let a = m * up e in
    let b = n * up d in
    recount f (sum f s (a * down d) t (b * down e) (down e * down d)) (gain s (a * down d) + gain t (b * down e))
    (loss s (a * down d) + loss t (b * down e)) (down e * down d)
    (gain s a * down d + gain t b * down e) (loss s a * down d + loss t b * down e)
    (ap₂ (λ (x y : ℕ). x + y) (gain-mul s a (down d)) (gain-mul t b (down e)))
    (ap₂ (λ (x y : ℕ). x + y) (loss-mul s a (down d)) (loss-mul t b (down e)))
    (sum-rounded f s (a * down d) t (b * down e) (down e * down d))

pub sub-rounded : (f : Format) (x y : Float) → T (finite x) → T (finite y)
    → Rounded f (sub f x y) (G x * den y + L y * den x) (L x * den y + G y * den x) (den x * den y)
unfolding sub neg
sub-rounded f x nan p q = absurd q
sub-rounded f x (inf t) p q = absurd q
sub-rounded f x (fin t n d) p q =
    let b = n * up d in
    recount f (add f x (fin (not t) n d)) (G x * down d + gain (not t) b * den x) (L x * down d + loss (not t) b * den x) (den x * down d)
    (G x * down d + loss t b * den x) (L x * down d + gain t b * den x)
    (ap (λ (k : ℕ). G x * down d + k * den x) (gain-not t b))
    (ap (λ (k : ℕ). L x * down d + k * den x) (loss-not t b))
    (add-rounded f x (fin (not t) n d) p tt)

-- ---- a sum of two values with one sign, by any fractions that they are
sum_like : (f : Format) (s : Bool) (a b c : ℕ) → sum f s a s b c ≡ round f s (a + b) c
unfolding sum
sum_like f false a b c = refl
sum_like f true a b c = refl

pub add_at : (f : Format) (s : Bool) (x y : Float) (a c b d : ℕ) → 0 < c → 0 < d → HasValue x s a c → HasValue y s b d
    → add f x y ≡ round f s (a * d + b * c) (c * d)
unfolding add
add_at f s nan y a c b d C D v w = absurd v
add_at f s (inf t) y a c b d C D v w = absurd v
add_at f s (fin t m e) nan a c b d C D v w = absurd w
add_at f s (fin t m e) (inf u) a c b d C D v w = absurd w
add_at f s (fin t m e) (fin u n g) a c b d C D v w =
    let X = m * up e in
    let Y = n * up g in
    ap₂ (λ (i j : Bool). sum f i (X * down g) j (Y * down e) (down e * down g)) v.0 w.0
    ∙ sum_like f s (X * down g) (Y * down e) (down e * down g)
    ∙ round_same f s (X * down g + Y * down e) (down e * down g) (a * d + b * c) (c * d) (mul-pos (down_pos e) (down_pos g)) (mul-pos C D)
    (cross X (down e) Y (down g) v.1 w.1)
  where
    cross : (X E Y G : ℕ) → X * c ≡ a * E → Y * d ≡ b * G → (X * G + Y * E) * (c * d) ≡ (a * d + b * c) * (E * G)
    cross X E Y G h k =
        let p : X * c * (G * d) ≡ a * E * (G * d) = ap (λ (z : ℕ). z * (G * d)) h in
        let q : Y * d * (E * c) ≡ b * G * (E * c) = ap (λ (z : ℕ). z * (E * c)) k in
        omega arith

-- ---- a whole number less one that is not above it is +0 or above
sum_less : (f : Format) (a b c : ℕ) → b ≤ a → sum f false a true b c ≡ round f false (a - b) c
unfolding sum
sum_less f a b c h = go (ltb a b) (ltb→lt a b)
  where
    go : (t : Bool) → (T t → a < b) → cond t (round f true (b - a) c) (round f false (a - b) c) ≡ round f false (a - b) c
    go true k = absurd (not-le_of_lt (k tt) h)
    go false k = refl

pub sub-whole : (f : Format) (x y : Float) (i j : ℕ) → HasValue x false (j + i) 1 → HasValue y false j 1 → sub f x y ≡ round f false i 1
unfolding sub add neg
sub-whole f nan y i j v w = absurd v
sub-whole f (inf t) y i j v w = absurd v
sub-whole f (fin t m e) nan i j v w = absurd w
sub-whole f (fin t m e) (inf u) i j v w = absurd w
sub-whole f (fin t m e) (fin u n g) i j v w =
    let A = m * up e * down g in
    let B = n * up g * down e in
    let D = down e * down g in
    let a : A ≡ (j + i) * D = over (m * up e) (down e) (down g) (j + i) v.1 in
    let b : B ≡ j * D = over (n * up g) (down g) (down e) j w.1 ∙ ap (λ (z : ℕ). j * z) (mul_comm (down g) (down e)) in
    ap₂ (λ (s r : Bool). sum f s A (not r) B D) v.0 w.0
    ∙ sum_less f A B D (omega arith)
    ∙ round_same f false (A - B) D i 1 (mul-pos (down_pos e) (down_pos g)) (zero-lt-suc 0) (omega arith)
  where
    over : (X E G k : ℕ) → X * 1 ≡ k * E → X * G ≡ k * (E * G)
    over X E G k h = let p : X * 1 * G ≡ k * E * G = ap (λ (z : ℕ). z * G) h in omega arith

-- ---- products
pub product-rounded : (f : Format) (x y : Float) → T (finite x) → T (finite y)
    → Rounded f (mul f x y) (G x * G y + L x * L y) (G x * L y + L x * G y) (den x * den y)
unfolding mul
product-rounded f nan y p q = absurd p
product-rounded f (inf s) y p q = absurd p
product-rounded f (fin s m e) nan p q = absurd q
product-rounded f (fin s m e) (inf t) p q = absurd q
product-rounded f (fin s m e) (fin t n d) p q = record { s = unlike s t; k = m * up e * (n * up d); is = refl; val = product-val s (m * up e) t (n * up d) }

not_none : (n : ℕ) → 0 < n → T (not (eqb n 0))
not_none n h = not_T (eqb n 0) (λ z. not-le_of_lt h (le_of_eq (eqb→eq n 0 z)))

-- ---- quotients: the product with 1 / y, which is ±den y / num y
pub div_is : (f : Format) (s : Bool) (m : ℕ) (e : ℤ) (t : Bool) (n : ℕ) (d : ℤ) → 0 < n
    → div f (fin s m e) (fin t n d) ≡ round f (unlike s t) (m * up e * down d) (n * up d * down e)
unfolding div
div_is f s m e t n d h =
    cond_no (eqb n 0) (cond (eqb m 0) nan (inf (unlike s t))) (round f (unlike s t) (m * up e * down d) (n * up d * down e)) (not_none n h)

-- finite, and not zero
abbrev pub Nonzero : Float → Type 0
Nonzero nan = ⊥
Nonzero (inf s) = ⊥
Nonzero (fin s m e) = 0 < m

-- 1 / y is (Gʳ y - Lʳ y) / num y
abbrev pub Gʳ : Float → ℕ
Gʳ y = gain (sign y) (den y)

abbrev pub Lʳ : Float → ℕ
Lʳ y = loss (sign y) (den y)

pub quotient-rounded : (f : Format) (x y : Float) → T (finite x) → Nonzero y
    → Rounded f (div f x y) (G x * Gʳ y + L x * Lʳ y) (G x * Lʳ y + L x * Gʳ y) (den x * num y)
quotient-rounded f nan y p q = absurd p
quotient-rounded f (inf s) y p q = absurd p
quotient-rounded f (fin s m e) nan p q = absurd q
quotient-rounded f (fin s m e) (inf t) p q = absurd q
quotient-rounded f (fin s m e) (fin t n d) p q =
    record {
      s = unlike s t;
      k = m * up e * down d;
      is = div_is f s m e t n d q ∙ ap (λ (c : ℕ). round f (unlike s t) (m * up e * down d) c) (mul_comm (n * up d) (down e));
      val = product-val s (m * up e) t (down d);
    }

-- ---- a value of the format is its own rounding
pub own-rounded : (f : Format) (w : Float) → T (fits f w) → T (finite w) → Rounded f w (G w) (L w) (den w)
own-rounded f nan p q = absurd q
own-rounded f (inf s) p q = absurd q
own-rounded f (fin s m e) p q = record { s = s; k = m * up e; is = sym (own-round f s m e p); val = add_comm (gain s (m * up e)) (loss s (m * up e)) }

-- ---- no NaN: of a finite value and one that is no NaN
pub div-number : (f : Format) (x y : Float) → T (finite x) → Nonzero y → T (not (is_nan (div f x y)))
div-number f x y p q = rounded-number (quotient-rounded f x y p q)

pub mul-number : (f : Format) (x y : Float) → Nonzero x → T (not (is_nan y)) → T (not (is_nan (mul f x y)))
unfolding mul is_nan
mul-number f nan y p q = absurd p
mul-number f (inf s) y p q = absurd p
mul-number f (fin s m e) nan p q = absurd q
mul-number f (fin s m e) (inf t) p q = subst (λ (x : Float). T (not (is_nan x))) (sym (cond_no (eqb m 0) nan (inf (unlike s t)) (not_none m p))) tt
mul-number f (fin s m e) (fin t n d) p q = round_number f (unlike s t) (m * up e * (n * up d)) (down e * down d)

pub sub_number : (f : Format) (x y : Float) → T (finite x) → T (not (is_nan y)) → T (not (is_nan (sub f x y)))
unfolding sub add neg is_nan
sub_number f nan y p q = absurd p
sub_number f (inf s) y p q = absurd p
sub_number f (fin s m e) nan p q = absurd q
sub_number f (fin s m e) (inf t) p q = tt
sub_number f (fin s m e) (fin t n d) p q = rounded-number (sub-rounded f (fin s m e) (fin t n d) p tt)
