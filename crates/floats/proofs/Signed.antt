-- The order of finite values of both signs, and that rounding keeps it: a value is a difference of two fractions, gain / den - loss / den, so that
-- signs need no cases. Assumes nothing.
use mathlib.Core.Path.{◌≡◌, refl, sym, ap, ap₂, ◌∙◌, subst}
use mathlib.Core.Logic.{inl, inr}
use Prim.Native.Nat.{ℕ, suc, ◌+◌, ◌*◌, ◌^◌, ◌≤◌, ◌<◌, zero-le}
use native.Mathlib.Nat.{le_trans, le_antisymm, le_of_eq, le_of_lt, not-le_of_lt, eq-zero-or-pos, zero-mul, mul-pos, mul-le-mul_right, le_of_mul-le-mul_right}
use native.Mathlib.Omega.{arith}
use mathlib.Core.Bool.{Bool, true, false, not, ◌&&◌, ◌||◌, true≢false}
use lib.Dec.{T, ltb, eqb, ltb→lt, nltb→le, eqb→eq}
use lib.Pow.{pow_pos}
use lib.Ieee.{Float, nan, inf, fin, Format, prec, emax, low, up, down, round, neg, below, level, lt, le, eq}
use lib.Ieee.Fits.{and_i, and_l, and_r, eq→eqb}
use lib.Ieee.Exact.{round_exact, HasValue}
use lib.Ieee.Order.{round_mono}
use lib.Ieee.Scale.{finite}
use lib.Ieee.Positive.{num, den, den_pos}
use Rattle.floats.specs.Standard.{gain, loss, sign, unsigned}
use Rattle.floats.proofs.Differences.{gain-mul, loss-mul}
use Rattle.floats.proofs.Signs.{plain, plain-round, neg-round, value-finite, value-parts}

-- ---- the tests on two signed numbers: below, or level
or→le : (a b : ℕ) (q : Bool) → (T q → a ≡ b) → T (ltb a b || q) → a ≤ b
or→le a b q k t = go (ltb a b) q (ltb→lt a b) k t
  where
    go : (x y : Bool) → (T x → a < b) → (T y → a ≡ b) → T (x || y) → a ≤ b
    go true y h e u = le_of_lt (h tt)
    go false true h e u = le_of_eq (e tt)
    go false false h e u = absurd u

le→or : (a b : ℕ) (q : Bool) → (a ≡ b → T q) → a ≤ b → T (ltb a b || q)
le→or a b q k h = go (ltb a b) (nltb→le a b)
  where
    go : (x : Bool) → (T (not x) → b ≤ a) → T (x || q)
    go true n = tt
    go false n = k (le_antisymm h (n tt))

both_zero : (a b : ℕ) → a + b ≤ 0 → T (eqb a b && eqb a 0)
both_zero a b h = and_i (eqb a b) (eqb a 0) (eq→eqb {a = a} {b = b} (omega arith)) (eq→eqb {a = a} {b = 0} (omega arith))

pub of_test : (s : Bool) (a : ℕ) (t : Bool) (b : ℕ) → T (below s a t b || level s a t b) → gain s a + loss t b ≤ gain t b + loss s a
of_test false a false b h =
    let l : a ≤ b = or→le a b (eqb a b && true) (λ z. eqb→eq a b (and_l (eqb a b) true z)) h in
    omega arith
of_test false a true b h =
    let p : a ≡ b = eqb→eq a b (and_l (eqb a b) (eqb a 0) h) in
    let q : a ≡ 0 = eqb→eq a 0 (and_r (eqb a b) (eqb a 0) h) in
    omega arith
of_test true a false b h = zero-le
of_test true a true b h =
    let l : b ≤ a = or→le b a (eqb a b && true) (λ z. sym (eqb→eq a b (and_l (eqb a b) true z))) h in
    omega arith

pub to-test : (s : Bool) (a : ℕ) (t : Bool) (b : ℕ) → gain s a + loss t b ≤ gain t b + loss s a → T (below s a t b || level s a t b)
to-test false a false b h = le→or a b (eqb a b && true) (λ e. and_i (eqb a b) true (eq→eqb e) tt) (omega arith)
to-test false a true b h = both_zero a b (omega arith)
to-test true a false b h = le→or 0 (a + b) (eqb a b && eqb a 0) (λ e. both_zero a b (le_of_eq (sym e))) zero-le
to-test true a true b h = le→or b a (eqb a b && true) (λ e. and_i (eqb a b) true (eq→eqb (sym e)) tt) (omega arith)

not-below : (s : Bool) (a : ℕ) (t : Bool) (b : ℕ) → T (below t b s a) → gain s a + loss t b ≤ gain t b + loss s a → ⊥
not-below false a false b h k = let l : b < a = ltb→lt b a h in omega arith
not-below false a true b h k = let l : 0 < b + a = ltb→lt 0 (b + a) h in omega arith
not-below true a false b h k = absurd h
not-below true a true b h k = let l : a < b = ltb→lt a b h in omega arith

level-of : (s : Bool) (a : ℕ) (t : Bool) (b : ℕ) → gain s a + loss t b ≤ gain t b + loss s a → gain t b + loss s a ≤ gain s a + loss t b
    → T (level s a t b)
level-of false a false b h k = and_i (eqb a b) true (eq→eqb {a = a} {b = b} (omega arith)) tt
level-of false a true b h k = both_zero a b (omega arith)
level-of true a false b h k = both_zero a b (omega arith)
level-of true a true b h k = and_i (eqb a b) true (eq→eqb {a = a} {b = b} (omega arith)) tt

-- ---- finite values
abbrev pub G : Float → ℕ
G x = gain (sign x) (num x)

abbrev pub L : Float → ℕ
L x = loss (sign x) (num x)

-- ±a / c is at most ±b / d, and x is at most y
abbrev pub Below : Bool → ℕ → ℕ → Bool → ℕ → ℕ → Type 0
Below s a c t b d = gain s a * d + loss t b * c ≤ gain t b * c + loss s a * d

abbrev pub Le : Float → Float → Type 0
Le x y = Below (sign x) (num x) (den x) (sign y) (num y) (den y)

-- over one denominator
scaled : (s : Bool) (a c : ℕ) (t : Bool) (b d : ℕ) → gain s (a * d) + loss t (b * c) ≡ gain s a * d + loss t b * c
scaled s a c t b d = ap₂ (λ (x y : ℕ). x + y) (gain-mul s a d) (loss-mul t b c)

-- the test and the fractions
pub le→Le : (x y : Float) → T (finite x) → T (finite y) → T (le x y) → Le x y
unfolding le lt eq
le→Le nan y p q h = absurd p
le→Le (inf s) y p q h = absurd p
le→Le (fin s m e) nan p q h = absurd q
le→Le (fin s m e) (inf t) p q h = absurd q
le→Le (fin s m e) (fin t n d) p q h =
    le_trans (le_of_eq (sym (scaled s (m * up e) (down e) t (n * up d) (down d))))
    (le_trans (of_test s (m * up e * down d) t (n * up d * down e) h) (le_of_eq (scaled t (n * up d) (down d) s (m * up e) (down e))))

pub Le→le : (x y : Float) → T (finite x) → T (finite y) → Le x y → T (le x y)
unfolding le lt eq
Le→le nan y p q h = absurd p
Le→le (inf s) y p q h = absurd p
Le→le (fin s m e) nan p q h = absurd q
Le→le (fin s m e) (inf t) p q h = absurd q
Le→le (fin s m e) (fin t n d) p q h =
    to-test s (m * up e * down d) t (n * up d * down e)
    (le_trans (le_of_eq (scaled s (m * up e) (down e) t (n * up d) (down d)))
    (le_trans h (le_of_eq (sym (scaled t (n * up d) (down d) s (m * up e) (down e))))))

pub lt_not_le : (x y : Float) → T (finite x) → T (finite y) → T (lt y x) → T (le x y) → ⊥
unfolding le lt eq
lt_not_le nan y p q h k = absurd p
lt_not_le (inf s) y p q h k = absurd p
lt_not_le (fin s m e) nan p q h k = absurd q
lt_not_le (fin s m e) (inf t) p q h k = absurd q
lt_not_le (fin s m e) (fin t n d) p q h k = not-below s (m * up e * down d) t (n * up d * down e) h (of_test s (m * up e * down d) t (n * up d * down e) k)

pub Le-trans : (gx lx dx gy ly dy gz lz dz : ℕ) → 0 < dy → gx * dy + ly * dx ≤ gy * dx + lx * dy → gy * dz + lz * dy ≤ gz * dy + ly * dz
    → gx * dz + lz * dx ≤ gz * dx + lx * dz
Le-trans gx lx dx gy ly dy gz lz dz Y h k =
    let a : (gx * dy + ly * dx) * dz ≤ (gy * dx + lx * dy) * dz = mul-le-mul_right dz h in
    let b : (gy * dz + lz * dy) * dx ≤ (gz * dy + ly * dz) * dx = mul-le-mul_right dx k in
    le_of_mul-le-mul_right {m = gx * dz + lz * dx} {n = gz * dx + lx * dz} {k = dy} (omega arith) Y

pub le-trans-finite : (x y z : Float) → T (finite x) → T (finite y) → T (finite z) → T (le x y) → T (le y z) → T (le x z)
le-trans-finite x y z p q r h k =
    Le→le x z p r (Le-trans (G x) (L x) (den x) (G y) (L y) (den y) (G z) (L z) (den z) (den_pos y) (le→Le x y p q h) (le→Le y z q r k))

-- ---- values with no minus sign: the order of the fractions
lt-unsigned : (x y : Float) → T (unsigned x) → T (unsigned y) → lt x y ≡ ltb (num x * den y) (num y * den x)
unfolding lt
lt-unsigned nan y a b = absurd a
lt-unsigned (inf s) y a b = absurd a
lt-unsigned (fin true m e) y a b = absurd a
lt-unsigned (fin false m e) nan a b = absurd b
lt-unsigned (fin false m e) (inf t) a b = absurd b
lt-unsigned (fin false m e) (fin true n d) a b = absurd b
lt-unsigned (fin false m e) (fin false n d) a b = refl

pub lt→cross : (x y : Float) → T (unsigned x) → T (unsigned y) → T (lt x y) → num x * den y < num y * den x
lt→cross x y a b h = ltb→lt (num x * den y) (num y * den x) (subst T (lt-unsigned x y a b) h)

pub nlt→cross : (x y : Float) → T (unsigned x) → T (unsigned y) → T (not (lt x y)) → num y * den x ≤ num x * den y
nlt→cross x y a b h = nltb→le (num x * den y) (num y * den x) (subst (λ (t : Bool). T (not t)) (lt-unsigned x y a b) h)

-- ---- all values but NaN
pub le_antisym : (x y : Float) → T (le x y) → T (le y x) → T (eq x y)
unfolding le lt eq
le_antisym nan y h k = absurd h
le_antisym (inf s) nan h k = absurd h
le_antisym (inf true) (inf true) h k = tt
le_antisym (inf true) (inf false) h k = absurd k
le_antisym (inf false) (inf true) h k = absurd h
le_antisym (inf false) (inf false) h k = tt
le_antisym (inf true) (fin t n d) h k = absurd k
le_antisym (inf false) (fin t n d) h k = absurd h
le_antisym (fin s m e) nan h k = absurd h
le_antisym (fin s m e) (inf true) h k = absurd h
le_antisym (fin s m e) (inf false) h k = absurd k
le_antisym (fin s m e) (fin t n d) h k =
    level-of s (m * up e * down d) t (n * up d * down e) (of_test s (m * up e * down d) t (n * up d * down e) h)
    (of_test t (n * up d * down e) s (m * up e * down d) k)

-- the opposite values stand in the opposite order
pub neg-le : (x y : Float) → T (le x y) → T (le (neg y) (neg x))
unfolding le lt eq neg
neg-le nan y h = absurd h
neg-le (inf s) nan h = absurd h
neg-le (fin s m e) nan h = absurd h
neg-le (inf true) (inf true) h = tt
neg-le (inf true) (inf false) h = tt
neg-le (inf false) (inf true) h = absurd h
neg-le (inf false) (inf false) h = tt
neg-le (inf true) (fin t n d) h = tt
neg-le (inf false) (fin t n d) h = absurd h
neg-le (fin s m e) (inf true) h = absurd h
neg-le (fin s m e) (inf false) h = tt
neg-le (fin s m e) (fin t n d) h =
    to-test (not t) (n * up d * down e) (not s) (m * up e * down d)
    (swap s (m * up e * down d) t (n * up d * down e) (of_test s (m * up e * down d) t (n * up d * down e) h))
  where
    swap : (s : Bool) (a : ℕ) (t : Bool) (b : ℕ) → gain s a + loss t b ≤ gain t b + loss s a
        → gain (not t) b + loss (not s) a ≤ gain (not s) a + loss (not t) b
    swap false a false b k = omega arith
    swap false a true b k = omega arith
    swap true a false b k = omega arith
    swap true a true b k = omega arith

plain-neg-le : (x y : Float) → T (plain x) → T (plain y) → T (le (neg x) y)
unfolding le lt eq neg
plain-neg-le nan y p q = absurd p
plain-neg-le (inf true) y p q = absurd p
plain-neg-le (fin true m e) y p q = absurd p
plain-neg-le (inf false) nan p q = absurd q
plain-neg-le (inf false) (inf true) p q = absurd q
plain-neg-le (inf false) (inf false) p q = tt
plain-neg-le (inf false) (fin t n d) p q = tt
plain-neg-le (fin false m e) nan p q = absurd q
plain-neg-le (fin false m e) (inf true) p q = absurd q
plain-neg-le (fin false m e) (inf false) p q = tt
plain-neg-le (fin false m e) (fin true n d) p q = absurd q
plain-neg-le (fin false m e) (fin false n d) p q = to-test true (m * up e * down d) false (n * up d * down e) zero-le

-- ---- rounding keeps the order
pub value-le : (x y : Float) (s : Bool) (a c : ℕ) (t : Bool) (b d : ℕ) → 0 < c → 0 < d → HasValue x s a c → HasValue y t b d → Below s a c t b d
    → T (le x y)
value-le x y s a c t b d C D v w h =
    let p = value-parts x s a c v in
    let q = value-parts y t b d w in
    Le→le x y (value-finite x s a c v) (value-finite y t b d w)
    (Le-trans (G x) (L x) (den x) (gain s a) (loss s a) c (G y) (L y) (den y) C
    (same (sign x) (num x) (den x) s a c p.0 p.1)
    (Le-trans (gain s a) (loss s a) c (gain t b) (loss t b) d (G y) (L y) (den y) D h (same t b d (sign y) (num y) (den y) (sym q.0) (sym q.1))))
  where
    same : (u : Bool) (x dx : ℕ) (s : Bool) (y dy : ℕ) → u ≡ s → x * dy ≡ y * dx → gain u x * dy + loss s y * dx ≤ gain s y * dx + loss u x * dy
    same false x dx false y dy e k = omega arith
    same false x dx true y dy e k = absurd (true≢false (sym e))
    same true x dx false y dy e k = absurd (true≢false e)
    same true x dx true y dy e k = omega arith

round-zero : (f : Format) (s : Bool) (c : ℕ) → 0 < c → HasValue (round f s 0 c) s 0 c
round-zero f s c C = round_exact f s 0 c 0 0 C (pow_pos (prec f)) (pow_pos (low f + suc (emax f))) (zero-mul (2 ^ low f) ∙ sym (zero-mul c))

-- a fraction from 0 up is not above one from 0 down, unless both are 0
pub no_more : (a c b d : ℕ) → 0 < c → 0 < d → Below false a c true b d → (a ≡ 0) × (b ≡ 0)
no_more a c b d C D h = (none a d D (omega arith), none b c C (omega arith))
  where
    none : (x y : ℕ) → 0 < y → x * y ≤ 0 → x ≡ 0
    none x y Y l = elim (eq-zero-or-pos x) [ inl z ↦ z | inr p ↦ absurd (not-le_of_lt (mul-pos p Y) l) ]

pub round-le : (f : Format) (s : Bool) (a c : ℕ) (t : Bool) (b d : ℕ) → 0 < c → 0 < d → Below s a c t b d
    → T (le (round f s a c) (round f t b d))
round-le f false a c false b d C D h = round_mono f a c b d C D (omega arith)
round-le f true a c true b d C D h =
    subst (λ (z : Float). T (le z (round f true b d))) (neg-round f a c)
    (subst (λ (z : Float). T (le (neg (round f false a c)) z)) (neg-round f b d)
    (neg-le (round f false b d) (round f false a c) (round_mono f b d a c D C (omega arith))))
round-le f true a c false b d C D h =
    subst (λ (z : Float). T (le z (round f false b d))) (neg-round f a c)
    (plain-neg-le (round f false a c) (round f false b d) (plain-round f a c) (plain-round f b d))
round-le f false a c true b d C D h =
    let z = no_more a c b d C D h in
    subst (λ (k : ℕ). T (le (round f false k c) (round f true b d))) (sym z.0)
    (subst (λ (k : ℕ). T (le (round f false 0 c) (round f true k d))) (sym z.1)
    (value-le (round f false 0 c) (round f true 0 d) false 0 c true 0 d C D (round-zero f false c C) (round-zero f true d D) (omega arith)))

-- ---- z is (g - l) / c rounded
pub record Rounded (f : Format) (z : Float) (g l c : ℕ) : Type 0 where
  pub s : Bool
  pub k : ℕ
  pub is : z ≡ round f s k c
  pub val : gain s k + l ≡ loss s k + g

pub rounded-le : (f : Format) (z : Float) (g l c : ℕ) (z' : Float) (g' l' c' : ℕ) → 0 < c → 0 < c'
    → Rounded f z g l c → Rounded f z' g' l' c' → g * c' + l' * c ≤ g' * c + l * c' → T (le z z')
rounded-le f z g l c z' g' l' c' C C' r r' h =
    subst (λ (y : Float). T (le y z')) (sym r.is)
    (subst (λ (y : Float). T (le (round f r.s r.k c) y)) (sym r'.is)
    (round-le f r.s r.k c r'.s r'.k c' C C'
    (over (gain r.s r.k) (loss r.s r.k) (gain r'.s r'.k) (loss r'.s r'.k) r.val r'.val)))
  where
    over : (a e a' e' : ℕ) → a + l ≡ e + g → a' + l' ≡ e' + g' → a * c' + e' * c ≤ a' * c + e * c'
    over a e a' e' p q =
        let p1 : (a + l) * c' ≡ (e + g) * c' = ap (λ (x : ℕ). x * c') p in
        let q1 : (a' + l') * c ≡ (e' + g') * c = ap (λ (x : ℕ). x * c) q in
        omega arith

-- equal fractions, each rounded: equal numbers, or the same infinity
pub rounded-eq : (f : Format) (z : Float) (g l c : ℕ) (z' : Float) (g' l' c' : ℕ) → 0 < c → 0 < c'
    → Rounded f z g l c → Rounded f z' g' l' c' → g * c' + l' * c ≡ g' * c + l * c' → T (eq z z')
rounded-eq f z g l c z' g' l' c' C C' r r' h =
    le_antisym z z' (rounded-le f z g l c z' g' l' c' C C' r r' (le_of_eq h)) (rounded-le f z' g' l' c' z g l c C' C r' r (le_of_eq (sym h)))
