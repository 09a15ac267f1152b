-- Each operation on finite values of either sign keeps the order: sums and differences, a product with a value that is not negative, a quotient by a
-- value above zero, rounding to a whole number, and squares. And adding what is not negative never goes below a summand that is a value of the
-- format. Assumes nothing.
pub use Rattle.floats.proofs.FloorOrder.{floor-mono-whole}
use mathlib.Core.Path.{◌≡◌, sym, ap, ◌∙◌, subst}
use Prim.Native.Nat.{ℕ, ◌+◌, ◌*◌, ◌≤◌, ◌<◌}
use native.Mathlib.Nat.{le_trans, le_of_eq, add-le-add, mul-pos, mul-le-mul_right, mul-mul-mul_comm}
use native.Mathlib.Omega.{arith}
use mathlib.Core.Bool.{Bool, true, false, ◌||◌, beq}
use lib.Dec.{T, eqb, eqb→eq, ltb→lt}
use lib.Ieee.{Float, nan, inf, fin, Format, up, down, level, unlike, round, neg, sum, add, sub, mul, div, le, eq, fits}
use lib.Ieee.Fits.{up_pos, down_pos, and_l}
use lib.Ieee.Scale.{finite}
use lib.Ieee.Positive.{den, den_pos, positive, above, above_of_le, mul_mono}
use Rattle.floats.specs.Whole.{half_up, round_of}
use Rattle.floats.proofs.Fractions.{half-mono, half-none}
use Rattle.floats.proofs.Signs.{plain, plain-round, neg-finite}
use Rattle.floats.proofs.Signed.{G, L, Below, le→Le, neg-le, no_more, round-le, Rounded, rounded-le}
use Rattle.floats.proofs.Operations.{add-rounded, sub-rounded, product-rounded, quotient-rounded, own-rounded}
use Rattle.floats.proofs.Negation.{square-neg}
use Rattle.floats.proofs.WholeSizes.{round_size, round-rounds, rounds-mono}

-- ---- sums and differences: the two orders, each times the other's denominators
both : (g l d g' l' d' h k e h' k' e' : ℕ) → g * d' + l' * d ≤ g' * d + l * d' → h * e' + k' * e ≤ h' * e + k * e'
    → (g * e + h * d) * (d' * e') + (l' * e' + k' * d') * (d * e) ≤ (g' * e' + h' * d') * (d * e) + (l * e + k * d) * (d' * e')
both g l d g' l' d' h k e h' k' e' p q =
    le_trans (le_of_eq (paired (g * e) (h * d) (l' * e') (k' * d') (d' * e') (d * e)))
    (le_trans (add-le-add (first (mul-le-mul_right e' (mul-le-mul_right e p))) (second (mul-le-mul_right d' (mul-le-mul_right d q))))
    (le_of_eq (sym (paired (g' * e') (h' * d') (l * e) (k * d) (d * e) (d' * e')))))
  where
    paired : (a b c d m n : ℕ) → (a + b) * m + (c + d) * n ≡ (a * m + c * n) + (b * m + d * n)
    paired a b c d m n = omega arith

    first : (g * d' + l' * d) * e * e' ≤ (g' * d + l * d') * e * e'
        → g * e * (d' * e') + l' * e' * (d * e) ≤ g' * e' * (d * e) + l * e * (d' * e')
    first r = omega arith

    second : (h * e' + k' * e) * d * d' ≤ (h' * e + k * e') * d * d'
        → h * d * (d' * e') + k' * d' * (d * e) ≤ h' * d' * (d * e) + k * d * (d' * e')
    second r = omega arith

pub add-mono : (f : Format) (x x' y y' : Float) → T (finite x) → T (finite x') → T (finite y) → T (finite y')
    → T (le x x') → T (le y y') → T (le (add f x y) (add f x' y'))
add-mono f x x' y y' p p' q q' h k =
    rounded-le f (add f x y) (G x * den y + G y * den x) (L x * den y + L y * den x) (den x * den y)
    (add f x' y') (G x' * den y' + G y' * den x') (L x' * den y' + L y' * den x') (den x' * den y')
    (mul-pos (den_pos x) (den_pos y)) (mul-pos (den_pos x') (den_pos y')) (add-rounded f x y p q) (add-rounded f x' y' p' q')
    (both (G x) (L x) (den x) (G x') (L x') (den x') (G y) (L y) (den y) (G y') (L y') (den y') (le→Le x x' p p' h) (le→Le y y' q q' k))

pub sub-mono : (f : Format) (x x' y y' : Float) → T (finite x) → T (finite x') → T (finite y) → T (finite y')
    → T (le x x') → T (le y' y) → T (le (sub f x y) (sub f x' y'))
sub-mono f x x' y y' p p' q q' h k =
    rounded-le f (sub f x y) (G x * den y + L y * den x) (L x * den y + G y * den x) (den x * den y)
    (sub f x' y') (G x' * den y' + L y' * den x') (L x' * den y' + G y' * den x') (den x' * den y')
    (mul-pos (den_pos x) (den_pos y)) (mul-pos (den_pos x') (den_pos y')) (sub-rounded f x y p q) (sub-rounded f x' y' p' q')
    (both (G x) (L x) (den x) (G x') (L x') (den x') (L y) (G y) (den y) (L y') (G y') (den y') (le→Le x x' p p' h)
    (turned (G y' * den y) (L y * den y') (G y * den y') (L y' * den y) (le→Le y' y q' q k)))
  where
    turned : (a b c d : ℕ) → a + b ≤ c + d → b + a ≤ d + c
    turned a b c d r = omega arith

-- ---- products and quotients with a value that is not negative: the order, times u / w
pub mul-mono-left : (f : Format) (e x x' : Float) → T (finite e) → T (plain e) → T (finite x) → T (finite x') → T (le x x')
    → T (le (mul f e x) (mul f e x'))
mul-mono-left f nan x x' F P p p' h = absurd F
mul-mono-left f (inf s) x x' F P p p' h = absurd F
mul-mono-left f (fin true n d) x x' F P p p' h = absurd P
mul-mono-left f (fin false n d) x x' F P p p' h =
    let e = fin false n d in
    rounded-le f (mul f e x) (G e * G x + 0 * L x) (G e * L x + 0 * G x) (den e * den x) (mul f e x') (G e * G x' + 0 * L x') (G e * L x' + 0 * G x')
    (den e * den x')
    (mul-pos (down_pos d) (den_pos x)) (mul-pos (down_pos d) (den_pos x')) (product-rounded f e x F p) (product-rounded f e x' F p')
    (scale (G x) (L x) (den x) (G x') (L x') (den x') (n * up d) (down d) (le→Le x x' p p' h))
  where
    scale : (g l d g' l' d' u w : ℕ) → g * d' + l' * d ≤ g' * d + l * d'
        → (u * g + 0 * l) * (w * d') + (u * l' + 0 * g') * (w * d) ≤ (u * g' + 0 * l') * (w * d) + (u * l + 0 * g) * (w * d')
    scale g l d g' l' d' u w r = let s : (g * d' + l' * d) * u * w ≤ (g' * d + l * d') * u * w = mul-le-mul_right w (mul-le-mul_right u r) in omega arith

pub div-mono-left : (f : Format) (x x' y : Float) → T (positive y) → T (finite x) → T (finite x') → T (le x x') → T (le (div f x y) (div f x' y))
div-mono-left f x x' nan P p p' h = absurd P
div-mono-left f x x' (inf s) P p p' h = absurd P
div-mono-left f x x' (fin true n d) P p p' h = absurd P
div-mono-left f x x' (fin false n d) P p p' h =
    let y = fin false n d in
    let N : 0 < n = ltb→lt 0 n P in
    let Y : 0 < n * up d = mul-pos N (up_pos d) in
    rounded-le f (div f x y) (G x * down d + L x * 0) (G x * 0 + L x * down d) (den x * (n * up d)) (div f x' y) (G x' * down d + L x' * 0)
    (G x' * 0 + L x' * down d) (den x' * (n * up d))
    (mul-pos (den_pos x) Y) (mul-pos (den_pos x') Y) (quotient-rounded f x y p N) (quotient-rounded f x' y p' N)
    (scale (G x) (L x) (den x) (G x') (L x') (den x') (down d) (n * up d) (le→Le x x' p p' h))
  where
    scale : (g l d g' l' d' u w : ℕ) → g * d' + l' * d ≤ g' * d + l * d'
        → (g * u + l * 0) * (d' * w) + (g' * 0 + l' * u) * (d * w) ≤ (g' * u + l' * 0) * (d * w) + (g * 0 + l * u) * (d' * w)
    scale g l d g' l' d' u w r = let s : (g * d' + l' * d) * u * w ≤ (g' * d + l * d') * u * w = mul-le-mul_right w (mul-le-mul_right u r) in omega arith

-- ---- to the nearest whole number, a half away from zero
half-below : (s : Bool) (a c : ℕ) (t : Bool) (b d : ℕ) → 0 < c → 0 < d → Below s a c t b d → Below s (half_up a c) 1 t (half_up b d) 1
half-below false a c false b d C D h = let l : half_up a c ≤ half_up b d = half-mono a c b d C D (omega arith) in omega arith
half-below true a c true b d C D h = let l : half_up b d ≤ half_up a c = half-mono b d a c D C (omega arith) in omega arith
half-below true a c false b d C D h = omega arith
half-below false a c true b d C D h =
    let z = no_more a c b d C D h in
    let A : half_up a c ≡ 0 = half-none a c (omega arith) in
    let B : half_up b d ≡ 0 = half-none b d (omega arith) in
    omega arith

pub round-mono-whole : (f : Format) (x x' : Float) → T (finite x) → T (finite x') → T (le x x') → T (le (round_of f x) (round_of f x'))
round-mono-whole f = rounds-mono f round_size (round_of f) (round-rounds f) half-below

-- ---- adding what is not negative
-- A value of the format is at most what a larger fraction rounds to.
pub own-le : (f : Format) (x w : Float) (g l c : ℕ) → T (fits f x) → T (finite x) → 0 < c → Rounded f w g l c
    → G x * c + l * den x ≤ g * den x + L x * c → T (le x w)
own-le f x w g l c F p C r h = rounded-le f x (G x) (L x) (den x) w g l c (den_pos x) C (own-rounded f x F p) r h

pub add-ge-first : (f : Format) (x y : Float) → T (fits f x) → T (finite x) → T (finite y) → T (plain y) → T (finite (add f x y))
    → T (le x (add f x y))
add-ge-first f x nan F p q P r = absurd q
add-ge-first f x (inf s) F p q P r = absurd q
add-ge-first f x (fin true n d) F p q P r = absurd P
add-ge-first f x (fin false n d) F p q P r =
    let y = fin false n d in
    own-le f x (add f x y) (G x * den y + G y * den x) (L x * den y + L y * den x) (den x * den y) F p (mul-pos (den_pos x) (den_pos y))
    (add-rounded f x y p q)
    (more (G x) (L x) (den x) (n * up d) (down d))
  where
    more : (gx lx dx gy dy : ℕ) → gx * (dx * dy) + (lx * dy + 0 * dx) * dx ≤ (gx * dy + gy * dx) * dx + lx * (dx * dy)
    more gx lx dx gy dy = omega arith

pub add-ge-second : (f : Format) (x y : Float) → T (fits f y) → T (finite x) → T (finite y) → T (plain x) → T (finite (add f x y))
    → T (le y (add f x y))
add-ge-second f nan y F p q P r = absurd p
add-ge-second f (inf s) y F p q P r = absurd p
add-ge-second f (fin true m e) y F p q P r = absurd P
add-ge-second f (fin false m e) y F p q P r =
    let x = fin false m e in
    own-le f y (add f x y) (G x * den y + G y * den x) (L x * den y + L y * den x) (den x * den y) F q (mul-pos (den_pos x) (den_pos y))
    (add-rounded f x y p q)
    (more (G y) (L y) (den y) (m * up e) (down e))
  where
    more : (gy ly dy gx dx : ℕ) → gy * (dx * dy) + (0 * dy + ly * dx) * dy ≤ (gx * dy + gy * dx) * dy + ly * (dx * dy)
    more gy ly dy gx dx = omega arith

pub add-plain : (f : Format) (x y : Float) → T (finite x) → T (finite y) → T (plain x) → T (plain y) → T (plain (add f x y))
unfolding add sum
add-plain f nan y p q a b = absurd p
add-plain f (inf s) y p q a b = absurd p
add-plain f (fin s m e) nan p q a b = absurd q
add-plain f (fin s m e) (inf t) p q a b = absurd q
add-plain f (fin true m e) (fin t n d) p q a b = absurd a
add-plain f (fin false m e) (fin true n d) p q a b = absurd b
add-plain f (fin false m e) (fin false n d) p q a b = plain-round f (m * up e * down d + n * up d * down e) (down e * down d)

-- ---- a square: larger where the value is farther from zero, on either side
abbrev pub square : Format → Float → Float
square f x = mul f x x

pub square-plain : (f : Format) (x : Float) → T (finite x) → T (plain (mul f x x))
unfolding mul
square-plain f nan p = absurd p
square-plain f (inf s) p = absurd p
square-plain f (fin true m e) p = plain-round f (m * up e * (m * up e)) (down e * down e)
square-plain f (fin false m e) p = plain-round f (m * up e * (m * up e)) (down e * down e)

above-finite : (x : Float) → T (finite x) → T (above x) → T (positive x)
above-finite nan p a = absurd p
above-finite (inf s) p a = absurd p
above-finite (fin true m e) p a = absurd a
above-finite (fin false m e) p a = a

pub square-right : (f : Format) (a x : Float) → T (positive a) → T (finite x) → T (le a x) → T (le (mul f a a) (mul f x x))
square-right f a x P p h =
    let X : T (positive x) = above-finite x p (above_of_le a x P h) in
    mul_mono f a x a x P X P X h h

pub square-left : (f : Format) (b x : Float) → T (positive (neg b)) → T (finite x) → T (le x b) → T (le (mul f b b) (mul f x x))
square-left f b x P p h =
    subst (λ (z : Float). T (le z (mul f x x))) (square-neg f b)
    (subst (λ (z : Float). T (le (mul f (neg b) (neg b)) z)) (square-neg f x)
    (square-right f (neg b) (neg x) P (neg-finite x p) (neg-le x b h)))

-- equal numbers have equal squares
pub eq-square : (f : Format) (a b : Float) → T (finite a) → T (finite b) → T (eq a b) → T (le (mul f a a) (mul f b b))
unfolding eq mul
eq-square f nan b p q h = absurd p
eq-square f (inf s) b p q h = absurd p
eq-square f (fin s m e) nan p q h = absurd q
eq-square f (fin s m e) (inf t) p q h = absurd q
eq-square f (fin s m e) (fin t n d) p q h = go s t (sizes s (m * up e * down d) t (n * up d * down e) h)
  where
    sizes : (s : Bool) (a : ℕ) (t : Bool) (b : ℕ) → T (level s a t b) → a ≡ b
    sizes s a t b k = eqb→eq a b (and_l (eqb a b) (beq s t || eqb a 0) k)

    squares : (x c y d : ℕ) → x * d ≡ y * c → x * x * (d * d) ≡ y * y * (c * c)
    squares x c y d k = mul-mul-mul_comm x x d d ∙ (ap (λ (z : ℕ). z * z) k ∙ sym (mul-mul-mul_comm y y c c))

    plain-le : (x c y d : ℕ) → 0 < c → 0 < d → x * d ≡ y * c → T (le (round f false (x * x) (c * c)) (round f false (y * y) (d * d)))
    plain-le x c y d C D k = round-le f false (x * x) (c * c) false (y * y) (d * d) (mul-pos C C) (mul-pos D D) (below_of (x * x * (d * d)) (y * y * (c * c)) (c * c) (d * d) (squares x c y d k))
      where
        below_of : (a b g h : ℕ) → a ≡ b → a + 0 * g ≤ b + 0 * h
        below_of a b g h i = omega (arith, i)

    go : (s t : Bool) → m * up e * down d ≡ n * up d * down e → T (le (round f (unlike s s) (m * up e * (m * up e)) (down e * down e)) (round f (unlike t t) (n * up d * (n * up d)) (down d * down d)))
    go true true k = plain-le (m * up e) (down e) (n * up d) (down d) (down_pos e) (down_pos d) k
    go true false k = plain-le (m * up e) (down e) (n * up d) (down d) (down_pos e) (down_pos d) k
    go false true k = plain-le (m * up e) (down e) (n * up d) (down d) (down_pos e) (down_pos d) k
    go false false k = plain-le (m * up e) (down e) (n * up d) (down d) (down_pos e) (down_pos d) k
