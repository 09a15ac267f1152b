-- An exact result is not changed: where the exact sum, difference, product or quotient of two finite values is a value of the format, the operation gives it.
-- Such a value is its own rounding, and equal fractions round to equal numbers. An `eq` counts the two zeros as one. Assumes nothing.
use mathlib.Core.Path.{◌≡◌, refl, sym, ap, ap₂, ◌∙◌}
use Prim.Native.Nat.{ℕ, zero, suc, ◌+◌, ◌-◌, ◌*◌, ◌<◌}
use native.Mathlib.Nat.{zero-lt-suc, add-zero, sub-zero, one-mul, mul-one, zero-mul, mul-zero, mul-pos}
use native.Mathlib.Omega.{arith}
use mathlib.Core.Bool.{Bool, true, false, not, ◌||◌, cond}
use lib.IntN.{ℤ, pos}
use lib.Dec.{T, ltb, ltb→lt, lt→ltb}
use lib.Ieee.{Float, nan, inf, fin, Format, unlike, up, down, round, neg, sum, add, sub, mul, div, eq, fits}
use lib.Ieee.Fits.{up_pos, down_pos}
use lib.Ieee.Bits.{is_true}
use lib.Ieee.Scale.{finite}
use lib.Ieee.Positive.{num, den, den_pos}
use Rattle.floats.specs.Standard.{gain, loss, sign}
use Rattle.floats.proofs.Signs.{same_sign}
use Rattle.floats.proofs.SameValue.{none_is, own-round, round-none}
use Rattle.floats.proofs.Signed.{G, L, Rounded, rounded-eq}
use Rattle.floats.proofs.Operations.{add-rounded, sub-rounded, product-rounded, div_is, Nonzero, Gʳ, Lʳ, quotient-rounded, own-rounded}

-- ---- the law: w is (g - l) / c
abbrev pub Is : Float → ℕ → ℕ → ℕ → Type 0
Is w g l c = G w * c + l * den w ≡ g * den w + L w * c

pub rounded-exact : (f : Format) (z w : Float) (g l c : ℕ) → 0 < c → Rounded f z g l c → T (fits f w) → T (finite w) → Is w g l c → T (eq z w)
rounded-exact f z w g l c C r p q h = rounded-eq f z g l c w (G w) (L w) (den w) C (den_pos w) r (own-rounded f w p q) (sym h)

-- ---- sums and differences
abbrev pub IsSum : Float → Float → Float → Type 0
IsSum x y w = Is w (G x * den y + G y * den x) (L x * den y + L y * den x) (den x * den y)

abbrev pub IsDifference : Float → Float → Float → Type 0
IsDifference x y w = Is w (G x * den y + L y * den x) (L x * den y + G y * den x) (den x * den y)

pub add-exact : (f : Format) (x y w : Float) → T (finite x) → T (finite y) → T (fits f w) → T (finite w) → IsSum x y w → T (eq (add f x y) w)
add-exact f x y w p q F r h =
    rounded-exact f (add f x y) w (G x * den y + G y * den x) (L x * den y + L y * den x) (den x * den y) (mul-pos (den_pos x) (den_pos y))
    (add-rounded f x y p q) F r h

pub sub-exact : (f : Format) (x y w : Float) → T (finite x) → T (finite y) → T (fits f w) → T (finite w) → IsDifference x y w
    → T (eq (sub f x y) w)
sub-exact f x y w p q F r h =
    rounded-exact f (sub f x y) w (G x * den y + L y * den x) (L x * den y + G y * den x) (den x * den y) (mul-pos (den_pos x) (den_pos y))
    (sub-rounded f x y p q) F r h

-- ---- products and quotients
abbrev pub IsProduct : Float → Float → Float → Type 0
IsProduct x y w = Is w (G x * G y + L x * L y) (G x * L y + L x * G y) (den x * den y)

pub mul-exact : (f : Format) (x y w : Float) → T (finite x) → T (finite y) → T (fits f w) → T (finite w) → IsProduct x y w → T (eq (mul f x y) w)
mul-exact f x y w p q F r h =
    rounded-exact f (mul f x y) w (G x * G y + L x * L y) (G x * L y + L x * G y) (den x * den y) (mul-pos (den_pos x) (den_pos y))
    (product-rounded f x y p q) F r h

-- w is x / y where w times y is x
divided : (gx lx dx gw lw dw : ℕ) (t : Bool) (N D : ℕ)
    → gx * (dw * D) + (gw * loss t N + lw * gain t N) * dx ≡ (gw * gain t N + lw * loss t N) * dx + lx * (dw * D)
    → gw * (dx * N) + (gx * loss t D + lx * gain t D) * dw ≡ (gx * gain t D + lx * loss t D) * dw + lw * (dx * N)
divided gx lx dx gw lw dw false N D h = omega arith
divided gx lx dx gw lw dw true N D h = omega arith

nonzero-num : (y : Float) → Nonzero y → 0 < num y
nonzero-num nan h = absurd h
nonzero-num (inf s) h = absurd h
nonzero-num (fin s m e) h = mul-pos h (up_pos e)

pub div-exact : (f : Format) (x y w : Float) → T (finite x) → Nonzero y → T (fits f w) → T (finite w) → IsProduct w y x → T (eq (div f x y) w)
div-exact f x y w p q F r h =
    rounded-exact f (div f x y) w (G x * Gʳ y + L x * Lʳ y) (G x * Lʳ y + L x * Gʳ y) (den x * num y) (mul-pos (den_pos x) (nonzero-num y q))
    (quotient-rounded f x y p q) F r
    (divided (G x) (L x) (den x) (G w) (L w) (den w) (sign y) (num y) (den y) h)

-- ---- by one, and with zero: the same data, NaN, infinities and signs of zeros included
by_one : (f : Format) (s : Bool) (m : ℕ) (e : ℤ) (a c : ℕ) → T (fits f (fin s m e)) → a ≡ m * up e → c ≡ down e
    → round f (unlike s false) a c ≡ fin s m e
by_one f s m e a c F p q = ap (λ (b : Bool). round f b a c) (same_sign s) ∙ ap₂ (λ (x y : ℕ). round f s x y) p q ∙ own-round f s m e F

pub times-one : (f : Format) (x : Float) → T (fits f x) → mul f x (fin false 1 (pos 0)) ≡ x
unfolding mul
times-one f nan F = refl
times-one f (inf s) F = ap inf (same_sign s)
times-one f (fin s m e) F = by_one f s m e (m * up e * 1) (down e * 1) F (mul-one (m * up e)) (mul-one (down e))

pub over-one : (f : Format) (x : Float) → T (fits f x) → div f x (fin false 1 (pos 0)) ≡ x
unfolding div
over-one f nan F = refl
over-one f (inf s) F = ap inf (same_sign s)
over-one f (fin s m e) F = by_one f s m e (m * up e * 1) (1 * down e) F (mul-one (m * up e)) (one-mul (down e))

-- a zero t changes nothing but the sign of -0, where t is +0
sum-zero : (f : Format) (s : Bool) (a : ℕ) (t : Bool) (c : ℕ) → T (not s || (t || ltb 0 a)) → sum f s a t 0 c ≡ round f s a c
unfolding sum
sum-zero f false a false c h = ap (λ (x : ℕ). round f false x c) (add-zero a)
sum-zero f true a true c h = ap (λ (x : ℕ). round f true x c) (add-zero a)
sum-zero f false a true c h = go (ltb a 0) (ltb→lt a 0)
  where
    go : (b : Bool) → (T b → a < 0) → cond b (round f true (0 - a) c) (round f false (a - 0) c) ≡ round f false a c
    go true k = absurd (omega (arith, k tt))
    go false k = ap (λ (x : ℕ). round f false x c) (sub-zero a)
sum-zero f true a false c h = go (ltb a 0) (ltb→lt a 0)
  where
    go : (b : Bool) → (T b → a < 0) → cond b (round f false (0 - a) c) (round f (ltb 0 a) (a - 0) c) ≡ round f true a c
    go true k = absurd (omega (arith, k tt))
    go false k = ap₂ (λ (b : Bool) (x : ℕ). round f b x c) (is_true (ltb 0 a) h) (sub-zero a)

with-zero : (f : Format) (s : Bool) (m : ℕ) (e : ℤ) (t : Bool) → T (fits f (fin s m e)) → T (not s || (t || ltb 0 (m * up e)))
    → add f (fin s m e) (fin t 0 (pos 0)) ≡ fin s m e
unfolding add
with-zero f s m e t F h =
    ap₂ (λ (a b : ℕ). sum f s a t b (down e * 1)) (mul-one (m * up e)) (zero-mul (down e))
    ∙ ap (λ (c : ℕ). sum f s (m * up e) t 0 c) (mul-one (down e)) ∙ sum-zero f s (m * up e) t (down e) h ∙ own-round f s m e F

pub plus-zero : (f : Format) (x : Float) → T (fits f x) → (x ≡ fin true 0 (pos 0) → ⊥) → add f x (fin false 0 (pos 0)) ≡ x
plus-zero f nan F h = unfold add in refl
plus-zero f (inf s) F h = unfold add in refl
plus-zero f (fin false m e) F h = with-zero f false m e false F tt
plus-zero f (fin true zero e) F h = absurd (h (none_is f true e F))
plus-zero f (fin true (suc m) e) F h = with-zero f true (suc m) e false F (lt→ltb 0 (suc m * up e) (mul-pos (zero-lt-suc m) (up_pos e)))

pub minus-zero : (f : Format) (x : Float) → T (fits f x) → sub f x (fin false 0 (pos 0)) ≡ x
unfolding sub neg
minus-zero f nan F = unfold add in refl
minus-zero f (inf s) F = unfold add in refl
minus-zero f (fin s m e) F = with-zero f s m e true F (either s)
  where
    either : (b : Bool) → T (not b || true)
    either true = tt
    either false = tt

-- ---- of zeros: a quotient and a product are zeros with their sign, and +0 less a zero is +0
pub over_none : (f : Format) (s t : Bool) (n : ℕ) (d : ℤ) → 0 < n → div f (fin s 0 (pos 0)) (fin t n d) ≡ fin (unlike s t) 0 (pos 0)
over_none f s t n d h =
    div_is f s 0 (pos 0) t n d h ∙ ap (λ (a : ℕ). round f (unlike s t) a (n * up d * 1)) (zero-mul (down d))
    ∙ round-none f (unlike s t) (n * up d * 1) (mul-pos (mul-pos h (up_pos d)) (zero-lt-suc 0))

pub times_none : (f : Format) (s : Bool) (m : ℕ) (e : ℤ) (t : Bool) → mul f (fin s m e) (fin t 0 (pos 0)) ≡ fin (unlike s t) 0 (pos 0)
unfolding mul
times_none f s m e t =
    ap (λ (a : ℕ). round f (unlike s t) a (down e * 1)) (mul-zero (m * up e)) ∙ round-none f (unlike s t) (down e * 1) (mul-pos (down_pos e) (zero-lt-suc 0))

pub less_none : (f : Format) (t : Bool) → sub f (fin false 0 (pos 0)) (fin t 0 (pos 0)) ≡ fin false 0 (pos 0)
unfolding sub add sum neg
less_none f true = round-none f false 1 (zero-lt-suc 0)
less_none f false = round-none f false 1 (zero-lt-suc 0)

-- ---- x - x is 0 exactly where x is finite
pub finite-test : (f : Format) (x : Float) → eq (sub f x x) (fin false 0 (pos 0)) ≡ finite x
finite-test f nan = unfold sub eq in refl
finite-test f (inf true) = unfold sub eq in refl
finite-test f (inf false) = unfold sub eq in refl
finite-test f (fin s m e) =
    let x = fin s m e in
    let zero = fin false 0 (pos 0) in
    is_true (eq (sub f x x) zero) (sub-exact f x x zero tt tt (unfold fits in tt) tt (nothing (G x) (L x) (down e)))
  where
    nothing : (g l d : ℕ) → 0 * (d * d) + (l * d + g * d) * 1 ≡ (g * d + l * d) * 1 + 0 * (d * d)
    nothing g l d = omega arith
