-- A format writes a number in one way: two of its values with one sign and one size are the same data (`same-value`), so a value is its own rounding
-- (`own-round`). For the bit pattern turns on the sign and the size alone, and a value comes back from its pattern. Assumes nothing.
use mathlib.Core.Path.{◌≡◌, refl, sym, ap, ◌∙◌}
use Prim.Native.Nat.{ℕ, ◌+◌, ◌-◌, ◌*◌, ◌/◌, ◌^◌, ◌<◌}
use native.Mathlib.Nat.{zero-mul, mul_right_comm, eq_of_mul-eq-mul_right, mul-div_cancel}
use native.Mathlib.Omega.{arith}
use mathlib.Core.Bool.{Bool, cond}
use lib.IntN.{ℤ, pos}
use lib.Dec.{T, lit<}
use lib.Ieee.{Float, nan, inf, fin, Format, prec, low, hid, top, up, down, size, round, fits, of_bits, to_bits}
use lib.Ieee.Fits.{down_pos, round-fits}
use lib.Ieee.Bits.{of_bits-to_bits}
use lib.Ieee.Exact.{HasValue, round_exact}
use lib.Ieee.Scale.{finite, round_same}
use lib.Ieee.Positive.{num, den, den_pos}
use Rattle.floats.specs.Standard.{sign}
use Rattle.floats.proofs.Signs.{value-finite, value-parts}
use Rattle.floats.proofs.Held.{fits-digits, fits-grid, fits_under, InUnits, on-grid}

-- ---- the pattern of G units
abbrev pub pattern : Format → Bool → ℕ → ℕ
pattern f s G = cond s (top f) 0 + (size G - prec f) * hid f + G / 2 ^ (size G - prec f)

pub bits_at : (f : Format) (z : Float) (G : ℕ) → T (finite z) → InUnits f z G → to_bits f z ≡ pattern f (sign z) G
unfolding to_bits
bits_at f nan G t g = absurd t
bits_at f (inf s) G t g = absurd t
bits_at f (fin s m e) G t g = ap (pattern f s) (ap (λ (n : ℕ). n / down e) g ∙ mul-div_cancel G (down_pos e))

-- ---- one way to write a number
pub same_units : (f : Format) (y z : Float) (G : ℕ) → T (fits f y) → T (fits f z) → T (finite y) → T (finite z)
    → sign y ≡ sign z → InUnits f y G → InUnits f z G → y ≡ z
same_units f y z G p q a b s g h =
    sym (of_bits-to_bits f y p)
    ∙ ap (of_bits f) (bits_at f y G a g ∙ ap (λ (t : Bool). pattern f t G) s ∙ sym (bits_at f z G b h))
    ∙ of_bits-to_bits f z q

pub same-value : (f : Format) (x y : Float) → T (fits f x) → T (fits f y) → T (finite x) → T (finite y)
    → sign x ≡ sign y → num x * den y ≡ num y * den x → x ≡ y
same-value f x y p q a b h k =
    let g = on-grid f x p a in
    let G = g.0 * 2 ^ g.1 in
    let L = 2 ^ low f in
    let moved : num y * L * den x ≡ G * den y * den x =
    mul_right_comm (num y) L (den x) ∙ ap (λ (n : ℕ). n * L) (sym k) ∙ mul_right_comm (num x) (den y) L ∙ ap (λ (n : ℕ). n * den y) g.3
    ∙ mul_right_comm G (den x) (den y) in
    same_units f x y G p q a b h g.3 (eq_of_mul-eq-mul_right (den x) (den_pos x) (num y * L) (G * den y) moved)

-- a zero has no exponent
pub none_is : (f : Format) (s : Bool) (e : ℤ) → T (fits f (fin s 0 e)) → fin s 0 e ≡ fin s 0 (pos 0)
none_is f s e h = same-value f (fin s 0 e) (fin s 0 (pos 0)) h (unfold fits in tt) tt tt refl (nothing (up e) (down e))
  where
    nothing : (u c : ℕ) → 0 * u * 1 ≡ 0 * 1 * c
    nothing u c = omega arith

-- ---- a value of the format is its own rounding
own_value : (f : Format) (s : Bool) (m : ℕ) (e : ℤ) → T (fits f (fin s m e)) → HasValue (round f s (m * up e) (down e)) s (m * up e) (down e)
own_value f s m e h =
    let g = fits-grid f s m e h in
    round_exact f s (m * up e) (down e) m g.0 (down_pos e) (fits-digits f s m e h) (fits_under f s m e h) g.1

pub own-round : (f : Format) (s : Bool) (m : ℕ) (e : ℤ) → T (fits f (fin s m e)) → round f s (m * up e) (down e) ≡ fin s m e
own-round f s m e h =
    let z = round f s (m * up e) (down e) in
    let v = own_value f s m e h in
    let p = value-parts z s (m * up e) (down e) v in
    same-value f z (fin s m e) (round-fits f s (m * up e) (down e)) h (value-finite z s (m * up e) (down e) v) tt p.0 p.1

-- and nothing is rounded to a zero
pub round-none : (f : Format) (s : Bool) (c : ℕ) → 0 < c → round f s 0 c ≡ fin s 0 (pos 0)
round-none f s c C = round_same f s 0 c 0 1 C (lit< tt) (zero-mul 1 ∙ sym (zero-mul c)) ∙ own-round f s 0 (pos 0) (unfold fits in tt)
