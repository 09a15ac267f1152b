-- What it is for a format to hold a value: the digits are few, and in units of the format's smallest value the size is a whole number below the overflow.
-- Assumes nothing.
use mathlib.Core.Path.{◌≡◌, refl, sym, ap, ◌∙◌}
use Prim.Native.Nat.{ℕ, zero, suc, ◌+◌, ◌-◌, ◌*◌, ◌%◌, ◌^◌, ◌≤◌, ◌<◌}
use native.Mathlib.Nat.{le_trans, le_of_eq, le_of_suc-le-suc, lt_of_lt_of_le, lt_of_le_of_lt, lt-suc_self, mul-one, zero-mul, mul_comm, mul_right_comm, mul-le-mul_right, mul-lt-mul_of_pos_right, lt_of_mul-lt-mul_right}
use native.Mathlib.Omega.{arith}
use mathlib.Core.Bool.{Bool, ◌&&◌}
use lib.IntN.{ℤ, pos, negsuc}
use lib.Dec.{T, leb, ltb, eqb, leb→le, ltb→lt, lit≤}
use lib.Pow.{pow-add, pow_pos, pow-lt}
use lib.Ieee.{Float, nan, inf, fin, Format, binary32, binary64, prec, emax, low, hid, up, down, fits}
use lib.Ieee.Fits.{two, two-le_pos, and_l, and_r}
use lib.Ieee.Scale.{finite}
use lib.Ieee.Positive.{num, den}
use Rattle.floats.proofs.Powers.{pow-halved, pow-join, pow-shift, pow_lt_back}

-- ---- facts of the two formats
pub low-ge : (f : Format) → prec f + prec f ≤ low f
low-ge binary32 = lit≤ tt
low-ge binary64 = lit≤ tt

pub prec-le : (f : Format) → prec f ≤ emax f
prec-le binary32 = lit≤ tt
prec-le binary64 = lit≤ tt

pub emax-pos : (f : Format) → 1 ≤ emax f
emax-pos binary32 = lit≤ tt
emax-pos binary64 = lit≤ tt

pub hid-even : (f : Format) → hid f % 2 ≡ 0
hid-even binary32 = refl
hid-even binary64 = refl

pub hid-twice : (f : Format) → 2 ^ prec f ≡ 2 * hid f
hid-twice f = pow-halved (prec f) (two-le_pos (prec f) (two f))

pub low-halved : (f : Format) → 2 ^ low f ≡ 2 * 2 ^ (low f - 1)
low-halved f = pow-halved (low f) (lt_of_lt_of_le (two-le_pos (prec f) (two f)) (le_trans (more (prec f)) (low-ge f)))
  where
    more : (p : ℕ) → p ≤ p + p
    more p = omega arith

-- whole numbers up to 2 ^ prec are far below the overflow
pub no_overflow : (f : Format) (n : ℕ) → n ≤ 2 ^ prec f → n * 2 ^ low f < 2 ^ (low f + suc (emax f))
no_overflow f n h =
    lt_of_le_of_lt (le_trans (mul-le-mul_right (2 ^ low f) h) (le_of_eq (sym (pow-add 2 (prec f) (low f))))) (pow-lt (further (prec f) (low f) (emax f) (prec-le f)))
  where
    further : (p l e : ℕ) → p ≤ e → p + l < l + suc e
    further p l e k = omega arith

-- ---- the parts of `fits`
record Parts (f : Format) (m : ℕ) (e : ℤ) : Type 0 where
  short : m < 2 ^ prec f
  fine : down e ≤ 2 ^ low f
  under : m * up e < 2 ^ suc (emax f) * down e

parts : (f : Format) (s : Bool) (m : ℕ) (e : ℤ) → T (fits f (fin s (suc m) e)) → Parts f (suc m) e
unfolding fits
parts f s m e h =
    let a : Bool = eqb (suc m % 2) 1 in
    let b : Bool = ltb (suc m) (2 ^ prec f) in
    let c : Bool = leb (down e) (2 ^ low f) in
    let d : Bool = ltb (suc m * up e) (2 ^ suc (emax f) * down e) in
    record {
      short = ltb→lt (suc m) (2 ^ prec f) (and_r a b (and_l (a && b) c (and_l (a && b && c) d h)));
      fine = leb→le (down e) (2 ^ low f) (and_r (a && b) c (and_l (a && b && c) d h));
      under = ltb→lt (suc m * up e) (2 ^ suc (emax f) * down e) (and_r (a && b && c) d h);
    }

pub fits-digits : (f : Format) (s : Bool) (m : ℕ) (e : ℤ) → T (fits f (fin s m e)) → m < 2 ^ prec f
fits-digits f s zero e h = pow_pos (prec f)
fits-digits f s (suc m) e h = (parts f s m e h).short

-- ---- in units of 2 ^ -low the size is the digits times a power of two
abbrev pub Grid : Format → ℕ → ℤ → Type 0
Grid f m e = (j : ℕ) × (m * up e * 2 ^ low f ≡ m * 2 ^ j * down e)

grid : (f : Format) (m : ℕ) (e : ℤ) → down e ≤ 2 ^ low f → Grid f m e
grid f m (pos k) h = (k + low f, pow-join m k (low f) ∙ sym (mul-one (m * 2 ^ (k + low f))))
grid f m (negsuc k) h =
    let short : suc k ≤ low f = le_of_suc-le-suc (pow_lt_back (suc k) (suc (low f)) (lt_of_le_of_lt h (pow-lt (lt-suc_self (low f))))) in
    (low f - suc k, ap (λ (x : ℕ). x * 2 ^ low f) (mul-one m) ∙ sym (pow-shift m (low f) (suc k) short))

pub fits-grid : (f : Format) (s : Bool) (m : ℕ) (e : ℤ) → T (fits f (fin s m e)) → Grid f m e
fits-grid f s zero e h =
    (0, ap (λ (x : ℕ). x * 2 ^ low f) (zero-mul (up e)) ∙ zero-mul (2 ^ low f) ∙ sym (ap (λ (x : ℕ). x * down e) (zero-mul 1) ∙ zero-mul (down e)))
fits-grid f s (suc m) e h = grid f (suc m) e (parts f s m e h).fine

-- and below the overflow
pub fits_under : (f : Format) (s : Bool) (m : ℕ) (e : ℤ) (h : T (fits f (fin s m e)))
    → m * 2 ^ (fits-grid f s m e h).0 < 2 ^ (low f + suc (emax f))
fits_under f s zero e h = lt_of_le_of_lt (le_of_eq (zero-mul (2 ^ (fits-grid f s zero e h).0))) (pow_pos (low f + suc (emax f)))
fits_under f s (suc m) e h =
    let g = fits-grid f s (suc m) e h in
    let L = 2 ^ low f in
    let B = 2 ^ suc (emax f) in
    lt_of_mul-lt-mul_right (down e)
    (lt_of_le_of_lt (le_of_eq (sym g.1))
    (lt_of_lt_of_le (mul-lt-mul_of_pos_right (parts f s m e h).under (pow_pos (low f)))
    (le_of_eq (mul_right_comm B (down e) L ∙ ap (λ (x : ℕ). x * down e) (mul_comm B L ∙ sym (pow-add 2 (low f) (suc (emax f))))))))

-- the size of z is G units
abbrev pub InUnits : Format → Float → ℕ → Type 0
InUnits f z G = num z * 2 ^ low f ≡ G * den z

pub on-grid : (f : Format) (z : Float) → T (fits f z) → T (finite z) → (d : ℕ) × (j : ℕ) × (d < 2 ^ prec f) × InUnits f z (d * 2 ^ j)
on-grid f nan h t = absurd t
on-grid f (inf s) h t = absurd t
on-grid f (fin s m e) h t = let g = fits-grid f s m e h in (m, g.0, fits-digits f s m e h, g.1)
