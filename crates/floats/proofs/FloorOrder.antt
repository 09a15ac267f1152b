-- The floor's size is the largest whole number that is not above x, in whatever format it is then held, and so the floor keeps the order. Assumes nothing.
use mathlib.Core.Path.{refl, subst}
use Prim.Native.Nat.{ℕ, ◌*◌, ◌/◌, ◌≤◌, ◌<◌}
use native.Mathlib.Nat.{zero-lt-suc, mul-one, le_of_mul-le-mul_right, div-mul-le_self, le-div_iff_mul-le}
use native.Mathlib.Omega.{arith}
use mathlib.Core.Bool.{Bool, true, false}
use lib.IntN.{ℤ}
use lib.Dec.{T}
use lib.Ieee.{Float, fin, Format, up, down, le}
use lib.Ieee.Fits.{down_pos}
use lib.Ieee.Exact.{HasValue}
use lib.Ieee.Scale.{finite}
use Rattle.floats.specs.Whole.{ceiling, floor_of}
use Rattle.floats.specs.Standard.{whole, gain, loss}
use Rattle.floats.proofs.Fractions.{ceiling-ge, ceiling-le}
use Rattle.floats.proofs.Signed.{Below, le→Le, Le-trans, value-le}
use Rattle.floats.proofs.WholeSizes.{floor_size, floor-rounds, rounds-mono}

-- ---- the floor's size among the whole numbers ±k
floor-below : (s : Bool) (a c : ℕ) → 0 < c → Below s (floor_size s a c) 1 s a c
floor-below false a c C =
    let l : a / c * c ≤ a = div-mul-le_self a c in
    omega arith
floor-below true a c C =
    let l : a ≤ ceiling a c * c = ceiling-ge a c C in
    omega arith

pub floor-largest : (t : Bool) (k : ℕ) (s : Bool) (a c : ℕ) → 0 < c → Below t k 1 s a c → Below t k 1 s (floor_size s a c) 1
floor-largest false k false a c C h =
    let l : k ≤ a / c = (le-div_iff_mul-le C).1 (omega arith) in
    omega arith
floor-largest true k true a c C h =
    let l : ceiling a c ≤ k = ceiling-le a c k C (omega arith) in
    omega arith
floor-largest true k false a c C h = omega arith
floor-largest false k true a c C h =
    let l : ceiling a c ≤ 0 = ceiling-le a c 0 C (omega arith) in
    let z : k ≤ 0 = le_of_mul-le-mul_right {m = k} {n = 0} {k = c} (omega arith) C in
    omega arith

-- ---- the same of floats
pub whole-value : (t : Bool) (k : ℕ) → HasValue (whole t k) t k 1
whole-value t k = (refl, mul-one (k * 1))

pub whole_le : (t : Bool) (k : ℕ) (s : Bool) (m : ℕ) (e : ℤ) → T (le (whole t k) (fin s m e)) → Below t k 1 s (m * up e) (down e)
whole_le t k s m e h = subst (λ (n : ℕ). Below t n 1 s (m * up e) (down e)) (mul-one k) (le→Le (whole t k) (fin s m e) tt tt h)

pub floor-under : (s : Bool) (m : ℕ) (e : ℤ) → T (le (whole s (floor_size s (m * up e) (down e))) (fin s m e))
floor-under s m e =
    let n = floor_size s (m * up e) (down e) in
    value-le (whole s n) (fin s m e) s n 1 s (m * up e) (down e) (zero-lt-suc 0) (down_pos e) (whole-value s n) (refl, refl)
    (floor-below s (m * up e) (down e) (down_pos e))

-- ---- and so it keeps the order
floor-mono : (s : Bool) (a c : ℕ) (t : Bool) (b d : ℕ) → 0 < c → 0 < d → Below s a c t b d → Below s (floor_size s a c) 1 t (floor_size t b d) 1
floor-mono s a c t b d C D h =
    floor-largest s (floor_size s a c) t b d D
    (Le-trans (gain s (floor_size s a c)) (loss s (floor_size s a c)) 1 (gain s a) (loss s a) c (gain t b) (loss t b) d C (floor-below s a c C) h)

pub floor-mono-whole : (f : Format) (x x' : Float) → T (finite x) → T (finite x') → T (le x x') → T (le (floor_of f x) (floor_of f x'))
floor-mono-whole f = rounds-mono f floor_size (floor_of f) (floor-rounds f) floor-mono
