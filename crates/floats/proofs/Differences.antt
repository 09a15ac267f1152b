-- A number with a sign is a difference, gain less loss (specs/Standard.antt): through products and minus signs, and how far two such numbers are apart.
-- Nothing here is about floats. Assumes nothing.
use mathlib.Core.Path.{◌≡◌, refl, sym, ap, ap₂, ◌∙◌}
use Prim.Native.Nat.{ℕ, ◌+◌, ◌-◌, ◌*◌}
use native.Mathlib.Nat.{zero-mul, mul_comm, mul_right_comm, add-mul, mul-sub}
use native.Mathlib.Omega.{arith}
use mathlib.Core.Bool.{Bool, true, false, not}
use lib.Ieee.{unlike}
use Rattle.floats.specs.Standard.{gain, loss, gap}

pub gain-mul : (s : Bool) (a d : ℕ) → gain s (a * d) ≡ gain s a * d
gain-mul false a d = refl
gain-mul true a d = sym (zero-mul d)

pub loss-mul : (s : Bool) (a d : ℕ) → loss s (a * d) ≡ loss s a * d
loss-mul false a d = sym (zero-mul d)
loss-mul true a d = refl

pub gain-not : (s : Bool) (a : ℕ) → gain (not s) a ≡ loss s a
gain-not false a = refl
gain-not true a = refl

pub loss-not : (s : Bool) (a : ℕ) → loss (not s) a ≡ gain s a
loss-not false a = refl
loss-not true a = refl

-- ±a * ±b is a * b with the sign of the product
pub product-val : (s : Bool) (a : ℕ) (t : Bool) (b : ℕ)
    → gain (unlike s t) (a * b) + (gain s a * loss t b + loss s a * gain t b) ≡ loss (unlike s t) (a * b) + (gain s a * gain t b + loss s a * loss t b)
product-val false a false b = omega arith
product-val false a true b = omega arith
product-val true a false b = omega arith
product-val true a true b = omega arith

-- ---- how far ±a is from ±b
abbrev pub apart : Bool → ℕ → Bool → ℕ → ℕ
apart false a false b = gap a b
apart true a true b = gap a b
apart false a true b = a + b
apart true a false b = a + b

apart-is : (s : Bool) (a : ℕ) (t : Bool) (b : ℕ) → gap (gain s a + loss t b) (gain t b + loss s a) ≡ apart s a t b
apart-is false a false b = omega arith
apart-is true a true b = omega arith
apart-is false a true b = omega arith
apart-is true a false b = omega arith

gap-mul : (a b k : ℕ) → gap (a * k) (b * k) ≡ gap a b * k
gap-mul a b k = ap₂ (λ (x y : ℕ). x + y) (less a b) (less b a) ∙ sym (add-mul (a - b) (b - a) k)
  where
    less : (x y : ℕ) → x * k - y * k ≡ (x - y) * k
    less x y = ap₂ (λ (u v : ℕ). u - v) (mul_comm x k) (mul_comm y k) ∙ sym (mul-sub k x y) ∙ mul_comm k (x - y)

apart-mul : (s : Bool) (a : ℕ) (t : Bool) (b k : ℕ) → apart s (a * k) t (b * k) ≡ apart s a t b * k
apart-mul false a false b k = gap-mul a b k
apart-mul true a true b k = gap-mul a b k
apart-mul false a true b k = sym (add-mul a b k)
apart-mul true a false b k = sym (add-mul a b k)

-- ±a / c is as far from ±m / d, where m / d is G units of 1 / L, as a * L / c is from G
pub apart-units : (s t : Bool) (a c L m d G : ℕ) → m * L ≡ G * d
    → gap (gain s a * d + loss t m * c) (gain t m * c + loss s a * d) * L ≡ apart s (a * L) t (G * c) * d
apart-units s t a c L m d G h =
    ap (λ (x : ℕ). x * L) (ap₂ gap (sums (gain-mul s a d) (loss-mul t m c)) (sums (gain-mul t m c) (loss-mul s a d)) ∙ apart-is s (a * d) t (m * c))
    ∙ sym (apart-mul s (a * d) t (m * c) L)
    ∙ ap₂ (λ (x y : ℕ). apart s x t y) (mul_right_comm a d L) (mul_right_comm m c L ∙ ap (λ (x : ℕ). x * c) h ∙ mul_right_comm G d c)
    ∙ apart-mul s (a * L) t (G * c) d
  where
    sums : {x y u v : ℕ} → x ≡ u → y ≡ v → u + v ≡ x + y
    sums p q = sym (ap₂ (λ (x y : ℕ). x + y) p q)
