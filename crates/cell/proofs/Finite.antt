-- The geometry of a cell stays finite, for points whose coordinates are 2 ^ k at most in magnitude, for any k: each operation adds a few to k.
-- A picked atom has k = 20, and a sum of many images has a larger one. The sides are above 2 ^ -23 and 2 ^ 17 at most; what carries the bound through
-- `side * whole (x / side)` is that it is twice x and once the side at most, however small the side is. Assumes nothing.
use mathlib.Core.Path.{◌≡◌, sym, ap, ◌∙◌, subst}
use mathlib.Core.Bool.{true, false, ◌&&◌, true≢false}
use Prim.Native.Nat.{ℕ, zero, suc, ◌+◌, ◌*◌, ◌^◌, ◌≤◌, ◌<◌}
use native.Mathlib.Nat.{le_of_eq, le_of_suc-le-suc, not-suc-le-zero, lt_of_le_of_lt, lt_of_lt_of_le, mul_assoc, mul_comm, mul_left_comm, mul-le-mul_right, mul-lt-mul_of_pos_left, mul-pos, pow-succ', zero-mul, zero-lt-suc}
use native.Mathlib.Omega.{arith}
use lib.Dec.{T, lit≤}
use lib.Pow.{pow-add, pow_pos, pow_mono}
use lib.Ieee.{Float, nan, inf, fin, binary32, up, down, add, sub, mul, div, lt, of_bits}
use lib.Ieee.Fits.{down_pos, and_i}
use lib.Ieee.Bits.{is_true}
use lib.Ieee.Scale.{finite}
use borrow.Author.Tests.{ltb-true}
use Rattle.floats.specs.Whole.{floor_of, round_of}
use Rattle.floats.proofs.Tests.{holds, both}
use Rattle.floats.proofs.Bounds.{Within, Exact, exact-pow, mul-within, add-within, sub_within, within_more}
use Rattle.floats.proofs.Image.{Keeps, Nonzero, Ratio, round_keeps, floor-keeps, image-within}
use Rattle.floats.proofs.Quotients.{within-finite}
use Rattle.cell.specs.declared.Vec3.{Vec3}
use Rattle.cell.specs.declared.Cell.{Cell}
use Rattle.cell.specs.Cell.{wrap_axis, image_axis, valid_axis, valid, extent_of, wrap, min_image, squared, minus, distance2, volume_of, finite_point}

-- ---- bounds that are powers of two
pub pow_more : (x : Float) (j k : ℕ) → j ≤ k → Within (2 ^ j) x → Within (2 ^ k) x
pow_more x j k h w = within_more x (2 ^ j) (2 ^ k) (pow_mono h) w

-- two sizes below 2 ^ l, whose sum is then 2 ^ l at most
sum-pow : (g : Float → Float → Float) → ((x y : Float) (A B : ℕ) → Exact binary32 (A + B) → Within A x → Within B y → Within (A + B) (g x y)) → (i j l : ℕ) (x y : Float) → i < l → j < l → l ≤ 127 → Within (2 ^ i) x → Within (2 ^ j) y → Within (2 ^ l) (g x y)
sum-pow g G i j zero x y il jl h wx wy = absurd (not-suc-le-zero il)
sum-pow g G i j (suc l) x y il jl h wx wy =
    subst (λ (n : ℕ). Within n (g x y)) twice (G x y (2 ^ l) (2 ^ l) (subst (λ (n : ℕ). Exact binary32 n) (sym twice) (exact-pow binary32 (suc l) h)) (pow_more x i l (le_of_suc-le-suc il) wx) (pow_more y j l (le_of_suc-le-suc jl) wy))
  where
    sums : (a b : ℕ) → b ≡ 2 * a → a + a ≡ b
    sums a b p = omega arith

    twice : 2 ^ l + 2 ^ l ≡ 2 ^ suc l
    twice = sums (2 ^ l) (2 ^ suc l) (pow-succ' 2 l)

pub add-pow : (i j l : ℕ) (x y : Float) → i < l → j < l → l ≤ 127 → Within (2 ^ i) x → Within (2 ^ j) y → Within (2 ^ l) (add binary32 x y)
add-pow = sum-pow (add binary32) (add-within binary32)

pub sub-pow : (i j l : ℕ) (x y : Float) → i < l → j < l → l ≤ 127 → Within (2 ^ i) x → Within (2 ^ j) y → Within (2 ^ l) (sub binary32 x y)
sub-pow = sum-pow (sub binary32) (sub_within binary32)

pub mul-pow : (j k : ℕ) (x y : Float) → j + k ≤ 127 → Within (2 ^ j) x → Within (2 ^ k) y → Within (2 ^ (j + k)) (mul binary32 x y)
mul-pow j k x y h wx wy =
    subst (λ (n : ℕ). Within n (mul binary32 x y)) (sym (pow-add 2 j k))
    (mul-within binary32 x y (2 ^ j) (2 ^ k) (subst (λ (n : ℕ). Exact binary32 n) (pow-add 2 j k) (exact-pow binary32 (j + k) h)) wx wy)

-- ---- sides and points
-- y is finite, and above 2 ^ -23 in size
abbrev pub Above : Float → Type 0
Above nan = ⊥
Above (inf s) = ⊥
Above (fin s n d) = down d < 2 ^ 23 * (n * up d)

pub record Side (e : Float) : Type 0 where
  pub within : Within (2 ^ 17) e
  pub above : Above e

pub record Sides (e : Vec3) : Type 0 where
  pub on-x : Side e.x
  pub on-y : Side e.y
  pub on-z : Side e.z

-- each coordinate is finite, and 2 ^ k at most in magnitude
pub record Around (k : ℕ) (p : Vec3) : Type 0 where
  pub on-x : Within (2 ^ k) p.x
  pub on-y : Within (2 ^ k) p.y
  pub on-z : Within (2 ^ k) p.z

-- a valid cell and a finite point, an axis at a time
pub valid-axes : (c : Cell) → valid c ≡ true → (valid_axis (extent_of c).x ≡ true) × (valid_axis (extent_of c).y ≡ true) × (valid_axis (extent_of c).z ≡ true)
unfolding valid
valid-axes c v =
    let e = extent_of c in
    let vx = both (valid_axis e.x) (valid_axis e.y && valid_axis e.z) v in
    let vy = both (valid_axis e.y) (valid_axis e.z) vx.1 in
    (vx.0, vy.0, vy.1)

pub finite-axes : (p : Vec3) → finite_point p ≡ true → T (finite p.x) × T (finite p.y) × T (finite p.z)
unfolding finite_point
finite-axes p h =
    let fx = both (finite p.x) (finite p.y && finite p.z) h in
    let fy = both (finite p.y) (finite p.z) fx.1 in
    (holds fx.0, holds fy.0, holds fy.1)

-- an extent of a valid cell
pub valid-above : (e : Float) → valid_axis e ≡ true → Above e
unfolding valid_axis lt of_bits
valid-above nan v = absurd (true≢false (sym v))
valid-above (inf s) v = absurd (true≢false (sym v))
valid-above (fin true n d) v = absurd (true≢false (sym v))
valid-above (fin false n d) v = turned (down d) (n * up d) (ltb-true (1 * down d) (n * up d * 2 ^ 23) v)
  where
    turned : (a b : ℕ) → 1 * a < b * 2 ^ 23 → a < 2 ^ 23 * b
    turned a b p = omega arith

-- ---- one axis
pub nonzero : (y : Float) → Above y → Nonzero y
nonzero nan h = h
nonzero (inf s) h = h
nonzero (fin s zero d) h = absurd (clash (0 * up d) (down d) (zero-mul (up d)) h)
  where
    clash : (a b : ℕ) → a ≡ 0 → b < 2 ^ 23 * a → ⊥
    clash a b p q = omega arith
nonzero (fin s (suc n) d) h = zero-lt-suc n

ratio : (k : ℕ) (x y : Float) → Within (2 ^ k) x → Above y → Ratio (k + 23) x y
ratio k nan y w h = absurd w
ratio k (inf s) y w h = absurd w
ratio k (fin s m e) nan w h = absurd h
ratio k (fin s m e) (inf t) w h = absurd h
ratio k (fin s m e) (fin t n d) w h =
    lt_of_le_of_lt (mul-le-mul_right (down d) w)
    (lt_of_lt_of_le (mul-lt-mul_of_pos_left h (mul-pos (pow_pos k) (down_pos e)))
    (le_of_eq (turned (2 ^ k) (down e) (2 ^ 23) (n * up d) ∙ ap (λ (z : ℕ). z * (n * up d * down e)) (sym (pow-add 2 k 23)))))
  where
    turned : (a b c g : ℕ) → a * b * (c * g) ≡ a * c * (g * b)
    turned a b c g = simp (mul_assoc, mul_comm, mul_left_comm)

-- whole sides: at most twice x and once the side
whole-sides : (g : Float → Float) → Keeps binary32 g → (k : ℕ) (x e : Float) → 17 ≤ k → k ≤ 101 → Side e → Within (2 ^ k) x → Within (2 ^ (k + 2)) (mul binary32 e (g (div binary32 x e)))
whole-sides g K k x e lo hi s w =
    image-within binary32 g K x e (2 ^ k) (2 ^ 17) (2 ^ (k + 2)) (k + 23) w s.within (nonzero e s.above) (ratio k x e w s.above) (omega arith) (exact-pow binary32 (k + 2) (omega arith))
    (sums (2 ^ k) (2 ^ 17) (2 ^ (k + 2)) (pow_mono lo) (pow-add 2 k 2))
  where
    sums : (a b c : ℕ) → b ≤ a → c ≡ a * 4 → 2 * a + b ≤ c
    sums a b c p q = omega arith

pub wrap-axis-within : (k : ℕ) (p low e : Float) → 17 ≤ k → k ≤ 100 → Within (2 ^ 16) low → Side e → Within (2 ^ k) p → Within (2 ^ (k + 4)) (wrap_axis p low e)
unfolding wrap_axis
wrap-axis-within k p low e lo hi wl s w =
    let d = sub binary32 p low in
    let wd : Within (2 ^ suc k) d = sub-pow k 16 (suc k) p low (omega arith) (omega arith) (omega arith) w wl in
    sub-pow k (suc k + 2) (k + 4) p (mul binary32 e (floor_of binary32 (div binary32 d e))) (omega arith) (omega arith) (omega arith) w
    (whole-sides (floor_of binary32) (floor-keeps binary32) (suc k) d e (omega arith) (omega arith) s wd)

pub image-axis-within : (k : ℕ) (d e : Float) → 17 ≤ k → k ≤ 100 → Side e → Within (2 ^ k) d → Within (2 ^ (k + 3)) (image_axis d e)
unfolding image_axis
image-axis-within k d e lo hi s w =
    sub-pow k (k + 2) (k + 3) d (mul binary32 e (round_of binary32 (div binary32 d e))) (omega arith) (omega arith) (omega arith) w (whole-sides (round_of binary32) (round_keeps binary32) k d e lo (omega arith) s w)

-- ---- all three axes
pub wrap-around : (k : ℕ) (c : Cell) (p : Vec3) → 17 ≤ k → k ≤ 100 → Around 16 c.low → Sides (extent_of c) → Around k p → Around (k + 4) (wrap c p)
unfolding wrap
wrap-around k c p lo hi l s a =
    record {
      on-x = wrap-axis-within k p.x c.low.x (extent_of c).x lo hi l.on-x s.on-x a.on-x;
      on-y = wrap-axis-within k p.y c.low.y (extent_of c).y lo hi l.on-y s.on-y a.on-y;
      on-z = wrap-axis-within k p.z c.low.z (extent_of c).z lo hi l.on-z s.on-z a.on-z;
    }

pub image-around : (k : ℕ) (e d : Vec3) → 17 ≤ k → k ≤ 100 → Sides e → Around k d → Around (k + 3) (min_image e d)
unfolding min_image
image-around k e d lo hi s a =
    record {
      on-x = image-axis-within k d.x e.x lo hi s.on-x a.on-x;
      on-y = image-axis-within k d.y e.y lo hi s.on-y a.on-y;
      on-z = image-axis-within k d.z e.z lo hi s.on-z a.on-z;
    }

pub minus-around : (k : ℕ) (p q : Vec3) → k ≤ 126 → Around k p → Around k q → Around (suc k) (minus q p)
unfolding minus
minus-around k p q h a b = record { on-x = one q.x p.x b.on-x a.on-x; on-y = one q.y p.y b.on-y a.on-y; on-z = one q.z p.z b.on-z a.on-z }
  where
    one : (x y : Float) → Within (2 ^ k) x → Within (2 ^ k) y → Within (2 ^ suc k) (sub binary32 x y)
    one x y = sub-pow k k (suc k) x y (omega arith) (omega arith) (omega arith)

pub around-more : (j k : ℕ) (p : Vec3) → j ≤ k → Around j p → Around k p
around-more j k p h a = record { on-x = pow_more p.x j k h a.on-x; on-y = pow_more p.y j k h a.on-y; on-z = pow_more p.z j k h a.on-z }

pub around-finite : (k : ℕ) (p : Vec3) → Around k p → finite_point p ≡ true
unfolding finite_point
around-finite k p a =
    is_true (finite p.x && (finite p.y && finite p.z))
    (and_i (finite p.x) (finite p.y && finite p.z) (within-finite (2 ^ k) p.x a.on-x) (and_i (finite p.y) (finite p.z) (within-finite (2 ^ k) p.y a.on-y) (within-finite (2 ^ k) p.z a.on-z)))

pub squared-within : (k : ℕ) (d : Vec3) → k ≤ 60 → Around k d → Within (2 ^ (k + k + 2)) (squared d)
unfolding squared
squared-within k d h a =
    let x2 = mul binary32 d.x d.x in
    let y2 = mul binary32 d.y d.y in
    let z2 = mul binary32 d.z d.z in
    let one : (x : Float) → Within (2 ^ k) x → Within (2 ^ (k + k)) (mul binary32 x x) = λ x w. mul-pow k k x x (omega arith) w w in
    add-pow (k + k + 1) (k + k) (k + k + 2) (add binary32 x2 y2) z2 (omega arith) (omega arith) (omega arith)
    (add-pow (k + k) (k + k) (k + k + 1) x2 y2 (omega arith) (omega arith) (omega arith) (one d.x a.on-x) (one d.y a.on-y))
    (one d.z a.on-z)

pub distance-within : (k : ℕ) (e p q : Vec3) → 17 ≤ k → k ≤ 56 → Sides e → Around k p → Around k q → Within (2 ^ (2 * (k + 4) + 2)) (distance2 e p q)
unfolding distance2
distance-within k e p q lo hi s a b =
    let d = minus q p in
    let im : Around (suc k + 3) (min_image e d) = image-around (suc k) e d (omega arith) (omega arith) s (minus-around k p q (omega arith) a b) in
    pow_more (squared (min_image e d)) (suc k + 3 + (suc k + 3) + 2) (2 * (k + 4) + 2) (omega arith) (squared-within (suc k + 3) (min_image e d) (omega arith) im)

pub distance-finite : (k : ℕ) (e p q : Vec3) → 17 ≤ k → k ≤ 56 → Sides e → Around k p → Around k q → T (finite (distance2 e p q))
distance-finite k e p q lo hi s a b = within-finite (2 ^ (2 * (k + 4) + 2)) (distance2 e p q) (distance-within k e p q lo hi s a b)

pub volume-within : (e : Vec3) → Sides e → Within (2 ^ 51) (volume_of e)
unfolding volume_of
volume-within e s =
    mul-pow 34 17 (mul binary32 e.x e.y) e.z (lit≤ tt) (mul-pow 17 17 e.x e.y (lit≤ tt) s.on-x.within s.on-y.within) s.on-z.within
