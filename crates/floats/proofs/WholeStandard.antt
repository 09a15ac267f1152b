-- `floor_of` and `round_of` are IEEE 754's floor and round of specs/Standard.antt on every finite value that a format holds, and no other value is.
-- Assumes nothing.
use mathlib.Core.Path.{◌≡◌, refl, sym, ap, ap₂, ◌∙◌, subst}
use Prim.Native.Nat.{ℕ, ◌*◌, ◌≤◌}
use native.Mathlib.Nat.{le_trans, le_antisymm, le_of_eq, zero-lt-suc, mul-one, mul-le-mul_right, le_of_mul-le-mul_right, eq_of_mul-eq-mul_right}
use native.Mathlib.Omega.{arith}
use mathlib.Core.Bool.{Bool, true, false, ◌||◌, beq}
use lib.IntN.{pos}
use lib.Dec.{T, eqb, eqb→eq}
use lib.Ieee.{Float, nan, inf, fin, Format, up, down, lt, le, eq, fits}
use lib.Ieee.Fits.{and_i, and_l, eq→eqb, round-fits, down_pos}
use lib.Ieee.Exact.{HasValue}
use lib.Ieee.Back.{whole_unique}
use lib.Ieee.Scale.{finite}
use lib.Ieee.Positive.{num, den, den_pos}
use Rattle.floats.specs.Whole.{half_up, floor_of, round_of}
use Rattle.floats.specs.Standard.{distance, NoFurther, AsFar, whole, IsWhole, sign, IsFloor, IsRound}
use Rattle.floats.proofs.Differences.{apart, apart-units}
use Rattle.floats.proofs.NearestWhole.{Near, half-near, near, outward}
use Rattle.floats.proofs.Signs.{value-finite, value-parts}
use Rattle.floats.proofs.Signed.{Below, le-trans-finite, value-le}
use Rattle.floats.proofs.WholeSizes.{floor_size, round_size, floor-rounds, round-rounds, rounds-value}
use Rattle.floats.proofs.FloorOrder.{floor-largest, whole-value, whole_le, floor-under}

-- ---- what a whole value says
value-whole : (y : Float) (s : Bool) (n : ℕ) → HasValue y s n 1 → IsWhole y
unfolding eq
value-whole nan s n v = absurd v
value-whole (inf t) s n v = absurd v
value-whole (fin t m e) s n v =
    record {
      minus = t;
      size = n;
      is =
          and_i (eqb (m * up e * 1) (n * 1 * down e)) (beq t t || eqb (m * up e * 1) 0)
          (eq→eqb (v.1 ∙ ap (λ (x : ℕ). x * down e) (sym (mul-one n)))) (same t (eqb (m * up e * 1) 0));
    }
  where
    same : (b c : Bool) → T (beq b b || c)
    same true c = tt
    same false c = tt

whole_has : (y : Float) (w : IsWhole y) → HasValue y (sign y) w.size 1
unfolding eq
whole_has y w = go y w.minus w.size w.is
  where
    go : (y : Float) (t : Bool) (k : ℕ) → T (eq y (whole t k)) → HasValue y (sign y) k 1
    go nan t k h = absurd h
    go (inf s) t k h = absurd h
    go (fin s m e) t k h = (
      refl,
      eqb→eq (m * up e * 1) (k * 1 * down e) (and_l (eqb (m * up e * 1) (k * 1 * down e)) (beq s t || eqb (m * up e * 1) 0) h)
          ∙ ap (λ (x : ℕ). x * down e) (mul-one k),
    )

signed-value : (x y : Float) → sign y ≡ sign x → (w : IsWhole y) → HasValue y (sign x) w.size 1
signed-value x y e w = subst (λ (t : Bool). HasValue y t w.size 1) e (whole_has y w)

same_whole : (f : Format) (y z : Float) (s : Bool) (k j : ℕ) → T (fits f y) → T (fits f z) → HasValue y s k 1 → HasValue z s j 1 → j ≡ k → y ≡ z
same_whole f y z s k j p q v w e = whole_unique f y z s k p q v (subst (λ (i : ℕ). HasValue z s i 1) e w)

under_whole : (y : Float) (s : Bool) (k : ℕ) → HasValue y s k 1 → T (le y (whole s k))
under_whole y s k v = value-le y (whole s k) s k 1 s k 1 (zero-lt-suc 0) (zero-lt-suc 0) v (whole-value s k) (le_of_eq refl)

over-whole : (y : Float) (s : Bool) (k : ℕ) → HasValue y s k 1 → T (le (whole s k) y)
over-whole y s k v = value-le (whole s k) y s k 1 s k 1 (zero-lt-suc 0) (zero-lt-suc 0) (whole-value s k) v (le_of_eq refl)

-- ---- the floor
pub floor-is : (f : Format) (x : Float) → T (fits f x) → T (finite x) → IsFloor f x (floor_of f x)
floor-is f nan F p = absurd p
floor-is f (inf s) F p = absurd p
floor-is f (fin s m e) F p =
    let n = floor_size s (m * up e) (down e) in
    let x = fin s m e in
    let y = floor_of f x in
    let r = floor-rounds f in
    let v : HasValue y s n 1 = rounds-value f floor_size (floor_of f) r s m e F in
    record {
      domain = tt;
      held = subst (λ (z : Float). T (fits f z)) (sym (r.at-fin s m e)) (round-fits f s n 1);
      signed = (value-parts y s n 1 v).0;
      is_whole = value-whole y s n v;
      not-above = le-trans-finite y (whole s n) x (value-finite y s n 1 v) tt tt (under_whole y s n v) (floor-under s m e);
      largest = λ t k h.
          value-le (whole t k) y t k 1 s n 1 (zero-lt-suc 0) (zero-lt-suc 0) (whole-value t k) v
          (floor-largest t k s (m * up e) (down e) (down_pos e) (whole_le t k s m e h));
    }

-- ---- no other value is the floor
value-under : (z : Float) (s : Bool) (k : ℕ) → HasValue z s k 1 → (x : Float) → T (le z x) → T (le (whole s k) x)
unfolding le lt eq
value-under nan s k v x h = absurd v
value-under (inf t) s k v x h = absurd v
value-under (fin t m e) s k v nan h = absurd h
value-under (fin t m e) s k v (inf u) h = h
value-under (fin t m e) s k v (fin u n d) h =
    le-trans-finite (whole s k) (fin t m e) (fin u n d) tt tt tt
    (over-whole (fin t m e) s k v) h

floor-reaches : (f : Format) (x y z : Float) (s : Bool) (k j : ℕ) → IsFloor f x y → HasValue y s k 1 → HasValue z s j 1 → T (le z x)
    → Below s j 1 s k 1
floor-reaches f x y z s k j Y v w h =
    let a : T (le (whole s j) y) = Y.largest s j (value-under z s j w x h) in
    let b : T (le y (whole s k)) = under_whole y s k v in
    subst (λ (n : ℕ). Below s j 1 s n 1) (mul-one k) (whole_le s j s k (pos 0) (le-trans-finite (whole s j) y (whole s k) tt (value-finite y s k 1 v) tt a b))

same_size : (s : Bool) (j k : ℕ) → Below s j 1 s k 1 → Below s k 1 s j 1 → j ≡ k
same_size false j k h g = omega arith
same_size true j k h g = omega arith

pub floor-only : (f : Format) (x y z : Float) → IsFloor f x y → IsFloor f x z → y ≡ z
floor-only f x y z Y Z =
    let k = Y.is_whole.size in
    let j = Z.is_whole.size in
    let v = signed-value x y Y.signed Y.is_whole in
    let w = signed-value x z Z.signed Z.is_whole in
    same_whole f y z (sign x) k j Y.held Z.held v w
    (same_size (sign x) j k (floor-reaches f x y z (sign x) k j Y v w Z.not-above) (floor-reaches f x z y (sign x) j k Z w v Y.not-above))

-- ---- distances to a whole value
value-distance : (x y : Float) (t : Bool) (k : ℕ) → HasValue y t k 1 → distance x y * 1 ≡ apart (sign x) (num x) t (k * den x) * den y
value-distance x y t k v =
    let p = value-parts y t k 1 v in
    apart-units (sign x) (sign y) (num x) (den x) 1 (num y) (den y) k p.1
    ∙ ap₂ (λ (a : ℕ) (b : Bool). apart (sign x) a b (k * den x) * den y) (mul-one (num x)) p.0

-- both sides of NoFurther and AsFar
module _ (x y : Float) (s : Bool) (n : ℕ) (v : HasValue y s n 1) (t : Bool) (k : ℕ) where
  abbrev mine : ℕ
  mine = apart (sign x) (num x) s (n * den x)

  abbrev other : ℕ
  other = apart (sign x) (num x) t (k * den x)

  mine-is : distance x y * 1 ≡ mine * den y
  mine-is = value-distance x y s n v

  other-is : distance x (whole t k) * den y ≡ other * den y
  other-is = ap (λ (i : ℕ). i * den y) (sym (mul-one (distance x (whole t k))) ∙ value-distance x (whole t k) t k (whole-value t k) ∙ mul-one other)

  no-further : mine ≤ other → NoFurther x y (whole t k)
  no-further h = le_trans (le_of_eq mine-is) (le_trans (mul-le-mul_right (den y) h) (le_of_eq (sym other-is)))

  apart-le : NoFurther x y (whole t k) → mine ≤ other
  apart-le h = le_of_mul-le-mul_right (le_trans (le_of_eq (sym mine-is)) (le_trans h (le_of_eq other-is))) (den_pos y)

  as-far : mine ≡ other → AsFar x y (whole t k)
  as-far h = mine-is ∙ ap (λ (i : ℕ). i * den y) h ∙ sym other-is

  apart-same : AsFar x y (whole t k) → mine ≡ other
  apart-same h = eq_of_mul-eq-mul_right (den y) (den_pos y) mine other (sym mine-is ∙ h ∙ other-is)

-- ---- rounding
value-cross : (y : Float) (s : Bool) (n : ℕ) → HasValue y s n 1 → num y ≡ n * den y
value-cross y s n v = sym (mul-one (num y)) ∙ (value-parts y s n 1 v).1

pub round-is-nearest : (f : Format) (x : Float) → T (fits f x) → T (finite x) → IsRound f x (round_of f x)
round-is-nearest f nan F p = absurd p
round-is-nearest f (inf s) F p = absurd p
round-is-nearest f (fin s m e) F p =
    let n = half_up (m * up e) (down e) in
    let x = fin s m e in
    let y = round_of f x in
    let r = round-rounds f in
    let v : HasValue y s n 1 = rounds-value f round_size (round_of f) r s m e F in
    let h : Near (m * up e) (down e) n = half-near (m * up e) (down e) (down_pos e) in
    record {
      domain = tt;
      held = subst (λ (z : Float). T (fits f z)) (sym (r.at-fin s m e)) (round-fits f s n 1);
      signed = (value-parts y s n 1 v).0;
      is_whole = value-whole y s n v;
      nearest = λ t k. no-further x y s n v t k (near s (m * up e) (down e) n t k h);
      away = λ t k g.
          le_trans (mul-le-mul_right (den y) (outward s (m * up e) (down e) n t k (down_pos e) h (apart-same x y s n v t k g)))
          (le_of_eq (sym (value-cross y s n v)));
    }

-- a second result is no further from zero than the first
round-reaches : (f : Format) (x y z : Float) (s : Bool) (k j : ℕ) → IsRound f x y → IsRound f x z → HasValue y s k 1 → HasValue z s j 1 → j ≤ k
round-reaches f x y z s k j Y Z v w =
    le_of_mul-le-mul_right
    (le_trans (Y.away s j (as-far x y s k v s j (le_antisymm (apart-le x y s k v s j (Y.nearest s j)) (apart-le x z s j w s k (Z.nearest s k)))))
    (le_of_eq (value-cross y s k v)))
    (den_pos y)

pub round-only : (f : Format) (x y z : Float) → IsRound f x y → IsRound f x z → y ≡ z
round-only f x y z Y Z =
    let k = Y.is_whole.size in
    let j = Z.is_whole.size in
    let v = signed-value x y Y.signed Y.is_whole in
    let w = signed-value x z Z.signed Z.is_whole in
    same_whole f y z (sign x) k j Y.held Z.held v w
    (le_antisymm (round-reaches f x y z (sign x) k j Y Z v w) (round-reaches f x z y (sign x) j k Z Y w v))
