-- Within the limits every distance is finite (docs/RULES.md, 'Cell'): where a call's tests of its cell and coordinates refuse nothing, every wrapped point, every
-- minimum image and every squared distance of finite atoms is finite. The bounds are 2 ^ 16 at most, the sides above 2 ^ -23 and 2 ^ 17 at most, and a finite atom's
-- coordinates 2 ^ 20 at most; the laws of `Finite` do the rest. A bound that is not finite needs no test of its own: its extent is then not finite. Assumes nothing.
use mathlib.Core.Path.{◌≡◌, refl, subst}
use mathlib.Core.Bool.{true, false}
use mathlib.Core.List.{List, [], ◌∷◌}
use Prim.Native.Nat.{ℕ, zero, suc, ◌+◌, ◌*◌, ◌^◌, ◌≤◌}
use native.Mathlib.Nat.{one-mul, mul-one}
use lib.IntN.{pos}
use lib.Dec.{T, ltb, lit≤, lit<}
use lib.ListN.{get_or}
use lib.Ieee.{Float, nan, inf, fin, binary32, up, down, sub, add, neg, lt, of_bits}
use lib.Ieee.Bits.{is_true}
use lib.Ieee.Scale.{finite}
use borrow.Author.Tests.{ltb-false}
use Rattle.floats.proofs.Bounds.{Within}
use Rattle.floats.proofs.Tests.{holds, both}
use Rattle.cell.specs.declared.Cell.{Cell}
use Rattle.cell.specs.Cell.{epsilon, valid_axis, extent_of, valid, wrap, min_image, minus, distance2, point_at, finite_point}
use Rattle.frame_limits.specs.Limits.{max_bound, max_coordinate, exceeds, any_over, bound_over, frame_refusals}
use Rattle.base.specs.Refusals.{first_refusal}
use Rattle.cell.proofs.Finite.{sub-pow, valid-axes, finite-axes, valid-above, Side, Sides, Around, around-finite, wrap-around, image-around, minus-around, distance-finite}
use Rattle.base.proofs.Tests.{neither}
use Rattle.frame_limits.proofs.FrameRefusals.{frame-none}

-- ---- one number
at_most : (a b c : ℕ) → ltb (1 * b * c) (a * 1) ≡ false → a ≤ b * c
at_most a b c h = subst (λ (n : ℕ). a ≤ n * c) (one-mul b) (subst (λ (n : ℕ). n ≤ 1 * b * c) (mul-one a) (ltb-false (1 * b * c) (a * 1) h))

-- what is finite and not over 2 ^ k in magnitude
under : (k : ℕ) (x : Float) → T (finite x) → exceeds (fin false 1 (pos k)) x ≡ false → Within (2 ^ k) x
unfolding exceeds lt neg
under k nan h o = absurd h
under k (inf s) h o = absurd h
under k (fin false m e) h o = at_most (m * up e) (2 ^ k) (down e) (neither (ltb (1 * 2 ^ k * down e) (m * up e * 1)) false o).0
under k (fin true m e) h o = at_most (m * up e) (2 ^ k) (down e) o

-- a difference is finite only where both sides are
sub-finite : (x y : Float) → T (finite (sub binary32 x y)) → T (finite x) × T (finite y)
unfolding sub add neg
sub-finite nan y h = absurd h
sub-finite (inf s) nan h = absurd h
sub-finite (inf true) (inf true) h = absurd h
sub-finite (inf true) (inf false) h = absurd h
sub-finite (inf false) (inf true) h = absurd h
sub-finite (inf false) (inf false) h = absurd h
sub-finite (inf s) (fin t n d) h = absurd h
sub-finite (fin s m e) nan h = absurd h
sub-finite (fin s m e) (inf t) h = absurd h
sub-finite (fin s m e) (fin t n d) h = (tt, tt)

-- ---- the numbers of a list, one at a time
not-over : (limit : Float) (xs : List Float) → any_over limit xs ≡ false → (i : ℕ) → exceeds limit (get_or xs i nan) ≡ false
unfolding any_over exceeds
not-over limit [] o i = refl
not-over limit (x ∷ xs) o zero = (neither (exceeds limit x) (any_over limit xs) o).0
not-over limit (x ∷ xs) o (suc i) = not-over limit xs (neither (exceeds limit x) (any_over limit xs) o).1 i

-- ---- the cell
-- every bound is 2 ^ 16 at most in magnitude, and every side above 2 ^ -23 and 2 ^ 17 at most
pub record Limited (c : Cell) : Type 0 where
  pub low-around : Around 16 c.low
  pub high-around : Around 16 c.high
  pub sides : Sides (extent_of c)

-- one axis: the bounds are finite because their difference is
record LimitedAxis (low high : Float) : Type 0 where
  low-within : Within (2 ^ 16) low
  high-within : Within (2 ^ 16) high
  side : Side (sub binary32 high low)

limited-axis : (low high : Float) → exceeds max_bound low ≡ false → exceeds max_bound high ≡ false → valid_axis (sub binary32 high low) ≡ true → LimitedAxis low high
unfolding valid_axis of_bits
limited-axis low high ol oh v =
    let e = sub binary32 high low in
    let fe = both (finite e) (lt epsilon e) v in
    let fs = sub-finite high low (holds fe.0) in
    let wl : Within (2 ^ 16) low = under 16 low fs.1 ol in
    let wh : Within (2 ^ 16) high = under 16 high fs.0 oh in
    record { low-within = wl; high-within = wh; side = record { within = sub-pow 16 16 17 high low (lit< tt) (lit< tt) (lit≤ tt) wh wl; above = valid-above e v } }

-- the whole frame's call tests validity apart from the bounds, so the two stand here by themselves
pub limited-cell : (c : Cell) → bound_over c ≡ false → valid c ≡ true → Limited c
unfolding bound_over extent_of
limited-cell c o v =
    let under-limit = not-over max_bound (c.low.x ∷ c.low.y ∷ c.low.z ∷ c.high.x ∷ c.high.y ∷ c.high.z ∷ []) o in
    let v' = valid-axes c v in
    let ax = limited-axis c.low.x c.high.x (under-limit 0) (under-limit 3) v'.0 in
    let ay = limited-axis c.low.y c.high.y (under-limit 1) (under-limit 4) v'.1 in
    let az = limited-axis c.low.z c.high.z (under-limit 2) (under-limit 5) v'.2 in
    record {
      low-around = record { on-x = ax.low-within; on-y = ay.low-within; on-z = az.low-within };
      high-around = record { on-x = ax.high-within; on-y = ay.high-within; on-z = az.high-within };
      sides = record { on-x = ax.side; on-y = ay.side; on-z = az.side };
    }

pub limited : (c : Cell) (solutes waters : List Float) → first_refusal (frame_refusals c solutes waters) ≡ 0 → Limited c
limited c solutes waters h = let a = frame-none c solutes waters h in limited-cell c a.bounds-within a.cell-valid

-- ---- the atoms
-- a finite atom of a list with no coordinate over its limit
pub atom-around : (xs : List Float) → any_over max_coordinate xs ≡ false → (k : ℕ) → finite_point (point_at xs k) ≡ true → Around 20 (point_at xs k)
unfolding point_at of_bits
atom-around xs o k h =
    let p = point_at xs k in
    let f = finite-axes p h in
    record { on-x = under 20 p.x f.0 (not-over max_coordinate xs o (k * 3)); on-y = under 20 p.y f.1 (not-over max_coordinate xs o (k * 3 + 1)); on-z = under 20 p.z f.2 (not-over max_coordinate xs o (k * 3 + 2)) }

pub solute-around : (c : Cell) (solutes waters : List Float) → first_refusal (frame_refusals c solutes waters) ≡ 0 → (k : ℕ) → finite_point (point_at solutes k) ≡ true → Around 20 (point_at solutes k)
solute-around c solutes waters h = atom-around solutes (frame-none c solutes waters h).solutes-within

pub water-around : (c : Cell) (solutes waters : List Float) → first_refusal (frame_refusals c solutes waters) ≡ 0 → (k : ℕ) → finite_point (point_at waters k) ≡ true → Around 20 (point_at waters k)
water-around c solutes waters h = atom-around waters (frame-none c solutes waters h).waters-within

-- ---- what a reader wants
-- in the cell c, of atoms i of xs and j of ys that are finite: i wrapped, and the minimum image and the squared distance from i to j
pub record FiniteGeometry (c : Cell) (xs ys : List Float) : Type 0 where
  pub wrapped : (i : ℕ) → finite_point (point_at xs i) ≡ true → finite_point (wrap c (point_at xs i)) ≡ true
  pub images : (i j : ℕ) → finite_point (point_at xs i) ≡ true → finite_point (point_at ys j) ≡ true → finite_point (min_image (extent_of c) (minus (point_at ys j) (point_at xs i))) ≡ true
  pub distances : (i j : ℕ) → finite_point (point_at xs i) ≡ true → finite_point (point_at ys j) ≡ true → finite (distance2 (extent_of c) (point_at xs i) (point_at ys j)) ≡ true

pub geometry-finite : (c : Cell) (xs ys : List Float) → Limited c → any_over max_coordinate xs ≡ false → any_over max_coordinate ys ≡ false → FiniteGeometry c xs ys
geometry-finite c xs ys l ox oy =
    record {
      wrapped = λ i h. around-finite 24 (wrap c (point_at xs i)) (wrap-around 20 c (point_at xs i) (lit≤ tt) (lit≤ tt) l.low-around l.sides (atom-around xs ox i h));
      images = λ i j h g.
          let d = minus (point_at ys j) (point_at xs i) in
          around-finite 24 (min_image (extent_of c) d) (image-around 21 (extent_of c) d (lit≤ tt) (lit≤ tt) l.sides (minus-around 20 (point_at xs i) (point_at ys j) (lit≤ tt) (atom-around xs ox i h) (atom-around ys oy j g)));
      distances = λ i j h g.
          let d2 = distance2 (extent_of c) (point_at xs i) (point_at ys j) in
          is_true (finite d2) (distance-finite 20 (extent_of c) (point_at xs i) (point_at ys j) (lit≤ tt) (lit≤ tt) l.sides (atom-around xs ox i h) (atom-around ys oy j g));
    }

-- from a call's tests: among the solutes, among the waters, and from a solute to a water
pub solutes-finite : (c : Cell) (solutes waters : List Float) → first_refusal (frame_refusals c solutes waters) ≡ 0 → FiniteGeometry c solutes solutes
solutes-finite c solutes waters h = let a = frame-none c solutes waters h in geometry-finite c solutes solutes (limited c solutes waters h) a.solutes-within a.solutes-within

pub waters-finite : (c : Cell) (solutes waters : List Float) → first_refusal (frame_refusals c solutes waters) ≡ 0 → FiniteGeometry c waters waters
waters-finite c solutes waters h = let a = frame-none c solutes waters h in geometry-finite c waters waters (limited c solutes waters h) a.waters-within a.waters-within

pub between-finite : (c : Cell) (solutes waters : List Float) → first_refusal (frame_refusals c solutes waters) ≡ 0 → FiniteGeometry c solutes waters
between-finite c solutes waters h = let a = frame-none c solutes waters h in geometry-finite c solutes waters (limited c solutes waters h) a.solutes-within a.waters-within
