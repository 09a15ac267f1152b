-- An axis of a tested cell: its extent, turns and images are finite, and images keep the order where turns do. The extent is above
-- 2 ^ -23 and 2 ^ 17 at most, and a separation of two atoms 2 ^ 21 at most in magnitude. Assumes nothing.
use mathlib.Core.Path.{◌≡◌, sym}
use mathlib.Core.Bool.{true, false, not, ◌&&◌, true≢false}
use mathlib.Core.List.{List}
use Prim.Native.Nat.{ℕ, ◌*◌, ◌^◌, ◌≤◌, ◌<◌}
use native.Mathlib.Omega.{arith}
use lib.Dec.{T, lit≤}
use lib.Ieee.{Float, nan, inf, fin, binary32, up, down, of_bits, mul, div, lt, le}
use lib.Ieee.Scale.{finite}
use borrow.Author.Tests.{not-true}
use Rattle.floats.proofs.Tests.{both}
use Rattle.floats.proofs.Bounds.{Within, exact-pow, mul-within, plain}
use Rattle.floats.proofs.Image.{round_keeps}
use Rattle.floats.proofs.Quotients.{within-finite, AtLeast, div-within}
use Rattle.floats.proofs.Monotone.{sub-mono, mul-mono-left}
use Rattle.cell.specs.declared.Cell.{Cell}
use Rattle.cell.specs.declared.Vec3.{Vec3}
use Rattle.cell.specs.Cell.{image_axis, valid_axis, valid, extent_of, point_at, finite_point}
use Rattle.cell.specs.Reach.{sound_reach}
use Rattle.frame_limits.specs.Limits.{bound_over, any_over, max_coordinate, frame_refusals}
use Rattle.base.specs.Refusals.{first_refusal}
use Rattle.cell.proofs.Finite.{valid-axes, Above, Side, Around, image-axis-within}
use Rattle.frame_limits.proofs.FrameRefusals.{frame-none}
use Rattle.frame_limits.proofs.FiniteFrame.{limited-cell, atom-around}
use Rattle.gates.specs.Inner.{turns_of, tested}
use Rattle.gates.proofs.Squares.{Sized, sized}

-- ---- one axis
-- its extent is above 2 ^ -23 and 2 ^ 17 at most, with no minus sign
pub record Axis (e : Float) : Type 0 where
  pub side : Side e
  pub plus : T (plain e)

at_least : (e : Float) → Above e → AtLeast 23 e
at_least nan h = h
at_least (inf s) h = h
at_least (fin s n d) h = tidy (down d) (n * up d) h
  where
    tidy : (a b : ℕ) → a < 2 ^ 23 * b → a ≤ b * 2 ^ 23
    tidy a b k = omega arith

module _ (d e : Float) (E : Axis e) (w : Within (2 ^ 21) d) where
  quotient-within : Within (2 ^ 44) (div binary32 d e)
  quotient-within = div-within binary32 d e (2 ^ 21) 23 (exact-pow binary32 44 (lit≤ tt)) w (at_least e E.side.above)

  pub quotient-finite : T (finite (div binary32 d e))
  quotient-finite = within-finite (2 ^ 44) (div binary32 d e) quotient-within

  pub turns-within : Within (2 ^ 44) (turns_of d e)
  unfolding turns_of
  turns-within = round_keeps binary32 (div binary32 d e) (2 ^ 44) (exact-pow binary32 44 (lit≤ tt)) quotient-within

  pub turns-finite : T (finite (turns_of d e))
  turns-finite = within-finite (2 ^ 44) (turns_of d e) turns-within

  pub taken-finite : T (finite (mul binary32 e (turns_of d e)))
  taken-finite = within-finite (2 ^ 61) (mul binary32 e (turns_of d e)) (mul-within binary32 e (turns_of d e) (2 ^ 17) (2 ^ 44) (exact-pow binary32 61 (lit≤ tt)) E.side.within turns-within)

  pub image-within : Within (2 ^ 24) (image_axis d e)
  image-within = image-axis-within 21 d e (lit≤ tt) (lit≤ tt) E.side w

  pub image-sized : Sized (image_axis d e)
  image-sized = sized (image_axis d e) image-within

-- with fewer turns and a larger separation the image is larger
pub image-order : (d d' e : Float) → Axis e → Within (2 ^ 21) d → Within (2 ^ 21) d' → T (le d d') → T (le (turns_of d' e) (turns_of d e)) → T (le (image_axis d e) (image_axis d' e))
unfolding image_axis turns_of
image-order d d' e E w w' h k =
    sub-mono binary32 d d' (mul binary32 e (turns_of d e)) (mul binary32 e (turns_of d' e)) (within-finite (2 ^ 21) d w) (within-finite (2 ^ 21) d' w') (taken-finite d e E w) (taken-finite d' e E w') h
    (mul-mono-left binary32 e (turns_of d' e) (turns_of d e) (within-finite (2 ^ 17) e E.side.within) E.plus (turns-finite d' e E w') (turns-finite d e E w) k)

-- ---- a tested cell
pub record Axes (e : Vec3) : Type 0 where
  pub on-x : Axis e.x
  pub on-y : Axis e.y
  pub on-z : Axis e.z

-- what is above EPSILON has no minus sign
valid-plain : (e : Float) → valid_axis e ≡ true → T (plain e)
unfolding valid_axis lt of_bits
valid-plain nan v = absurd (true≢false (sym v))
valid-plain (inf s) v = absurd (true≢false (sym v))
valid-plain (fin true n d) v = absurd (true≢false (sym v))
valid-plain (fin false n d) v = tt

pub record Tested (c : Cell) (k : Float) (xs : List Float) : Type 0 where
  pub bounds : bound_over c ≡ false
  pub is-valid : valid c ≡ true
  pub within : any_over max_coordinate xs ≡ false
  pub reach : sound_reach k ≡ true

pub tested-of : (c : Cell) (k : Float) (xs : List Float) → bound_over c ≡ false → valid c ≡ true → any_over max_coordinate xs ≡ false → sound_reach k ≡ true → tested c k xs ≡ true
unfolding tested
tested-of c k xs b v w r = rw (b, v, w, r)

-- a frame that none of 1, 2, 3, 4 and 15 refuses, and a cutoff that 16 does not
pub tested-frame : (c : Cell) (k : Float) (xs waters : List Float) → first_refusal (frame_refusals c xs waters) ≡ 0 → sound_reach k ≡ true → tested c k xs ≡ true
tested-frame c k xs waters h r = let a = frame-none c xs waters h in tested-of c k xs a.bounds-within a.cell-valid a.solutes-within r

pub tested-is : (c : Cell) (k : Float) (xs : List Float) → tested c k xs ≡ true → Tested c k xs
unfolding tested
tested-is c k xs h =
    let p = both (not (bound_over c)) (valid c && (not (any_over max_coordinate xs) && sound_reach k)) h in
    let q = both (valid c) (not (any_over max_coordinate xs) && sound_reach k) p.1 in
    let r = both (not (any_over max_coordinate xs)) (sound_reach k) q.1 in
    record { bounds = not-true (bound_over c) p.0; is-valid = q.0; within = not-true (any_over max_coordinate xs) r.0; reach = r.1 }

pub tested-axes : (c : Cell) (k : Float) (xs : List Float) → tested c k xs ≡ true → Axes (extent_of c)
tested-axes c k xs h =
    let t = tested-is c k xs h in
    let e = extent_of c in
    let s = (limited-cell c t.bounds t.is-valid).sides in
    let v = valid-axes c t.is-valid in
    record {
      on-x = record { side = s.on-x; plus = valid-plain e.x v.0 };
      on-y = record { side = s.on-y; plus = valid-plain e.y v.1 };
      on-z = record { side = s.on-z; plus = valid-plain e.z v.2 };
    }

pub tested-atom : (c : Cell) (k : Float) (xs : List Float) → tested c k xs ≡ true → (p : ℕ) → finite_point (point_at xs p) ≡ true → Around 20 (point_at xs p)
tested-atom c k xs h = atom-around xs (tested-is c k xs h).within
