-- Boxes around the picks of a copy, when two boxes are kept apart, and when all separations from one to the other take off the same number of extents. Lengths are in angstrom.
-- Definitions only. Assumes nothing.
use Rattle.std.specs.Prelude.{◌≡◌, Bool, true, not, ◌&&◌, ◌||◌, cond, List, [], ◌∷◌, ℕ, zero, suc, ◌+◌, ◌*◌, ◌<◌, length, get_or, Float}
use Rattle.std.specs.Float.{nan, binary32}
use Rattle.std.specs.Float.Ieee.{neg, sub, mul, lt, le}
use Rattle.floats.specs.Constants.{zero32}
use Rattle.cell.specs.declared.Vec3.{Vec3}
use Rattle.cell.specs.Cell.{image_axis, squared, minus, distance2, point_at, finite_point}
use Rattle.pick_lists.specs.Sound.{pick_list}
use Rattle.gates.specs.declared.AxisTurns.{AxisTurns}
use Rattle.gates.specs.declared.Gate.{Gate}
use Rattle.gates.specs.declared.PerAxis.{PerAxis}
use Rattle.touch.specs.Touch.{cutoff2}
use Rattle.floats.specs.Order.{larger, smaller}
use Rattle.gates.specs.Inner.{turns_of, far_of, far_turns}
use Rattle.spans.specs.declared.Span.{Span}
use Rattle.spans.specs.declared.Level.{Level}

-- ---- the ends of some picks on an axis: 0, 1, 2 are x, y, z
abbrev pub coordinate : List Float → ℕ → ℕ → Float
coordinate xs axis p = get_or xs (p * 3 + axis) nan

-- the least and the greatest of v and the picks' coordinates
unfoldable pub least_from : List Float → ℕ → Float → List ℕ → Float
least_from xs axis v [] = v
least_from xs axis v (p ∷ ps) = least_from xs axis (smaller v (coordinate xs axis p)) ps

unfoldable pub greatest_from : List Float → ℕ → Float → List ℕ → Float
greatest_from xs axis v [] = v
greatest_from xs axis v (p ∷ ps) = greatest_from xs axis (larger v (coordinate xs axis p)) ps

-- of a list that is not empty
unfoldable pub least_of : List Float → ℕ → List ℕ → Float
unfolding least_from
least_of xs axis ps = least_from xs axis (coordinate xs axis (get_or ps 0 0)) ps

unfoldable pub greatest_of : List Float → ℕ → List ℕ → Float
unfolding greatest_from
greatest_of xs axis ps = greatest_from xs axis (coordinate xs axis (get_or ps 0 0)) ps

-- ---- boxes
-- the least and the greatest coordinates of the picks
unfoldable pub span_of : List Float → List ℕ → Span
unfolding least_of greatest_of
span_of xs ps =
    record {
      low = record { x = least_of xs 0 ps; y = least_of xs 1 ps; z = least_of xs 2 ps };
      high = record { x = greatest_of xs 0 ps; y = greatest_of xs 1 ps; z = greatest_of xs 2 ps };
    }

-- the box of one point
abbrev pub point_span : Vec3 → Span
point_span p = record { low = p; high = p }

-- on some axis a test rejects every separation from a point of b to a point of c
unfoldable pub apart_by : (Float → Float → Bool) → (Float → Float → Bool) → (Float → Float → Bool) → Span → Span → Bool
apart_by x y z b c =
    x (sub binary32 c.low.x b.high.x) (sub binary32 c.high.x b.low.x)
    || (y (sub binary32 c.low.y b.high.y) (sub binary32 c.high.y b.low.y)
    || z (sub binary32 c.low.z b.high.z) (sub binary32 c.high.z b.low.z))

-- by what each axis has for its test
abbrev pub apart_on : {A : Type 0} → (A → Float → Float → Bool) → PerAxis A → Span → Span → Bool
apart_on f g = apart_by (f g.x) (f g.y) (f g.z)

-- by gates
abbrev pub apart_of : PerAxis Gate → Span → Span → Bool
apart_of = apart_on far_of

-- by the gates of many turns
abbrev pub apart_turns : PerAxis AxisTurns → Span → Span → Bool
apart_turns = apart_on far_turns

-- a test keeps copy j apart from the box b
abbrev pub apart_from : (Span → Span → Bool) → List Float → List ℕ → List ℕ → Span → ℕ → Bool
apart_from f xs starts picks b j = f b (span_of xs (pick_list starts picks j))

-- the boxes stand over an extent apart on some axis
unfoldable pub outside_of : Vec3 → Span → Span → Bool
outside_of e b c =
    (lt e.x (sub binary32 c.low.x b.high.x) || lt e.x (sub binary32 b.low.x c.high.x))
    || ((lt e.y (sub binary32 c.low.y b.high.y) || lt e.y (sub binary32 b.low.y c.high.y))
    || (lt e.z (sub binary32 c.low.z b.high.z) || lt e.z (sub binary32 b.low.z c.high.z)))

-- ---- boxes on a level: all separations from one to the other take off the same number of extents
-- on an axis: the least and the greatest separation do
unfoldable pub level_axis : Float → Float → Float → Bool
level_axis e lo hi = le (turns_of hi e) (turns_of lo e)

-- on which axes they are, and what the images there are less than the separations
unfoldable pub level_of : Vec3 → Span → Span → Level
level_of e b c =
    record {
      x = level_axis e.x (sub binary32 c.low.x b.high.x) (sub binary32 c.high.x b.low.x);
      y = level_axis e.y (sub binary32 c.low.y b.high.y) (sub binary32 c.high.y b.low.y);
      z = level_axis e.z (sub binary32 c.low.z b.high.z) (sub binary32 c.high.z b.low.z);
      by = record {
        x = mul binary32 e.x (turns_of (sub binary32 c.low.x b.high.x) e.x);
        y = mul binary32 e.y (turns_of (sub binary32 c.low.y b.high.y) e.y);
        z = mul binary32 e.z (turns_of (sub binary32 c.low.z b.high.z) e.z);
      };
    }

-- the axis is one on which the boxes are on a level, and the separations from lo to hi have images clear of the cutoff k there
unfoldable pub clear_by : Bool → Float → Float → Float → Float → Bool
unfolding larger
clear_by level k by lo hi =
    let gap = larger (sub binary32 lo by) (neg (sub binary32 hi by)) in
    level && (lt zero32 gap && lt (cutoff2 k) (mul binary32 gap gap))

-- a point that is far from the whole box c
unfoldable pub passed_over : Float → Level → Vec3 → Span → Bool
unfolding clear_by
passed_over k l p c = apart_by (clear_by l.x k l.by.x) (clear_by l.y k l.by.y) (clear_by l.z k l.by.z) (point_span p) c

-- the image of d is over the cutoff k on an axis of extent e
unfoldable pub over_axis : Float → Float → Float → Bool
over_axis k d e = lt (cutoff2 k) (mul binary32 (image_axis d e) (image_axis d e))

-- points p and q are at most the cutoff apart, an axis at a time
unfoldable pub near_by : Float → Vec3 → Vec3 → Vec3 → Bool
unfolding over_axis
near_by k e p q =
    let d = minus q p in
    not (over_axis k d.x e.x) && (not (over_axis k d.y e.y) && (not (over_axis k d.z e.z) && le (distance2 e p q) (cutoff2 k)))

-- by the level, where the boxes are on one on all axes, or by the minimum image
unfoldable pub near_on : Float → Vec3 → Level → Vec3 → Vec3 → Bool
unfolding near_by
near_on k e l p q = cond (l.x && (l.y && l.z)) (le (squared (minus (minus q p) l.by)) (cutoff2 k)) (near_by k e p q)

-- the first number from j on that fails a test, or the one after the k numbers from j on
unfoldable pub first_past : (ℕ → Bool) → ℕ → ℕ → ℕ
first_past f zero j = j
first_past f (suc k) j = cond (f j) (first_past f k (suc j)) j

-- each pick names a finite atom
abbrev pub FinitePicks : List Float → List ℕ → Type 0
FinitePicks xs ps = (k : ℕ) → k < length ps → (get_or ps k 0 * 3 + 2 < length xs) × (finite_point (point_at xs (get_or ps k 0)) ≡ true)
