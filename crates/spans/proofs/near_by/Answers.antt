-- `spans::near_by` meets its contract: each way out is a case of the definition. Assumes nothing.
use mathlib.Core.Path.{◌≡◌, sym, ◌∙◌}
use mathlib.Core.Bool.{Bool}
use lib.Ieee.{Float}
use Rattle.cell.specs.declared.Vec3.{Vec3}
use Rattle.touch.specs.Touch.{cutoff2}
use Rattle.spans.specs.Inner.{over_axis, near_by}
use Rattle.spans.proofs.near_by.Goals as goal

-- what an axis of the separation says, it says of the points
of-separation : (on : Vec3 → Float) (k e : Float) {d d' : Vec3} {t b : Bool} → t ≡ over_axis k (on d) e → d ≡ d' → t ≡ b → over_axis k (on d') e ≡ b
of-separation on k e is-t is-d is = rw is-d at (sym is-t ∙ is)

abbrev x-of : Vec3 → Float
x-of d = d.x

abbrev y_of : Vec3 → Float
y_of d = d.y

abbrev z-of : Vec3 → Float
z-of d = d.z

pub returns-then-over_axis : goal.returns-then-over_axis
unfolding near_by
returns-then-over_axis c = rw (of-separation x-of _ _ c.over_axis.ensures c.separation-d.ensures c.if-over_axis.true)

pub returns-then-over_axis-2 : goal.returns-then-over_axis-2
unfolding near_by
returns-then-over_axis-2 c =
    rw (
      of-separation x-of _ _ c.over_axis.ensures c.separation-d.ensures c.if-over_axis.false,
      of-separation y_of _ _ c.over_axis-2.ensures c.separation-d.ensures c.if-over_axis-2.true,
    )

pub returns-then-over_axis-3 : goal.returns-then-over_axis-3
unfolding near_by
returns-then-over_axis-3 c =
    rw (
      of-separation x-of _ _ c.over_axis.ensures c.separation-d.ensures c.if-over_axis.false,
      of-separation y_of _ _ c.over_axis-2.ensures c.separation-d.ensures c.if-over_axis-2.false,
      of-separation z-of _ _ c.over_axis-3.ensures c.separation-d.ensures c.if-over_axis-3.true,
    )

pub returns : goal.returns
unfolding near_by cutoff2
returns c =
    rw (
      of-separation x-of _ _ c.over_axis.ensures c.separation-d.ensures c.if-over_axis.false,
      of-separation y_of _ _ c.over_axis-2.ensures c.separation-d.ensures c.if-over_axis-2.false,
      of-separation z-of _ _ c.over_axis-3.ensures c.separation-d.ensures c.if-over_axis-3.false,
      c.distance_squared.ensures,
    )
