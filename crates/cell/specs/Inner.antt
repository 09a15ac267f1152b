-- What only contracts of inner functions cite. Definitions only. Assumes nothing.
use Rattle.std.specs.Prelude.{Bool, ◌&&◌, Float}
use Rattle.std.specs.Float.Ieee.{neg, lt}
use Rattle.std.specs.Float.Ieee.Scale.{finite}
use Rattle.cell.specs.declared.Vec3.{Vec3}

-- e is finite, and d is below it in size
unfoldable pub within_axis : Float → Float → Bool
within_axis d e = finite e && (lt d e && lt (neg e) d)

-- on all axes
unfoldable pub within_all : Vec3 → Vec3 → Bool
unfolding within_axis
within_all d e = within_axis d.x e.x && (within_axis d.y e.y && within_axis d.z e.z)
