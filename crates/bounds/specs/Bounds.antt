-- docs/RULES.md, 'Octree': a box carries low, high, center and extent as floats; octant bits 0, 1, 2 are x, y, z above the box's
-- center, strictly. Lengths are in angstrom. Every f32 operation rounds once, left to right. Definitions only. Assumes nothing.
use Rattle.std.specs.Prelude.{Bool, cond, ◌||◌, List, ℕ, ◌+◌, ◌*◌, ltb, eqb, length, Float}
use Rattle.std.specs.Int.Bits.{bit_and}
use Rattle.std.specs.Float.{binary32}
use Rattle.std.specs.Float.Ieee.{add, sub, mul, lt, of_bits}
use Rattle.cell.specs.Cell.{point_at}
use Rattle.cell.specs.declared.Vec3.{Vec3}
use Rattle.cell.specs.declared.Cell.{Cell}
use Rattle.bounds.specs.declared.OctreeBounds.{OctreeBounds}

-- ---- boxes
-- (low + high) * 0.5
abbrev pub middle : Float → Float → Float
middle l h = mul binary32 (add binary32 l h) (of_bits binary32 0x3f00_0000)

-- the box between two corners
abbrev pub box_between : Vec3 → Vec3 → OctreeBounds
box_between l h =
    record {
      low = l;
      high = h;
      center = record { x = middle l.x h.x; y = middle l.y h.y; z = middle l.z h.z };
      extent = record { x = sub binary32 h.x l.x; y = sub binary32 h.y l.y; z = sub binary32 h.z l.z };
    }

-- the box of the whole cell
abbrev pub cell_box : Cell → OctreeBounds
cell_box c = box_between c.low c.high

-- on each axis p, or q where the octant's bit is set
abbrev pub corner : ℕ → Vec3 → Vec3 → Vec3
corner o p q =
    record {
      x = cond (eqb (bit_and o 1) 0) p.x q.x;
      y = cond (eqb (bit_and o 2) 0) p.y q.y;
      z = cond (eqb (bit_and o 4) 0) p.z q.z;
    }

-- the child box of an octant
unfoldable pub child_of : OctreeBounds → ℕ → OctreeBounds
child_of b o = box_between (corner o b.low b.center) (corner o b.center b.high)

-- a box is split only where its widest side is over 0.75
abbrev pub least_width : Float
least_width = of_bits binary32 0x3f40_0000

unfoldable pub wide_box : OctreeBounds → Bool
wide_box b = lt least_width b.extent.x || (lt least_width b.extent.y || lt least_width b.extent.z)

-- ---- octants
-- 1 where a coordinate is strictly above the center's
abbrev pub above_of : Float → Float → ℕ
above_of p c = cond (lt c p) 1 0

-- the octant of a point p about a center c
abbrev pub octant_of : Vec3 → Vec3 → ℕ
octant_of c p = above_of p.x c.x + 2 * above_of p.y c.y + 4 * above_of p.z c.z

-- the octant of point i of a coordinate list; 0 past the list
unfoldable pub octant_at : List Float → Vec3 → ℕ → ℕ
octant_at points c i = cond (ltb (i * 3 + 2) (length points)) (octant_of c (point_at points i)) 0
