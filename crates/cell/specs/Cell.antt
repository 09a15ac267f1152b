-- docs/RULES.md, 'Cell': extent, validity, wrap, minimum image, squared distance, volume. Lengths are in angstrom.
-- Every f32 operation rounds once, left to right. Definitions only. Assumes nothing.
use Rattle.std.specs.Prelude.{Bool, ◌&&◌, List, ℕ, ◌+◌, ◌*◌, get_or, Float}
use Rattle.std.specs.Float.{nan, binary32}
use Rattle.std.specs.Float.Ieee.{add, sub, mul, div, lt, of_bits}
use Rattle.std.specs.Float.Ieee.Scale.{finite}
use Rattle.floats.specs.Whole.{floor_of, round_of}
use Rattle.cell.specs.declared.Vec3.{Vec3}
use Rattle.cell.specs.declared.Cell.{Cell}

-- f32 EPSILON, 2 ^ -23
abbrev pub epsilon : Float
epsilon = of_bits binary32 0x3400_0000

-- ---- one axis: a coordinate p, the cell's low bound, its extent e, a separation d
unfoldable pub wrap_axis : Float → Float → Float → Float
wrap_axis p low e = sub binary32 p (mul binary32 e (floor_of binary32 (div binary32 (sub binary32 p low) e)))

unfoldable pub image_axis : Float → Float → Float
image_axis d e = sub binary32 d (mul binary32 e (round_of binary32 (div binary32 d e)))

unfoldable pub valid_axis : Float → Bool
valid_axis e = finite e && lt epsilon e

-- ---- all three axes
-- high - low
unfoldable pub extent_of : Cell → Vec3
extent_of c = record { x = sub binary32 c.high.x c.low.x; y = sub binary32 c.high.y c.low.y; z = sub binary32 c.high.z c.low.z }

-- every extent is finite and above EPSILON
unfoldable pub valid : Cell → Bool
unfolding extent_of valid_axis
valid c = valid_axis (extent_of c).x && (valid_axis (extent_of c).y && valid_axis (extent_of c).z)

-- p - extent * floor((p - low) / extent)
unfoldable pub wrap : Cell → Vec3 → Vec3
unfolding extent_of wrap_axis
wrap c p = record { x = wrap_axis p.x c.low.x (extent_of c).x; y = wrap_axis p.y c.low.y (extent_of c).y; z = wrap_axis p.z c.low.z (extent_of c).z }

-- d - extent * round(d / extent), of a separation d
unfoldable pub min_image : Vec3 → Vec3 → Vec3
unfolding image_axis
min_image e d = record { x = image_axis d.x e.x; y = image_axis d.y e.y; z = image_axis d.z e.z }

-- x * x + y * y + z * z
unfoldable pub squared : Vec3 → Float
squared d = add binary32 (add binary32 (mul binary32 d.x d.x) (mul binary32 d.y d.y)) (mul binary32 d.z d.z)

-- q - p
unfoldable pub minus : Vec3 → Vec3 → Vec3
minus q p = record { x = sub binary32 q.x p.x; y = sub binary32 q.y p.y; z = sub binary32 q.z p.z }

-- the squared distance of two points, from p to q, in a cell of extent e
unfoldable pub distance2 : Vec3 → Vec3 → Vec3 → Float
unfolding squared min_image minus
distance2 e p q = squared (min_image e (minus q p))

-- the product of three sides, in order x, y, z
unfoldable pub volume_of : Vec3 → Float
volume_of e = mul binary32 (mul binary32 e.x e.y) e.z

-- ---- points of a coordinate list, x y z in turn
unfoldable pub point_at : List Float → ℕ → Vec3
point_at xs k = record { x = get_or xs (k * 3) nan; y = get_or xs (k * 3 + 1) nan; z = get_or xs (k * 3 + 2) nan }

-- all three coordinates are finite
unfoldable pub finite_point : Vec3 → Bool
finite_point p = finite p.x && (finite p.y && finite p.z)
