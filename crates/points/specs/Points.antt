-- docs/RULES.md, 'Octree': tree centers are wrapped once more; finite waters are wrapped and numbered without the others.
-- Coordinate lists, x y z in turn. Definitions only. Assumes nothing.
use Rattle.std.specs.Prelude.{cond, List, [], ◌∷◌, ℕ, zero, suc, ◌+◌, ◌/◌, length, Float}
use Rattle.cell.specs.declared.Vec3.{Vec3}
use Rattle.cell.specs.declared.Cell.{Cell}
use Rattle.cell.specs.Cell.{wrap, point_at, finite_point}
use Rattle.pick_lists.specs.Sound.{copies}
use Rattle.pick_lists.specs.Input.{Input}
use Rattle.centers.specs.Centers.{centers_of}

-- x y z of a point before a list
abbrev pub point_before : Vec3 → List Float → List Float
point_before p xs = p.x ∷ p.y ∷ p.z ∷ xs

-- n points from point i on, each wrapped
unfoldable pub wrap_from : Cell → List Float → ℕ → ℕ → List Float
wrap_from c xs zero i = []
wrap_from c xs (suc n) i = point_before (wrap c (point_at xs i)) (wrap_from c xs n (i + 1))

-- the finite ones among n points from point i on, each wrapped
unfoldable pub wrap_finite_from : Cell → List Float → ℕ → ℕ → List Float
wrap_finite_from c xs zero i = []
wrap_finite_from c xs (suc n) i =
    let rest = wrap_finite_from c xs n (i + 1) in
    cond (finite_point (point_at xs i)) (point_before (wrap c (point_at xs i)) rest) rest

unfoldable pub tree_centers : Input → List Float
unfolding wrap_from
tree_centers f = wrap_from f.cell (centers_of f) (copies f.starts) 0

unfoldable pub tree_waters : Cell → List Float → List Float
unfolding wrap_finite_from
tree_waters c waters = wrap_finite_from c waters (length waters / 3) 0

-- how many of n points from point i on are finite
unfoldable pub finite_count : List Float → ℕ → ℕ → ℕ
finite_count xs zero i = 0
finite_count xs (suc n) i = cond (finite_point (point_at xs i)) 1 0 + finite_count xs n (i + 1)

unfoldable pub finite_waters : List Float → ℕ
unfolding finite_count
finite_waters waters = finite_count waters (length waters / 3) 0
