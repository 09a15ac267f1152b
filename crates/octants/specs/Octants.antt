-- docs/RULES.md, 'Octree': the points of an octant. Splitting is stable: they keep the order in which the node has them.
-- Definitions only. Assumes nothing.
use Rattle.std.specs.Prelude.{Bool, cond, List, [], ◌∷◌, ℕ, eqb, Float}
use Rattle.cell.specs.declared.Vec3.{Vec3}
use Rattle.bounds.specs.Bounds.{octant_at}

-- the numbers that pass a test, in their order
unfoldable pub passing : (ℕ → Bool) → List ℕ → List ℕ
passing p [] = []
passing p (v ∷ vs) = cond (p v) (v ∷ passing p vs) (passing p vs)

-- point v lies in octant o about the center c
abbrev pub in_octant : List Float → Vec3 → ℕ → ℕ → Bool
in_octant points c o v = eqb (octant_at points c v) o

-- the points vs that lie in octant o
abbrev pub octant_points : List Float → Vec3 → ℕ → List ℕ → List ℕ
octant_points points c o vs = passing (in_octant points c o) vs
