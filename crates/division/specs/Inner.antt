-- What the contracts of dividing a node cite: how many octants it visits, and what becomes of its lists. Definitions only. Assumes nothing.
use Rattle.std.specs.Prelude.{cond, List, [], ◌++◌, ◌≡◌, ℕ, zero, suc, ◌<◌, length, get_or, replicate, Float}
use Rattle.cell.specs.declared.Vec3.{Vec3}
use Rattle.bounds.specs.declared.OctreeBounds.{OctreeBounds}
use Rattle.octants.specs.Octants.{octant_points}
use Rattle.octants.specs.Inner.{lists_from, by_octant}
use Rattle.division.specs.Split.{splits}

-- how many octants a node has to visit, `levels` above depth 14: all 8 where it splits, else none
unfoldable pub octants_of : ℕ → List ℕ → OctreeBounds → ℕ
octants_of zero cs b = 0
octants_of (suc levels) cs b = cond (splits b cs) 8 0

-- what stays of the list of a node that visits r octants: all where it does not split, else nothing
unfoldable pub unsplit : ℕ → List ℕ → List ℕ
unsplit zero l = l
unsplit (suc r) l = []

-- what `divide` leaves of a list l₀ where the node visits r octants; counts of a node that visits none stay zero
pub record Divided (points : List Float) (c : Vec3) (r : ℕ) (l₀ l counts : List ℕ) : Type 0 where
  pub order : l ≡ lists_from (by_octant points c l₀) r ++ unsplit r l₀
  pub count : 0 < r → (o : ℕ) → o < 8 → get_or counts o 0 ≡ length (octant_points points c o l₀)
  pub still : r ≡ 0 → counts ≡ replicate 8 0
