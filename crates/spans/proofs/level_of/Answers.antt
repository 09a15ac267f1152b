-- `spans::level_of` meets its contract: the ends of each axis. Assumes nothing.
use mathlib.Core.Path.{◌≡◌}
use mathlib.Core.Bool.{Bool}
use lib.Ieee.{Float, binary32, mul}
use Rattle.cell.specs.declared.Vec3.{Vec3}
use Rattle.spans.specs.declared.Level.{Level}
use Rattle.spans.specs.Inner.{level_of}
use Rattle.spans.proofs.level_of.Goals as goal

-- part by part
same : (e : Vec3) {a a' b b' c c' : Bool} {x x' y y' z z' : Float} → a ≡ a' → b ≡ b' → c ≡ c' → x ≡ x' → y ≡ y' → z ≡ z'
    → ◌≡◌ {A = Level} (record { x = a; y = b; z = c; by = record { x = mul binary32 e.x x; y = mul binary32 e.y y; z = mul binary32 e.z z } })
    (record { x = a'; y = b'; z = c'; by = record { x = mul binary32 e.x x'; y = mul binary32 e.y y'; z = mul binary32 e.z z' } })
same e p q r s t u = rw (p, q, r, s, t, u)

pub returns : goal.returns
unfolding level_of
returns c = same _ c.level_axis.ensures c.level_axis-2.ensures c.level_axis-3.ensures c.turns.ensures c.turns-2.ensures c.turns-3.ensures
