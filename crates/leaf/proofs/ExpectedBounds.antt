-- What is expected is finite: in a cell within the limits the density is 2 ^ 39 at most, the volume of a box with sides 2 ^ 17 at most
-- 2 ^ 51, and with its shell 2 ^ 54. Assumes nothing.
use mathlib.Core.Path.{◌≡◌, refl}
use mathlib.Core.Bool.{Bool, true, false, cond}
use Prim.Native.Nat.{ℕ, ◌+◌, ◌*◌, ◌^◌, ◌≤◌, ◌<◌}
use native.Mathlib.Omega.{arith}
use borrow.Author.Tests.{ltb-false}
use lib.Dec.{lit<, lit≤}
use lib.Ieee.{Float, nan, inf, fin, binary32, up, down, add, mul, lt, of_int, of_bits, of_fields, round, size, span, climb, units, odd}
use lib.Ieee.Fits.{down_pos}
use Rattle.base.specs.Limits.{max_atoms}
use Rattle.floats.proofs.Bounds.{Within, exact-pow, round-within}
use Rattle.floats.proofs.Quotients.{AtLeast, div-within}
use Rattle.cell.specs.declared.Vec3.{Vec3}
use Rattle.cell.specs.declared.Cell.{Cell}
use Rattle.cell.specs.Cell.{epsilon, extent_of, volume_of}
use Rattle.cell.proofs.Finite.{Around, Sides, pow_more, add-pow, mul-pow, volume-within}
use Rattle.frame_limits.proofs.FiniteFrame.{Limited}
use Rattle.bounds.specs.declared.OctreeBounds.{OctreeBounds}
use Rattle.floats.specs.Order.{smaller, larger}
use Rattle.leaf.specs.Leaf.{twice_shell, expanded, room_volume, density_of}

-- ---- volumes
volume-pow : (k : ℕ) (e : Vec3) → k + k + k ≤ 127 → Around k e → Within (2 ^ (k + k + k)) (volume_of e)
unfolding volume_of
volume-pow k e h a = mul-pow (k + k) k (mul binary32 e.x e.y) e.z h (mul-pow k k e.x e.y (omega arith) a.on-x a.on-y) a.on-z

pub cond-within : (B : ℕ) (t : Bool) (x y : Float) → Within B x → Within B y → Within B (cond t x y)
cond-within B true x y p q = p
cond-within B false x y p q = q

-- twice the shell is 8.4
shell-within : Within (2 ^ 4) twice_shell
unfolding of_bits of_fields mul round size span climb units odd
shell-within = lit≤ tt

-- a side with the shell on both ends, at most the cell's
side-within : (s e : Float) → Within (2 ^ 17) s → Within (2 ^ 17) e → Within (2 ^ 18) (smaller (add binary32 s twice_shell) e)
unfolding smaller
side-within s e ws we =
    cond-within (2 ^ 18) (lt e (add binary32 s twice_shell)) e (add binary32 s twice_shell) (pow_more e 17 18 (lit≤ tt) we)
    (add-pow 17 4 18 s twice_shell (lit< tt) (lit< tt) (lit≤ tt) ws shell-within)

expanded-around : (c : Cell) (b : OctreeBounds) → Sides (extent_of c) → Around 17 b.extent → Around 18 (expanded c b)
unfolding expanded
expanded-around c b s a =
    record {
      on-x = side-within b.extent.x (extent_of c).x a.on-x s.on-x.within;
      on-y = side-within b.extent.y (extent_of c).y a.on-y s.on-y.within;
      on-z = side-within b.extent.z (extent_of c).z a.on-z s.on-z.within;
    }

-- ---- the density is 2 ^ 39 at most
volume-at-least : (B : ℕ) (v : Float) → Within B v → lt v epsilon ≡ false → AtLeast 23 v
unfolding lt of_bits of_fields
volume-at-least B nan w h = absurd w
volume-at-least B (inf s) w h = absurd w
volume-at-least B (fin true m e) w h = absurd (never (m * up e * 2 ^ 23) (down e) (down_pos e) (ltb-false 0 (m * up e * 2 ^ 23 + 1 * down e) h))
  where
    never : (a d : ℕ) → 0 < d → a + 1 * d ≤ 0 → ⊥
    never a d p q = omega arith
volume-at-least B (fin false m e) w h = tidy (m * up e) (down e) (ltb-false (m * up e * 2 ^ 23) (1 * down e) h)
  where
    tidy : (a d : ℕ) → 1 * d ≤ a * 2 ^ 23 → d ≤ a * 2 ^ 23
    tidy a d p = omega arith

epsilon-at-least : AtLeast 23 epsilon
unfolding of_bits of_fields
epsilon-at-least = lit≤ tt

room-at-least : (c : Cell) → Limited c → AtLeast 23 (room_volume c)
unfolding room_volume larger
room-at-least c l = by-test (lt (volume_of (extent_of c)) epsilon) refl
  where
    volume : Within (2 ^ 51) (volume_of (extent_of c))
    volume = volume-within (extent_of c) l.sides

    by-test : (t : Bool) → lt (volume_of (extent_of c)) epsilon ≡ t → AtLeast 23 (cond t epsilon (volume_of (extent_of c)))
    by-test true h = epsilon-at-least
    by-test false h = volume-at-least (2 ^ 51) (volume_of (extent_of c)) volume h

density-within : (c : Cell) (m : ℕ) → Limited c → m ≤ max_atoms → Within (2 ^ 39) (density_of c m)
unfolding density_of of_int
density-within c m l h =
    div-within binary32 (round binary32 false m 1) (room_volume c) (2 ^ 16) 23 (exact-pow binary32 39 (lit≤ tt))
    (round-within binary32 false m 1 (2 ^ 16) (lit< tt) (exact-pow binary32 16 (lit≤ tt)) (omega arith)) (room-at-least c l)

-- ---- what is expected in a box, and in the box with its shell
pub expected-within :
    (c : Cell) (b : OctreeBounds) (m : ℕ) → Limited c → Around 17 b.extent → m ≤ max_atoms →
    Within (2 ^ 100) (mul binary32 (density_of c m) (volume_of b.extent)) × Within (2 ^ 100) (mul binary32 (density_of c m) (volume_of (expanded c b)))
expected-within c b m l a few =
    let density = density_of c m in
    let d = density-within c m l few in
    let own = mul-pow 39 51 density (volume_of b.extent) (lit≤ tt) d (volume-pow 17 b.extent (lit≤ tt) a) in
    let shell = mul-pow 39 54 density (volume_of (expanded c b)) (lit≤ tt) d (volume-pow 18 (expanded c b) (lit≤ tt) (expanded-around c b l.sides a)) in
    (pow_more (mul binary32 density (volume_of b.extent)) 90 100 (lit≤ tt) own, pow_more (mul binary32 density (volume_of (expanded c b))) 93 100 (lit≤ tt) shell)
