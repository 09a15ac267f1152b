-- docs/RULES.md, 'Touch': true if some picked pair has squared distance at most cutoff x cutoff, in angstrom squared.
-- Definitions only. Assumes nothing.
use Rattle.std.specs.Prelude.{Bool, false, ◌||◌, List, [], ◌∷◌, ℕ, Float}
use Rattle.std.specs.Float.{binary32}
use Rattle.std.specs.Float.Ieee.{mul, le, of_bits}
use Rattle.cell.specs.Cell.{extent_of, distance2, point_at}
use Rattle.pick_lists.specs.Sound.{pick_list}
use Rattle.cell.specs.declared.Vec3.{Vec3}
use Rattle.pick_lists.specs.Input.{Input}

-- the Rust's cutoff, 4.2
abbrev pub rust_cutoff : Float
rust_cutoff = of_bits binary32 0x4086_6666

-- the square of a cutoff, one f32 product
unfoldable pub cutoff2 : Float → Float
cutoff2 k = mul binary32 k k

-- atoms p and q are at most the cutoff k apart, in a cell of extent e
unfoldable pub near : Float → Vec3 → List Float → ℕ → ℕ → Bool
unfolding cutoff2
near k e xs p q = le (distance2 e (point_at xs p) (point_at xs q)) (cutoff2 k)

-- some number of the list passes the test
unfoldable pub any_in : (ℕ → Bool) → List ℕ → Bool
any_in f [] = false
any_in f (q ∷ qs) = f q || any_in f qs

-- some pair of the two lists passes the test
unfoldable pub any_pair : (ℕ → ℕ → Bool) → List ℕ → List ℕ → Bool
unfolding any_in
any_pair f ps qs = any_in (λ p. any_in (f p) qs) ps

-- copies i and j touch, at the cutoff k
unfoldable pub copies_touch : Input → Float → ℕ → ℕ → Bool
unfolding near any_pair pick_list
copies_touch f k i j = any_pair (near k (extent_of f.cell) f.solutes) (pick_list f.starts f.picks i) (pick_list f.starts f.picks j)
