-- docs/RULES.md, 'Separation both ways round': what is seen from one end of a pair is seen from the other. Claims about the definitions that the promises cite,
-- proved in proofs/Mirror.antt. Definitions only. Assumes nothing.
use Rattle.std.specs.Prelude.{◌≡◌, Bool, true, ◌&&◌, ℕ, ◌<◌, length, get_or, Float}
use Rattle.std.specs.Float.Ieee.{neg, eq}
use Rattle.base.specs.Refusals.{first_refusal}
use Rattle.cell.specs.declared.Cell.{Cell}
use Rattle.cell.specs.declared.Vec3.{Vec3}
use Rattle.cell.specs.Cell.{extent_of, valid, min_image, minus, distance2, point_at, finite_point}
use Rattle.pick_lists.specs.Sound.{pick_list}
use Rattle.pick_lists.specs.Input.{Input, input_refusals}
use Rattle.touch.specs.Touch.{near, any_pair, copies_touch}

-- -d
unfoldable pub opposite : Vec3 → Vec3
opposite d = record { x = neg d.x; y = neg d.y; z = neg d.z }

-- a and b are the same numbers on all axes: -0 is 0, and a NaN is no number
unfoldable pub same_numbers : Vec3 → Vec3 → Bool
same_numbers a b = eq a.x b.x && (eq a.y b.y && eq a.z b.z)

-- whether copies i and j touch at the cutoff k, with every separation taken the other way round, from the pick of j to the pick of i
unfoldable pub touch_reversed : Input → Float → ℕ → ℕ → Bool
unfolding near any_pair pick_list
touch_reversed f k i j = any_pair (λ p q. near k (extent_of f.cell) f.solutes q p) (pick_list f.starts f.picks i) (pick_list f.starts f.picks j)

-- the atom that pick k names
abbrev pub pick_point : Input → ℕ → Vec3
pick_point f k = point_at f.solutes (get_or f.picks k 0)

-- the minimum image of pick l, seen from pick k
abbrev pub pick_image : Input → ℕ → ℕ → Vec3
pick_image f k l = min_image (extent_of f.cell) (minus (pick_point f l) (pick_point f k))

-- the law for one input: of any two picks, and of any two copies
pub record Mirrored (f : Input) : Type 0 where
  pub images : (k l : ℕ) → k < length f.picks → l < length f.picks → same_numbers (pick_image f l k) (opposite (pick_image f k l)) ≡ true
  pub distances : (k l : ℕ) → distance2 (extent_of f.cell) (pick_point f k) (pick_point f l) ≡ distance2 (extent_of f.cell) (pick_point f l) (pick_point f k)
  pub touches : (k : Float) (i j : ℕ) → copies_touch f k i j ≡ copies_touch f k j i

-- THE MIRROR LAW, in three parts: images, squared distances, touch
pub record MirrorLaw : Type 0 where
  -- as numbers, in a valid cell: the minimum image of a finite separation negated is the negated minimum image
  pub image : (c : Cell) (d : Vec3) → valid c ≡ true → finite_point d ≡ true
      → same_numbers (min_image (extent_of c) (opposite d)) (opposite (min_image (extent_of c) d)) ≡ true
  -- and so is that of the separation seen from the other end, which is not the negated one where it is 0: it is +0 both ways
  pub ends : (c : Cell) (p q : Vec3) → valid c ≡ true → finite_point (minus q p) ≡ true
      → same_numbers (min_image (extent_of c) (minus p q)) (opposite (min_image (extent_of c) (minus q p))) ≡ true
  -- bit for bit, in any extent and of any points: a squared distance is the same from either end
  pub distance : (e p q : Vec3) → distance2 e p q ≡ distance2 e q p
  -- on any input, at any cutoff: touch is symmetric
  pub touch : (f : Input) (k : Float) (i j : ℕ) → copies_touch f k i j ≡ copies_touch f k j i
  -- and a search that takes every separation the other way round is the same test, in whatever is built on it
  pub search : (f : Input) (k : Float) → touch_reversed f k ≡ copies_touch f k
  -- for a caller: all of it for input that none of 1, 2, 3, 4, 15 and 8 refuses
  pub input : (f : Input) → first_refusal (input_refusals f) ≡ 0 → Mirrored f
