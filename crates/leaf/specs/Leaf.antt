-- docs/RULES.md, 'Leaf report': shell, density, occupancy and partition score of a leaf. Lengths are in angstrom.
-- Every f32 operation rounds once, left to right. Definitions only. Assumes nothing.
use Rattle.std.specs.Prelude.{Bool, cond, ◌&&◌, List, ℕ, zero, suc, ◌+◌, leb, pos, Float}
use Rattle.std.specs.Float.{binary32}
use Rattle.std.specs.Float.Ieee.{add, mul, div, neg, le, of_int, of_bits, to_bits}
use Rattle.floats.specs.Root.{sqrt_of}
use Rattle.floats.specs.Order.{larger, smaller}
use Rattle.floats.specs.Constants.{zero32, one32}
use Rattle.cell.specs.declared.Vec3.{Vec3}
use Rattle.cell.specs.declared.Cell.{Cell}
use Rattle.cell.specs.Cell.{epsilon, extent_of, min_image, minus, volume_of, point_at}
use Rattle.dispersion.specs.Dispersion.{clamped}
use Rattle.bounds.specs.declared.OctreeBounds.{OctreeBounds}
use Rattle.leaf.specs.declared.Occupancy.{Occupancy}
use Rattle.leaf.specs.declared.Occupancy.TheVariants.{Dry, Ratio}

-- the shell's width, 4.2, and twice it
abbrev pub shell_width : Float
shell_width = of_bits binary32 0x4086_6666

abbrev pub twice_shell : Float
twice_shell = mul binary32 (of_bits binary32 0x4000_0000) shell_width

abbrev pub half : Float
half = of_bits binary32 0x3f00_0000

-- ---- the shell
-- half a side: extent * 0.5 + 4.2, at most half the cell's
unfoldable pub half_side : Float → Float → Float
unfolding smaller
half_side side cell_side = smaller (add binary32 (mul binary32 side half) shell_width) (mul binary32 cell_side half)

-- |d| is at most h
unfoldable pub within_half : Float → Float → Bool
within_half d h = le d h && le (neg h) d

-- a water's minimum image from the box center is within half on all axes
unfoldable pub in_shell : Cell → OctreeBounds → Vec3 → Bool
unfolding half_side within_half
in_shell c b w =
    let e = extent_of c in
    let d = min_image e (minus w b.center) in
    within_half d.x (half_side b.extent.x e.x) && (within_half d.y (half_side b.extent.y e.y) && within_half d.z (half_side b.extent.z e.z))

-- how many of n waters, from water i on, are in the shell
unfoldable pub shell_from : Cell → OctreeBounds → List Float → ℕ → ℕ → ℕ
unfolding in_shell
shell_from c b ws zero i = 0
shell_from c b ws (suc n) i = cond (in_shell c b (point_at ws i)) 1 0 + shell_from c b ws n (i + 1)

-- each side with the shell on both ends, at most the cell's
unfoldable pub expanded : Cell → OctreeBounds → Vec3
unfolding smaller
expanded c b =
    record {
      x = smaller (add binary32 b.extent.x twice_shell) (extent_of c).x;
      y = smaller (add binary32 b.extent.y twice_shell) (extent_of c).y;
      z = smaller (add binary32 b.extent.z twice_shell) (extent_of c).z;
    }

-- ---- occupancy
-- max(cell volume, EPSILON)
unfoldable pub room_volume : Cell → Float
unfolding larger
room_volume c = larger (volume_of (extent_of c)) epsilon

-- finite waters / max(cell volume, EPSILON)
unfoldable pub density_of : Cell → ℕ → Float
unfolding room_volume
density_of c waters = div binary32 (of_int binary32 (pos waters)) (room_volume c)

-- dry, or observed / max(expected, 0.75)
unfoldable pub occupancy_of : ℕ → Float → Occupancy
unfolding larger
occupancy_of zero expected = Dry
occupancy_of (suc n) expected = Ratio (div binary32 (of_int binary32 (pos (suc n))) (larger (of_bits binary32 0x3f40_0000) expected))

-- a word of the leaf table: the ratio's bits, and 0 for dry
abbrev pub occupancy_word : Occupancy → ℕ
occupancy_word Dry = 0
occupancy_word (Ratio r) = to_bits binary32 r

-- ---- partition score
-- the first of 1, 8, 64, 512, 4096 not below the copies
unfoldable pub reference_leaves : ℕ → ℕ
reference_leaves n = cond (leb n 1) 1 (cond (leb n 8) 8 (cond (leb n 64) 64 (cond (leb n 512) 512 4096)))

unfoldable pub reference_volume : Cell → ℕ → Float
unfolding room_volume reference_leaves
reference_volume c copies = div binary32 (room_volume c) (of_int binary32 (pos (reference_leaves copies)))

-- 0 with a reference at or below EPSILON, otherwise clamped sqrt(leaf volume / reference) x sqrt(1 / centers)
unfoldable pub partition_score : Float → Float → ℕ → Float
partition_score leaf_volume reference centers =
    cond (le reference epsilon) zero32
    (mul binary32 (clamped (sqrt_of binary32 (div binary32 leaf_volume reference))) (sqrt_of binary32 (div binary32 one32 (of_int binary32 (pos centers)))))
