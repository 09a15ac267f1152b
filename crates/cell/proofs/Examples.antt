-- The checked frames (docs/RULES.md) that the cell alone answers, worked out by the definitions: `checked`, one statement for the lot. And one axis where
-- a division is saved, and where it must not be: `edges`. Points and cells are alike on the three axes and given by an axis's f32 bits. Assumes nothing.
use mathlib.Core.Path.{◌≡◌, refl}
use mathlib.Core.Bool.{true, false}
use Prim.Native.Nat.{ℕ}
use lib.Ieee.{nan, binary32, of_bits, neg, add, sub, mul, div, lt, le}
use Rattle.floats.specs.Whole.{floor_of, round_of}
use Rattle.floats.proofs.Folding.{fold_of}
use Rattle.cell.specs.declared.Vec3.{Vec3}
use Rattle.cell.specs.declared.Cell.{Cell}
use Rattle.cell.specs.Cell.{extent_of, valid_axis, valid, wrap_axis, wrap, image_axis, min_image}

-- b on each axis, and the cell from 0 to b
abbrev pub alike : ℕ → Vec3
alike b = record { x = of_bits binary32 b; y = of_bits binary32 b; z = of_bits binary32 b }

abbrev pub up_to : ℕ → Cell
up_to b = record { low = alike 0; high = alike b }

-- 10, 5, -5, 4 and -2 ^ -40
abbrev pub ten : ℕ
ten = 0x4120_0000

abbrev pub five : ℕ
five = 0x40a0_0000

abbrev pub minus_five : ℕ
minus_five = 0xc0a0_0000

abbrev pub four : ℕ
four = 0x4080_0000

abbrev pub just_below_zero : ℕ
just_below_zero = 0xab80_0000

pub record Checked : Type 0 where
  -- in the cell 0..10, -2 ^ -40 wraps to 10 and 10 wraps to 0
  pub below-wraps-high : wrap (up_to ten) (alike just_below_zero) ≡ alike ten
  pub high-wraps-low : wrap (up_to ten) (alike ten) ≡ alike 0
  -- at extent 10 the minimum image of 5 is -5, of -5 is 5, of 4 is 4
  pub half-goes-down : min_image (alike ten) (alike five) ≡ alike minus_five
  pub half-goes-up : min_image (alike ten) (alike minus_five) ≡ alike five
  pub below-half-stays : min_image (alike ten) (alike four) ≡ alike four
  -- extents 2 ^ -23 are not valid, 1.5 * 2 ^ -23 are
  pub epsilon-refused : valid (up_to 0x3400_0000) ≡ false
  pub above-epsilon-valid : valid (up_to 0x3440_0000) ≡ true

pub checked : Checked
unfolding wrap wrap_axis floor_of min_image image_axis round_of valid valid_axis extent_of of_bits sub mul div lt
checked =
    record {
      below-wraps-high = refl;
      high-wraps-low = refl;
      half-goes-down = refl;
      half-goes-up = refl;
      below-half-stays = refl;
      epsilon-refused = refl;
      above-epsilon-valid = refl;
    }

-- one axis at the edges of what is found without a division: zeros, halves, a separation over an extent, extents that are no length; and in the
-- last three places what the comparisons alone would give (`fold_of`)
pub record Edges : Type 0 where
  -- at extent 10 the image of -0 is +0, and of the numbers next to 5 and -5 the one below in size stays
  pub minus-zero-loses-sign : image_axis (of_bits binary32 0x8000_0000) (of_bits binary32 ten) ≡ of_bits binary32 0
  pub under-half-stays : image_axis (of_bits binary32 0x409f_ffff) (of_bits binary32 ten) ≡ of_bits binary32 0x409f_ffff
  pub over-minus-half-stays : image_axis (of_bits binary32 0xc09f_ffff) (of_bits binary32 ten) ≡ of_bits binary32 0xc09f_ffff
  -- at extent 16 that of -25 is 7, not -9
  pub two-extents : image_axis (of_bits binary32 0xc1c8_0000) (of_bits binary32 0x4180_0000) ≡ of_bits binary32 0x40e0_0000
  pub two-extents-folded : fold_of binary32 (of_bits binary32 0xc1c8_0000) (of_bits binary32 0x4180_0000) ≡ of_bits binary32 0xc110_0000
  -- of 1 at an infinite extent it is no number, not 1, and of 0 at extent 0 not 0
  pub infinite-extent : image_axis (of_bits binary32 0x3f80_0000) (of_bits binary32 0x7f80_0000) ≡ nan
  pub infinite-extent-folded : fold_of binary32 (of_bits binary32 0x3f80_0000) (of_bits binary32 0x7f80_0000) ≡ of_bits binary32 0x3f80_0000
  pub no-extent : image_axis (of_bits binary32 0) (of_bits binary32 0) ≡ nan
  pub no-extent-folded : fold_of binary32 (of_bits binary32 0) (of_bits binary32 0) ≡ of_bits binary32 0

pub edges : Edges
unfolding image_axis round_of of_bits neg add sub mul div lt le
edges =
    record {
      minus-zero-loses-sign = refl;
      under-half-stays = refl;
      over-minus-half-stays = refl;
      two-extents = refl;
      two-extents-folded = refl;
      infinite-extent = refl;
      infinite-extent-folded = refl;
      no-extent = refl;
      no-extent-folded = refl;
    }
