-- The checked frames (docs/RULES.md) on this layer, worked out by the definitions: `checked`, one statement for the lot. Floats are given by their bits. Assumes nothing.
use mathlib.Core.Path.{◌≡◌, refl}
use mathlib.Core.List.{List, [], ◌∷◌}
use Prim.Native.Nat.{ℕ}
use lib.Ieee.{Float, binary32, of_bits, of_int, add, sub, mul, div, lt, le}
use Rattle.pick_lists.specs.Input.{given}
use Rattle.floats.specs.Convert.{narrow_of}
use Rattle.floats.specs.Root.{sqrt_of}
use Rattle.floats.specs.Whole.{floor_of, round_of}
use Rattle.cell.specs.Cell.{extent_of, wrap_axis, wrap, image_axis, min_image, squared, minus, distance2, point_at}
use Rattle.cell.proofs.Examples.{up_to}
use Rattle.pick_lists.specs.Sound.{copies, pick_list}
use Rattle.centers.specs.Centers.{plus, divided_by, unwrapped, sum_from, anchor_of, center_of, centers_from, centers_of}
use Rattle.dispersion.specs.Dispersion.{clamped, expected_of, row_sum, pair_sum, observed_of, score_of, dispersion_of}

-- 16, and the solutes (2, 2, 2) and (4, 2, 2), a copy each
abbrev pub sixteen : ℕ
sixteen = 0x4180_0000

abbrev pub two-atoms : List Float
two-atoms =
    of_bits binary32 0x4000_0000 ∷ of_bits binary32 0x4000_0000 ∷ of_bits binary32 0x4000_0000 ∷ of_bits binary32 0x4080_0000 ∷ of_bits binary32 0x4000_0000 ∷ of_bits binary32 0x4000_0000 ∷ []

pub record Checked : Type 0 where
  -- extents of 1.5 * 2 ^ -23: two copies have the dispersion 0, wherever they are
  pub least-extent : (xs : List Float) (starts picks : List ℕ) → copies starts ≡ 2 → dispersion_of (given (up_to 0x3440_0000) xs [] starts picks) ≡ of_bits binary32 0
  -- the listed frame: 0.25
  pub listed : dispersion_of (given (up_to sixteen) two-atoms [] (0 ∷ 1 ∷ 2 ∷ []) (0 ∷ 1 ∷ [])) ≡ of_bits binary32 0x3e80_0000
  -- both its atoms in one copy, which is alone: 1, and their mean as center
  pub alone : dispersion_of (given (up_to sixteen) two-atoms [] (0 ∷ 2 ∷ []) (0 ∷ 1 ∷ [])) ≡ of_bits binary32 0x3f80_0000
  pub mean : centers_of (given (up_to sixteen) two-atoms [] (0 ∷ 2 ∷ []) (0 ∷ 1 ∷ [])) ≡ of_bits binary32 0x4040_0000 ∷ of_bits binary32 0x4000_0000 ∷ of_bits binary32 0x4000_0000 ∷ []

least : (xs : List Float) (starts picks : List ℕ) → copies starts ≡ 2 → dispersion_of (given (up_to 0x3440_0000) xs [] starts picks) ≡ of_bits binary32 0
unfolding dispersion_of score_of expected_of sqrt_of squared extent_of of_bits add sub mul div le
least xs starts picks h = rw h

pub checked : Checked
unfolding dispersion_of score_of clamped expected_of observed_of pair_sum row_sum narrow_of sqrt_of centers_of centers_from center_of anchor_of divided_by sum_from unwrapped plus pick_list distance2 squared minus min_image image_axis wrap wrap_axis extent_of point_at floor_of round_of of_bits of_int add sub mul div lt le
checked = record { least-extent = least; listed = refl; alone = refl; mean = refl }
