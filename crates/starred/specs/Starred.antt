-- docs/RULES.md, 'Checked frames': the starred ones, by one statement for the lot. Floats are given by their bits; points and cells are
-- alike on the three axes. Definitions only. Assumes nothing.
use Rattle.std.specs.Prelude.{◌≡◌, true, false, List, [], ◌∷◌, ℕ, zero, suc, Float, Ok, None}
use Rattle.std.specs.Float.{binary32}
use Rattle.std.specs.Float.Ieee.{of_bits, to_bits}
use Rattle.floats.specs.Root.{sqrt_of}
use Rattle.cell.specs.declared.Vec3.{Vec3}
use Rattle.cell.specs.declared.Cell.{Cell}
use Rattle.cell.specs.Cell.{extent_of, valid, wrap, min_image}
use Rattle.base.specs.Refusals.{first_refusal}
use Rattle.selection.specs.Selection.{kept_copies}
use Rattle.pick_lists.specs.Sound.{copies}
use Rattle.pick_lists.specs.Input.{given}
use Rattle.dispersion.specs.Dispersion.{dispersion_of}
use Rattle.leaf.specs.Leaf.{reference_volume, partition_score}
use Rattle.mixing.specs.Frame.{Frame, FrameTables, frame_of, limited, frame_answer, frame_after}

-- b on each axis, and the cell from 0 to b
abbrev pub alike : ℕ → Vec3
alike b = record { x = of_bits binary32 b; y = of_bits binary32 b; z = of_bits binary32 b }

abbrev pub up_to : ℕ → Cell
up_to b = record { low = alike 0; high = alike b }

-- n atoms at the origin
unfoldable pub atoms : ℕ → List Float
atoms zero = []
atoms (suc n) = of_bits binary32 0 ∷ of_bits binary32 0 ∷ of_bits binary32 0 ∷ atoms n

-- none of 1, 2, 3, 4 refuses the frame
abbrev pub WithinLimits : Frame → Type 0
WithinLimits f = first_refusal (limited f) ≡ 0

-- the whole frame answers blank and leaves the lent tables untouched, whatever they are
abbrev pub AnswersBlank : Frame → Type 0
AnswersBlank f = (t : FrameTables) → (frame_answer f t ≡ Ok None) × (frame_after f t ≡ t)

pub record Starred : Type 0 where
  -- cell 0..10: -2 ^ -40 wraps to 10, and 10 wraps to 0
  pub below-wraps-high : wrap (up_to 0x4120_0000) (alike 0xab80_0000) ≡ alike 0x4120_0000
  pub high-wraps-low : wrap (up_to 0x4120_0000) (alike 0x4120_0000) ≡ alike 0
  -- extent 10: min_image of 5 is -5, of -5 is 5, of 4 is 4
  pub image-of-5 : min_image (alike 0x4120_0000) (alike 0x40a0_0000) ≡ alike 0xc0a0_0000
  pub image-of-minus-5 : min_image (alike 0x4120_0000) (alike 0xc0a0_0000) ≡ alike 0x40a0_0000
  pub image-of-4 : min_image (alike 0x4120_0000) (alike 0x4080_0000) ≡ alike 0x4080_0000
  -- extents 2 ^ -23: not valid, and so blank, at any cutoff; five atoms and a water are within the limits there
  pub epsilon-not-valid : valid (up_to 0x3400_0000) ≡ false
  pub epsilon-blank : (f : Frame) → extent_of f.cell ≡ alike 0x3400_0000 → WithinLimits f → AnswersBlank f
  pub epsilon-five-atoms : (k : Float) → AnswersBlank (frame_of (up_to 0x3400_0000) k (atoms 5) 3 [] (atoms 1))
  -- extents each 1.5 * 2 ^ -23: valid, dispersion 0 for two copies
  pub above-epsilon-valid : valid (up_to 0x3440_0000) ≡ true
  pub above-epsilon-disperses : (xs : List Float) (starts picks : List ℕ) → copies starts ≡ 2 → dispersion_of (given (up_to 0x3440_0000) xs [] starts picks) ≡ of_bits binary32 0
  -- three atoms per copy, five atoms: one copy
  pub short-chunk-dropped : kept_copies (atoms 5) 3 [] ≡ (0 ∷ 1 ∷ 2 ∷ []) ∷ []
  -- zero per copy: no copy, and so blank, at any cutoff; five atoms and a water in the cell 0..10 are within the limits
  pub none-per-copy : kept_copies (atoms 5) 0 [] ≡ []
  pub none-per-copy-blank : (f : Frame) → f.per ≡ 0 → WithinLimits f → AnswersBlank f
  pub none-of-five-atoms : (k : Float) → AnswersBlank (frame_of (up_to 0x4120_0000) k (atoms 5) 0 [] (atoms 1))
  -- indices 0, 0 pick atom 0 twice; index 9 alone picks all three
  pub repeated-index : kept_copies (atoms 3) 3 (0 ∷ 0 ∷ []) ≡ (0 ∷ 0 ∷ []) ∷ []
  pub index-past-copy : kept_copies (atoms 3) 3 (9 ∷ []) ≡ (0 ∷ 1 ∷ 2 ∷ []) ∷ []
  -- copies 8 and 9 in a cell of volume 4,096: references over 8 and over 64
  pub reference-of-8 : reference_volume (up_to 0x4180_0000) 8 ≡ of_bits binary32 0x4400_0000
  pub reference-of-9 : reference_volume (up_to 0x4180_0000) 9 ≡ of_bits binary32 0x4280_0000
  -- f32 root of 2 is 3FB504F3
  pub root-of-2 : to_bits binary32 (sqrt_of binary32 (of_bits binary32 0x4000_0000)) ≡ 0x3fb5_04f3
  -- partition 8 of 512, one center: 0.125
  pub partition : partition_score (of_bits binary32 0x4100_0000) (of_bits binary32 0x4400_0000) 1 ≡ of_bits binary32 0x3e00_0000
