-- Where the mirror law for a whole frame ends: without 'not blank' it is false. In a cell of extent 0, with one atom and no water, the frame is blank and not refused,
-- and an image is a NaN. Assumes nothing.
use mathlib.Core.Path.{◌≡◌, refl}
use mathlib.Core.Bool.{false≢true}
use mathlib.Core.List.{[], ◌∷◌}
use lib.Dec.{lit<}
use lib.Ieee.{binary32, of_bits, neg, sub, mul, div, eq, lt}
use Rattle.floats.specs.Whole.{round_of}
use Rattle.cell.specs.Cell.{extent_of, valid_axis, valid, image_axis, min_image, minus, point_at, finite_point}
use Rattle.cell.proofs.Examples.{up_to}
use Rattle.base.specs.Refusals.{first_refusal}
use Rattle.frame_limits.specs.Limits.{exceeds, any_over, ragged, long, long_indices, bound_over, lengths, counts, bounds, coordinates, limit_refusals}
use Rattle.pick_lists.specs.Sound.{finite_atom}
use Rattle.selection.specs.Selection.{finite_atoms, indexed, picked, copies_from, chunks, kept_copies, picks_of}
use Rattle.points.specs.Points.{finite_waters}
use Rattle.touch.specs.Mirror.{opposite, same_numbers, Mirrored}
use Rattle.frame_tests.specs.Tests.{is_blank}
use Rattle.mixing.specs.Frame.{Frame, FrameTables, frame_of, frame_tables, kept, pick_numbers, scan_input, limited, blank_holds, frame_refusal}

pub not-blank-too : ((f : Frame) (t : FrameTables) → frame_refusal f t ≡ 0 → Mirrored (scan_input f)) → ⊥
unfolding frame_refusal limited limit_refusals lengths counts bounds coordinates ragged long long_indices bound_over any_over exceeds first_refusal blank_holds is_blank kept pick_numbers kept_copies copies_from chunks picked indexed finite_atoms picks_of finite_atom finite_waters valid valid_axis finite_point extent_of same_numbers min_image image_axis minus point_at opposite round_of of_bits neg sub mul div eq lt
not-blank-too h =
    let zero = of_bits binary32 0 in
    false≢true ((h (frame_of (up_to 0) zero (zero ∷ zero ∷ zero ∷ []) 1 [] []) (frame_tables [] [] [] [] [] [] [] []) refl).images 0 0 (lit< tt) (lit< tt))
