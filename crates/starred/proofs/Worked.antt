-- The starred frames (docs/RULES.md, 'Checked frames'), as the definitions compute them: `starred`. Assumes nothing.
use mathlib.Core.Path.{◌≡◌, refl, sym, ap}
use mathlib.Core.Bool.{Bool, true, false, not, ◌&&◌, ◌||◌}
use mathlib.Core.List.{[]}
use lib.Dec.{eqb}
use lib.ListN.{length}
use lib.Ieee.{Float, of_bits, to_bits, of_int, neg, sub, mul, div, lt, le}
use Rattle.floats.specs.Root.{sqrt_of}
use Rattle.floats.specs.Whole.{floor_of, round_of}
use Rattle.cell.specs.declared.Vec3.{Vec3}
use Rattle.cell.specs.declared.Cell.{Cell}
use Rattle.cell.specs.Cell.{extent_of, valid_axis, valid, wrap_axis, wrap, image_axis, min_image, volume_of, point_at, finite_point}
use Rattle.base.specs.Refusals.{first_refusal}
use Rattle.frame_limits.specs.Limits.{exceeds, any_over, ragged, long, long_indices, bound_over, lengths, counts, bounds, coordinates, limit_refusals}
use Rattle.pick_lists.specs.Sound.{finite_atom}
use Rattle.selection.specs.Selection.{finite_atoms, indexed, picked, copies_from, chunks, kept_copies}
use Rattle.dispersion.specs.Dispersion.{clamped}
use Rattle.dispersion.proofs.Examples.{checked}
use Rattle.points.specs.Points.{finite_waters}
use Rattle.floats.specs.Order.{larger}
use Rattle.leaf.specs.Leaf.{room_volume, reference_leaves, reference_volume, partition_score}
use Rattle.frame_tests.specs.Tests.{is_blank}
use Rattle.mixing.specs.Frame.{Frame, frame_of, kept, limited, blank_holds}
use Rattle.mixing.proofs.Outcomes.{outcome-blank}
use Rattle.starred.specs.Starred.{Starred, WithinLimits, AnswersBlank, alike, up_to, atoms}

-- ---- blank frames
holds-blank : (f : Frame) → blank_holds f ≡ true → WithinLimits f → AnswersBlank f
holds-blank f e within t = let got = outcome-blank f t within e in (sym got.0, sym got.1)

not_valid : (c : Cell) → extent_of c ≡ alike 0x3400_0000 → valid c ≡ false
unfolding valid valid_axis of_bits lt
not_valid c e = ap (λ (v : Vec3). valid_axis v.x && (valid_axis v.y && valid_axis v.z)) e

epsilon-holds : (f : Frame) → extent_of f.cell ≡ alike 0x3400_0000 → blank_holds f ≡ true
unfolding blank_holds is_blank
epsilon-holds f e = rw (not_valid f.cell e)

fourth-holds : (a b c d : Bool) → (a || (b || (c || (true || d)))) ≡ true
fourth-holds true b c d = refl
fourth-holds false true c d = refl
fourth-holds false false true d = refl
fourth-holds false false false d = refl

none-holds : (f : Frame) → f.per ≡ 0 → blank_holds f ≡ true
unfolding blank_holds is_blank kept kept_copies copies_from chunks
none-holds f e = rw e (fourth-holds (not (valid f.cell)) (eqb (length f.solutes) 0) (eqb (length f.waters) 0) (eqb (finite_waters f.waters) 0))

-- ---- five atoms and a water at the origin
abbrev narrow : Float → Frame
narrow k = frame_of (up_to 0x3400_0000) k (atoms 5) 3 [] (atoms 1)

abbrev ten : Float → Frame
ten k = frame_of (up_to 0x4120_0000) k (atoms 5) 0 [] (atoms 1)

narrow_within : (k : Float) → WithinLimits (narrow k)
unfolding limited limit_refusals lengths counts bounds coordinates ragged long long_indices bound_over any_over exceeds first_refusal atoms of_bits neg lt
narrow_within k = refl

ten-within : (k : Float) → WithinLimits (ten k)
unfolding limited limit_refusals lengths counts bounds coordinates ragged long long_indices bound_over any_over exceeds first_refusal atoms of_bits neg lt
ten-within k = refl

-- ---- all of them
pub starred : Starred
unfolding wrap wrap_axis floor_of min_image image_axis round_of valid valid_axis extent_of sqrt_of kept_copies copies_from chunks picked indexed finite_atoms finite_atom point_at finite_point atoms reference_volume reference_leaves room_volume larger volume_of partition_score clamped of_bits to_bits of_int sub mul div lt le
starred =
    record {
      below-wraps-high = refl;
      high-wraps-low = refl;
      image-of-5 = refl;
      image-of-minus-5 = refl;
      image-of-4 = refl;
      epsilon-not-valid = refl;
      epsilon-blank = λ f e. holds-blank f (epsilon-holds f e);
      epsilon-five-atoms = λ k. holds-blank (narrow k) (epsilon-holds (narrow k) refl) (narrow_within k);
      above-epsilon-valid = refl;
      above-epsilon-disperses = checked.least-extent;
      short-chunk-dropped = refl;
      none-per-copy = refl;
      none-per-copy-blank = λ f e. holds-blank f (none-holds f e);
      none-of-five-atoms = λ k. holds-blank (ten k) (none-holds (ten k) refl) (ten-within k);
      repeated-index = refl;
      index-past-copy = refl;
      reference-of-8 = refl;
      reference-of-9 = refl;
      root-of-2 = refl;
      partition = refl;
    }
