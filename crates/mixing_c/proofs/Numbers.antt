-- The number of a call's answer is that of the call's refusal: each of a call's refusals is one of the enum's. Assumes nothing.
use mathlib.Core.Path.{◌≡◌, refl, sym}
use mathlib.Core.Bool.{Bool, true, false, cond, ◌&&◌}
use mathlib.Core.List.{List, append-nil, [], ◌∷◌, ◌++◌}
use Prim.Native.Nat.{ℕ, ◌*◌}
use lib.ListN.{length}
use lib.Dec.{eqb, ltb}
use lib.Ieee.{Float}
use borrow.Author.Tests.{eqb-true}
use Rattle.std.proofs.Common.{Ok, None}
use Rattle.base.specs.Refusals.{refuse, first_refusal, refused, answer_number}
use Rattle.base.specs.Tables.{unless_refused}
use Rattle.base.proofs.FirstRefusal.{known, number-answered}
use Rattle.frame_limits.specs.Limits.{lengths, counts, bounds, coordinates, validity, limit_refusals, frame_refusals}
use Rattle.cell.specs.Reach.{reach}
use Rattle.pick_lists.specs.Sound.{soundness, copies}
use Rattle.pick_lists.specs.Input.{Input, input_refusals}
use Rattle.selection.specs.Selection.{list_refusals, room_refusals, select_refusals, select_refusal, select_answer}
use Rattle.cluster_table.specs.Refusals.{row_table_refusals, other_cutoff}
use Rattle.clusters.specs.Answers.{open_refusals, open_refusal, open_answer, row_refusal, row_answer, close_refusals, close_refusal, close_answer}
use Rattle.centers.specs.Centers.{centers_refusal, centers_answer}
use Rattle.dispersion.specs.Dispersion.{dispersion_refusal, dispersion_answer}
use Rattle.octree.specs.Tree.{TreeTables, room_refusal}
use Rattle.tree.specs.Tree.{order_refusal, test_refusals, refusal_in, tree_refusal, tree_answer, frame_tree, whole_records}
use Rattle.report.specs.Report.{report_room, report_refusal, answer_by, report_answer}
use Rattle.frame_tests.specs.Tests.{size_refusals}
use Rattle.mixing.specs.Frame.{Frame, FrameTables, sized, limited, blank_holds, table_refusals, frame_refusal, frame_blank, mixed_answer, frame_answer}

pub select-number : (solutes : List Float) (per : ℕ) (indices starts picks : List ℕ) → answer_number (select_answer solutes per indices starts picks) ≡ select_refusal solutes per indices starts picks
unfolding select_answer select_refusal select_refusals list_refusals room_refusals lengths counts coordinates known
select-number solutes per indices starts picks = number-answered _ (select_refusals solutes per indices starts picks) refl

pub open-number : (n : ℕ) (k : Float) (t : List ℕ) → answer_number (open_answer n k t) ≡ open_refusal n k t
unfolding open_refusal open_refusals reach known
open-number n k t = number-answered _ (open_refusals n k t) refl

pub close-number : (t : List ℕ) → answer_number (close_answer t) ≡ close_refusal t
unfolding close_answer close_refusal close_refusals known
close-number t = number-answered _ (close_refusals t) refl

module _ (f : Input) where
  pub row-number : (k : Float) (t : List ℕ) (i : ℕ) → answer_number (row_answer f k t i) ≡ row_refusal f k t i
  unfolding row_refusal input_refusals frame_refusals limit_refusals lengths counts bounds coordinates validity soundness row_table_refusals reach other_cutoff known
  row-number k t i = number-answered _ (input_refusals f ++ row_table_refusals _ k t i) refl

  pub centers-number : (t : List Float) → answer_number (centers_answer f t) ≡ centers_refusal f t
  unfolding centers_refusal input_refusals frame_refusals limit_refusals lengths counts bounds coordinates validity soundness known
  centers-number t = number-answered _ (input_refusals f ++ (refuse 7 (ltb (length t) (copies f.starts * 3)) ∷ [])) refl

  pub dispersion-number : answer_number (dispersion_answer f) ≡ dispersion_refusal f
  unfolding dispersion_answer dispersion_refusal input_refusals frame_refusals limit_refusals lengths counts bounds coordinates validity soundness known
  dispersion-number = number-answered _ (input_refusals f) refl

  pub tree-number : (t : TreeTables) → answer_number (tree_answer f t) ≡ tree_refusal f t
  unfolding tree_answer tree_refusal refusal_in test_refusals order_refusal input_refusals frame_refusals limit_refusals lengths counts bounds coordinates validity soundness known
  tree-number t = number-answered _ (test_refusals f t.center_order t.water_order ++ (room_refusal (whole_records t) (frame_tree f) ∷ [])) refl

  pub report-number : (t : TreeTables) (leaves : List ℕ) → answer_number (report_answer f t leaves) ≡ report_refusal f t leaves
  unfolding report_answer answer_by report_refusal refusal_in test_refusals order_refusal input_refusals frame_refusals limit_refusals lengths counts bounds coordinates validity soundness known
  report-number t leaves = number-answered _ (test_refusals f t.center_order t.water_order ++ (room_refusal (report_room t leaves) (frame_tree f) ∷ [])) refl

-- a blank frame has none
module _ (f : Frame) (t : FrameTables) where
  not-blank : answer_number (unless_refused (frame_refusal f t) (mixed_answer f t) (refused (frame_refusal f t))) ≡ frame_refusal f t
  unfolding mixed_answer frame_refusal known limited limit_refusals lengths counts bounds coordinates table_refusals sized size_refusals reach
  not-blank = number-answered _ (limited f ++ cond (blank_holds f) [] (table_refusals f t)) (by-blank (blank_holds f))
    where
      by-blank : (b : Bool) → known (limited f ++ cond b [] (table_refusals f t)) ≡ true
      by-blank true = refl
      by-blank false = refl

  pub frame-number : answer_number (frame_answer f t) ≡ frame_refusal f t
  unfolding frame_answer frame_blank frame_refusal
  frame-number = by_tests (eqb (first_refusal (limited f)) 0) refl (blank_holds f) refl
    where
      by_tests : (a : Bool) → eqb (first_refusal (limited f)) 0 ≡ a → (b : Bool) → blank_holds f ≡ b
          → answer_number (cond (a && b) (Ok None) (unless_refused (frame_refusal f t) (mixed_answer f t) (refused (frame_refusal f t)))) ≡ frame_refusal f t
      by_tests true e true h = sym (rw (h, append-nil) (eqb-true (first_refusal (limited f)) 0 e))
      by_tests true e false h = not-blank
      by_tests false e b h = not-blank
