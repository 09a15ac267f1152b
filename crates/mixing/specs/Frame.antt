-- docs/RULES.md, 'Whole frame': 1, 2, 3, 4; then blank; then 5, 6, 16, 7, 13; otherwise Select, Open, the rows in rising order, Close,
-- Dispersion and Report, with their answers and tables. Definitions only. Assumes nothing.
use Rattle.std.specs.Prelude.{ℕ, Bool, cond, ◌&&◌, List, [], ◌∷◌, ◌++◌, eqb, length, Float, Result, Ok, Option, Some, None}
use Rattle.cell.specs.declared.Cell.{Cell}
use Rattle.base.specs.declared.Refused.{Refused}
use Rattle.base.specs.Refusals.{Refusal, first_refusal, refused}
use Rattle.frame_limits.specs.Limits.{limit_refusals}
use Rattle.base.specs.Tables.{unless_refused}
use Rattle.selection.specs.Selection.{kept_copies, starts_of, picks_of, starts_after, picks_after}
use Rattle.pick_lists.specs.Input.{Input, given}
use Rattle.cluster_table.specs.Fractions.{table_fractions}
use Rattle.scan.specs.Scan.{scanned}
use Rattle.dispersion.specs.Dispersion.{dispersion_of}
use Rattle.nodes.specs.Nodes.{deepest}
use Rattle.octree.specs.Tree.{room_refusal, TreeTables, tree_tables, by_number}
use Rattle.points.specs.Points.{finite_waters}
use Rattle.tree.specs.Tree.{frame_tree, input_after}
use Rattle.leaf_table.specs.LeafTable.{reported_leaves, dry_leaves}
use Rattle.report.specs.Report.{report_room, leaves_by}
use Rattle.frame_tests.specs.Tests.{is_blank, size_refusals}
use Rattle.mixing.specs.declared.Mixture.{Mixture}

-- ---- a frame, and the tables lent for it
pub record Frame : Type 0 where
  pub cell : Cell
  -- of contacts
  pub cutoff : Float
  pub solutes : List Float
  -- atoms per copy
  pub per : ℕ
  pub indices : List ℕ
  pub waters : List Float

abbrev pub frame_of : Cell → Float → List Float → ℕ → List ℕ → List Float → Frame
frame_of c k solutes per indices waters = record { cell = c; cutoff = k; solutes = solutes; per = per; indices = indices; waters = waters }

pub record FrameTables : Type 0 where
  pub starts : List ℕ
  pub picks : List ℕ
  pub clusters : List ℕ
  pub tree : TreeTables
  pub leaves : List ℕ

abbrev pub frame_tables : List ℕ → List ℕ → List ℕ → List ℕ → List ℕ → List ℕ → List Float → List ℕ → FrameTables
frame_tables starts picks clusters center_order water_order records boxes leaves =
    record { starts = starts; picks = picks; clusters = clusters; tree = tree_tables center_order water_order records boxes; leaves = leaves }

-- ---- the parts
-- the kept copies, and the pick lists of them
unfoldable pub kept : Frame → List (List ℕ)
kept f = kept_copies f.solutes f.per f.indices

unfoldable pub start_list : Frame → List ℕ
start_list f = starts_of (kept f)

unfoldable pub pick_numbers : Frame → List ℕ
pick_numbers f = picks_of (kept f)

-- what Row and Dispersion take, and what Report takes
abbrev pub scan_input : Frame → Input
scan_input f = given f.cell f.solutes [] (start_list f) (pick_numbers f)

abbrev pub tree_input : Frame → Input
tree_input f = given f.cell f.solutes f.waters (start_list f) (pick_numbers f)

-- ---- refusals (blank and 5, 6, 16, 7: `frame_tests`)
-- 5, 6, 16, 7 for the kept copies, their picks and the finite waters
unfoldable pub sized : Frame → FrameTables → List Refusal
sized f t =
    size_refusals (length (kept f)) (length (pick_numbers f)) (finite_waters f.waters) f.cutoff
    (length t.starts) (length t.picks) (length t.clusters) (length t.tree.center_order) (length t.tree.water_order)

-- 5, 6, 16, 7, 13
unfoldable pub table_refusals : Frame → FrameTables → List Refusal
table_refusals f t = sized f t ++ (room_refusal (report_room t.tree t.leaves) (frame_tree (tree_input f)) ∷ [])

-- 1, 2, 3, 4
unfoldable pub limited : Frame → List Refusal
limited f = limit_refusals f.cell f.solutes f.waters f.indices

-- the condition of blank
unfoldable pub blank_holds : Frame → Bool
blank_holds f = is_blank f.cell f.solutes f.waters (length (kept f)) (finite_waters f.waters)

-- the first that holds; a blank frame is not refused by its tables
unfoldable pub frame_refusal : Frame → FrameTables → ℕ
frame_refusal f t = first_refusal (limited f ++ cond (blank_holds f) [] (table_refusals f t))

-- blank comes after 1, 2, 3, 4
unfoldable pub frame_blank : Frame → Bool
frame_blank f = eqb (first_refusal (limited f)) 0 && blank_holds f

-- ---- the answer
-- the refusal r, or x where nothing is refused
abbrev pub refused_or : ℕ → Result (Option Mixture) Refused → Result (Option Mixture) Refused
refused_or r x = unless_refused r x (refused r)

-- what Select, Close, Dispersion and Report answer: the kept copies and the picks, the three fractions of the scanned table, the
-- dispersion, and of the tree its nodes, greatest depth, reported leaves and dry leaves
unfoldable pub mixture : Frame → FrameTables → Mixture
mixture f t =
    let vs = (frame_tree (tree_input f)).nodes in
    record {
      counted = record { copies = length (kept f); picks = length (pick_numbers f) };
      fractions = table_fractions (scanned (scan_input f) f.cutoff t.clusters);
      dispersion = dispersion_of (scan_input f);
      report = record { nodes = length vs; depth = deepest vs; leaves = reported_leaves vs; dry = dry_leaves vs };
    }

unfoldable pub mixed_answer : Frame → FrameTables → Result (Option Mixture) Refused
unfolding mixture
mixed_answer f t = Ok (Some (mixture f t))

-- what the whole frame answers; blank is `None`, and stands for zeros in all four fractions
unfoldable pub frame_answer : Frame → FrameTables → Result (Option Mixture) Refused
frame_answer f t = cond (frame_blank f) (Ok None) (refused_or (frame_refusal f t) (mixed_answer f t))

-- ---- the tables afterwards
-- Select, the scan and Report, which answered r: 0 or 13
unfoldable pub worked : ℕ → Frame → FrameTables → FrameTables
worked r f t =
    record {
      starts = starts_after f.solutes f.per f.indices t.starts t.picks;
      picks = picks_after f.solutes f.per f.indices t.starts t.picks;
      clusters = scanned (scan_input f) f.cutoff t.clusters;
      tree = input_after r (tree_input f) t.tree;
      leaves = leaves_by r (tree_input f) t.leaves;
    }

-- blank and every refusal but 13 change no table
unfoldable pub frame_after : Frame → FrameTables → FrameTables
frame_after f t = cond (frame_blank f) t (by_number (frame_refusal f t) (worked 0 f t) (worked 13 f t) t)
