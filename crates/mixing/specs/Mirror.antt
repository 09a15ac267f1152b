-- docs/RULES.md, 'Separation both ways round', for the callers: a call that takes a frame and passes its own tests has the law for its picks and copies.
-- Claims about the definitions, proved in proofs/Mirror.antt. Definitions only. Assumes nothing.
use Rattle.std.specs.Prelude.{◌≡◌, false, List, ℕ, Float}
use Rattle.pick_lists.specs.Sound.{copies}
use Rattle.pick_lists.specs.Input.{Input}
use Rattle.touch.specs.Touch.{copies_touch}
use Rattle.touch.specs.Mirror.{touch_reversed, Mirrored}
use Rattle.clusters.specs.Answers.{row_table, row_refusal}
use Rattle.centers.specs.Centers.{centers_refusal}
use Rattle.dispersion.specs.Dispersion.{dispersion_refusal}
use Rattle.octree.specs.Tree.{TreeTables}
use Rattle.tree.specs.Tree.{tree_refusal}
use Rattle.report.specs.Report.{report_refusal}
use Rattle.mixing.specs.Frame.{Frame, FrameTables, scan_input, frame_refusal, frame_blank}

pub record MirrorInCalls : Type 0 where
  -- none of the call's refusals holds; the whole frame is not blank either, and the law is for the pick lists that it selects
  pub row : (f : Input) (k : Float) (t : List ℕ) (i : ℕ) → row_refusal f k t i ≡ 0 → Mirrored f
  pub centers : (f : Input) (t : List Float) → centers_refusal f t ≡ 0 → Mirrored f
  pub dispersion : (f : Input) → dispersion_refusal f ≡ 0 → Mirrored f
  pub tree : (f : Input) (t : TreeTables) → tree_refusal f t ≡ 0 → Mirrored f
  pub report : (f : Input) (t : TreeTables) (leaves : List ℕ) → report_refusal f t leaves ≡ 0 → Mirrored f
  pub frame : (f : Frame) (t : FrameTables) → frame_blank f ≡ false → frame_refusal f t ≡ 0 → Mirrored (scan_input f)
  -- a row whose search takes every separation the other way round leaves the same table, and Close answers by the table alone
  pub rows : (f : Input) (k : Float) (t : List ℕ) (i : ℕ) → row_table (touch_reversed f k) (copies f.starts) i t ≡ row_table (copies_touch f k) (copies f.starts) i t
