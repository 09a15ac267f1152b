-- docs/RULES.md, 'Whole frame': where it answers, it is Select, Open, the rows in rising order, Close, Dispersion and Report, with their
-- answers. One claim about the definitions, proved in proofs/Calls.antt. Definitions only. Assumes nothing.
use Rattle.std.specs.Prelude.{◌≡◌, Ok, Some}
use Rattle.selection.specs.Selection.{select_answer}
use Rattle.clusters.specs.Answers.{close_answer}
use Rattle.scan.specs.Scan.{scanned}
use Rattle.dispersion.specs.Dispersion.{dispersion_answer}
use Rattle.report.specs.Report.{report_answer}
use Rattle.mixing.specs.declared.Mixture.{Mixture}
use Rattle.mixing.specs.Frame.{Frame, FrameTables, scan_input, tree_input, frame_answer}

-- what the calls answer on the frame: Select on its lists, and the others on the pick lists and the scanned table
pub record Calls (f : Frame) (t : FrameTables) (m : Mixture) : Type 0 where
  pub select : select_answer f.solutes f.per f.indices t.starts t.picks ≡ Ok m.counted
  pub close : close_answer (scanned (scan_input f) f.cutoff t.clusters) ≡ Ok m.fractions
  pub disperse : dispersion_answer (scan_input f) ≡ Ok m.dispersion
  pub report : report_answer (tree_input f) t.tree t.leaves ≡ Ok m.report

abbrev pub AnswersAsCalls : Type 0
AnswersAsCalls = (f : Frame) (t : FrameTables) (m : Mixture) → frame_answer f t ≡ Ok (Some m) → Calls f t m
