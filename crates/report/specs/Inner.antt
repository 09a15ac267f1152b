-- What only contracts of inner functions cite. Definitions only. Assumes nothing.
use Rattle.std.specs.Prelude.{List, [], ◌∷◌, ℕ, Result}
use Rattle.base.specs.declared.Refused.{Refused}
use Rattle.base.specs.Refusals.{first_refusal}
use Rattle.pick_lists.specs.Input.{Input}
use Rattle.octree.specs.Tree.{TreeTables, room_refusal}
use Rattle.tree.specs.Tree.{frame_tree}
use Rattle.report.specs.declared.ReportCounts.{ReportCounts}
use Rattle.report.specs.Report.{report_room, answer_by}

-- what the core answers, which tests the room alone: 13, or the leaves
abbrev pub core_answer : Input → TreeTables → List ℕ → Result ReportCounts Refused
core_answer f t leaves = answer_by (first_refusal (room_refusal (report_room t leaves) (frame_tree f) ∷ [])) f
