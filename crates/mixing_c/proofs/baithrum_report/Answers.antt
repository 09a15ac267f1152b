-- `baithrum_report` meets its contract: the number, the values and every table are Report's, in the cell of the six numbers, and the
-- counts fit a word. Assumes nothing.
use mathlib.Core.Path.{ap, ◌∙◌}
use Rattle.std.proofs.Common.{Result}
use Rattle.base.specs.declared.Refused.{Refused}
use Rattle.base.specs.Refusals.{answer_number}
use Rattle.report.specs.declared.ReportCounts.{ReportCounts}
use Rattle.report.specs.Report.{report_values}
use Rattle.answers.specs.Interface.{answers_after}
use Rattle.mixing_c.proofs.Small.{report-small}
use Rattle.mixing_c.proofs.Numbers.{report-number}
use Rattle.mixing_c.proofs.baithrum_report.Goals as goal

pub report-requires-2 : goal.report-requires-2
report-requires-2 c = let got = c.report in λ k. rw got.ensures.answer (report-small _ _ _ k)

pub returns : goal.returns
returns c =
    let got = rw c.cell.ensures at c.report.ensures in
    let told = c.report-2.ensures in
    record { number = told.number ∙ ap answer_number got.answer ∙ report-number _ _ _; after = got.after; reported = got.reported; answers_after = told.answers_after ∙ ap (λ (a : Result ReportCounts Refused). answers_after (report_values a) c.args.answers.now) got.answer }
