-- `report::report` meets its contract: a refusal of the tests leaves every table as it was; otherwise the core answers. Assumes nothing.
use Rattle.std.proofs.lemmas.Result.{err_from_is_err_and}
use Rattle.base.proofs.FirstRefusal.{accepted-zero}
use Rattle.pick_lists.specs.Input.{Input, given}
use Rattle.octree.specs.Tree.{TreeTables, tree_tables}
use Rattle.tree.proofs.TreeRefusals.{tested}
use Rattle.report.proofs.ReportOutcomes.{report-refused, report-worked}
use Rattle.report.proofs.report.Goals as goal

pub returns-in_err-refusal : goal.returns-in_err-refusal
returns-in_err-refusal c =
    let input : Input = given c.args.cell c.args.solutes.now c.args.waters.now c.args.starts.now c.args.picks.now in
    let lent : TreeTables = tree_tables c.args.center_order.now c.args.water_order.now c.args.records.now c.args.boxes.now in
    let p = err_from_is_err_and c.from_residual.result c.from_residual.ensures.1 in
    let r = report-refused input lent c.args.leaves.now _ c.in_err-refusal.ensures in record { answer = rw (p.1, p.2) r.0; after = r.1.0; reported = r.1.1 }

pub report_of-requires : goal.report_of-requires
report_of-requires c =
    let ok = tested _ _ _ (accepted-zero _ c.in_ok-refusal.ensures) in
    record { picks_value = ok.sound; waters_len_bound = ok.waters-few; starts_in_bounds = (ok.centers-fit, ok.waters-fit) }

pub returns : goal.returns
returns c =
    let input : Input = given c.args.cell c.args.solutes.now c.args.waters.now c.args.starts.now c.args.picks.now in
    let lent : TreeTables = tree_tables c.args.center_order.now c.args.water_order.now c.args.records.now c.args.boxes.now in
    let r = report-worked input lent c.args.leaves.now _ _ _ (accepted-zero _ c.in_ok-refusal.ensures) (c.report_of.ensures.answer, (c.report_of.ensures.after, c.report_of.ensures.reported)) in record { answer = r.0; after = r.1.0; reported = r.1.1 }
