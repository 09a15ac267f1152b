-- `clusters::row` meets its contract: the refusals of the input, then what the table is asked (RowRefusals). Input with no refusal has sound pick lists, so
-- that n is at most 4,096; where the table is asked nothing more, the core's `requires` holds. Assumes nothing.
use Rattle.std.proofs.Common.{arith}
use Rattle.std.proofs.lemmas.Result.{err_from_is_err_and}
use Rattle.base.proofs.FirstRefusal.{accepted-zero}
use Rattle.cluster_table.proofs.RowChecks.{row-asked}
use Rattle.clusters.proofs.Accepted.{accepted-lists}
use Rattle.clusters.proofs.RowRefusals.{row-input, row-table, row-taken}
use Rattle.clusters.proofs.row.Goals as goal

pub returns-in_err-input_refusal : goal.returns-in_err-input_refusal
returns-in_err-input_refusal c =
    let p = err_from_is_err_and c.from_residual.result c.from_residual.ensures.1 in
    let r = row-input _ _ _ _ _ c.in_err-input_refusal.ensures in
    rw (p.1, p.2) (record { answer = r.0; after = r.1 })

pub overflow_sub-starts : goal.overflow_sub-starts
overflow_sub-starts c = omega (arith, (accepted-lists _ (accepted-zero _ c.in_ok-input_refusal.ensures)).number)

pub row_refusal-requires : goal.row_refusal-requires
row_refusal-requires c = (accepted-lists _ (accepted-zero _ c.in_ok-input_refusal.ensures)).few

pub returns-in_err-row_refusal : goal.returns-in_err-row_refusal
returns-in_err-row_refusal c =
    let p = err_from_is_err_and c.from_residual-in_err-row_refusal.result c.from_residual-in_err-row_refusal.ensures.1 in
    let r = row-table _ _ _ _ (accepted-zero _ c.in_ok-input_refusal.ensures) _ c.in_err-row_refusal.ensures in
    rw (p.1, p.2) (record { answer = r.0; after = r.1 })

pub scan_row-requires : goal.scan_row-requires
scan_row-requires c =
    let none = accepted-zero _ c.in_ok-input_refusal.ensures in
    let a = row-asked _ _ _ _ (accepted-zero _ c.in_ok-row_refusal.ensures) in
    record { picks_value = (none, a.reaches); starts_in_bounds = (a.long, a.sound, a.below) }

pub returns : goal.returns
returns c =
    let r = row-taken _ _ _ _ (accepted-zero _ c.in_ok-input_refusal.ensures) (accepted-zero _ c.in_ok-row_refusal.ensures) _ c.scan_row.ensures in
    record { answer = r.0; after = r.1 }
