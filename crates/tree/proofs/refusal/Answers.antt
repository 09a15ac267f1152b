-- `tree::refusal` meets its contract: the input's refusals, then 7 for either order list (`TreeRefusals`). Assumes nothing.
use Rattle.std.proofs.Common.{ap, arith}
use Rattle.std.proofs.lemmas.Result.{err_from_is_err_and}
use Rattle.base.specs.Refusals.{answer_of}
use Rattle.base.proofs.FirstRefusal.{accepted-zero}
use Rattle.pick_lists.proofs.InputRefusals.{accepted-input}
use Rattle.pick_lists.proofs.SoundLists.{sound-lists}
use Rattle.tree.proofs.TreeRefusals.{test-input, test-centers, test-waters, test-none}
use Rattle.tree.proofs.refusal.Goals as goal

pub returns-in_err-input_refusal : goal.returns-in_err-input_refusal
returns-in_err-input_refusal c =
    let p = err_from_is_err_and c.from_residual.result c.from_residual.ensures.1 in
    rw (p.1, p.2) (test-input _ c.args.center_order.now c.args.water_order.now _ c.in_err-input_refusal.ensures)

pub overflow_sub-starts : goal.overflow_sub-starts
overflow_sub-starts c = omega (arith, (sound-lists _ _ _ (accepted-input _ c.in_ok-input_refusal.ensures)).number)

pub returns-then-center_order-starts : goal.returns-then-center_order-starts
returns-then-center_order-starts c = ap answer_of (test-centers _ _ c.args.water_order.now (accepted-zero _ c.in_ok-input_refusal.ensures) c.if-center_order-starts.true)

pub returns-then-water_order-count_waters : goal.returns-then-water_order-count_waters
returns-then-water_order-count_waters c =
    ap answer_of (test-waters _ _ _ (accepted-zero _ c.in_ok-input_refusal.ensures) c.if-center_order-starts.false (rw c.count_waters.ensures at c.if-water_order-count_waters.true))

pub returns : goal.returns
returns c = ap answer_of (test-none _ _ _ (accepted-zero _ c.in_ok-input_refusal.ensures) c.if-center_order-starts.false (rw c.count_waters.ensures at c.if-water_order-count_waters.false))
