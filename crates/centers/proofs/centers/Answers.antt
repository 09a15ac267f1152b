-- `centers::centers` meets its contract: the input's refusals, then 7 (`Answers`), then the centers. Assumes nothing.
use mathlib.Core.Path.{◌∙◌}
use native.Mathlib.Omega.{arith}
use Rattle.std.proofs.lemmas.Result.{err_from_is_err_and}
use Rattle.pick_lists.proofs.SoundLists.{sound-lists}
use Rattle.pick_lists.proofs.InputRefusals.{accepted-input}
use Rattle.centers.proofs.Answers.{centers-input, centers-short, centers-fit}
use Rattle.centers.proofs.centers.Goals as goal

pub returns-in_err-input_refusal : goal.returns-in_err-input_refusal
returns-in_err-input_refusal c =
    let e = err_from_is_err_and c.from_residual.result c.from_residual.ensures.1 in
    let p = centers-input _ c.args.centers.now _ c.in_err-input_refusal.ensures in
    record { answer = rw (e.1, e.2) p.0; after = p.1 }

pub overflow_sub-starts : goal.overflow_sub-starts
overflow_sub-starts c = omega (arith, (sound-lists _ _ _ (accepted-input _ c.in_ok-input_refusal.ensures)).number)

pub returns-then-centers-starts : goal.returns-then-centers-starts
returns-then-centers-starts c =
    let p = centers-short _ c.args.centers.now c.in_ok-input_refusal.ensures c.if-centers-starts.true in
    record { answer = p.0; after = p.1 }

pub put_centers-requires : goal.put_centers-requires
put_centers-requires c = record { picks_value = accepted-input _ c.in_ok-input_refusal.ensures; starts_in_bounds = c.if-centers-starts.false }

pub returns : goal.returns
returns c =
    let p = centers-fit _ c.args.centers.now c.in_ok-input_refusal.ensures c.if-centers-starts.false in
    record { answer = p.0; after = c.put_centers.ensures ∙ p.1 }
