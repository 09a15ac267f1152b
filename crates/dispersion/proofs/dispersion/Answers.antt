-- `dispersion::dispersion` meets its contract: the input's refusals, then the score. Assumes nothing.
use Rattle.std.proofs.lemmas.Result.{err_from_is_err_and}
use Rattle.pick_lists.proofs.InputRefusals.{accepted-input}
use Rattle.dispersion.proofs.Answers.{dispersion-refused, dispersion-answered}
use Rattle.dispersion.proofs.dispersion.Goals as goal

pub returns-in_err-input_refusal : goal.returns-in_err-input_refusal
returns-in_err-input_refusal c =
    let p = err_from_is_err_and c.from_residual.result c.from_residual.ensures.1 in
    record { answer = rw (p.1, p.2) (dispersion-refused _ _ c.in_err-input_refusal.ensures) }

pub dispersion_of-requires : goal.dispersion_of-requires
dispersion_of-requires c = accepted-input _ c.in_ok-input_refusal.ensures

pub returns : goal.returns
returns c = record { answer = rw c.dispersion_of.ensures (dispersion-answered _ c.in_ok-input_refusal.ensures) }
