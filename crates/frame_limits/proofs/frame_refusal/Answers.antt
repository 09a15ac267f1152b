-- `frame_limits::frame_refusal` meets its contract: the limits decide, and where none of them refuses, whether the cell is valid. Assumes nothing.
use mathlib.Core.Path.{sym, ◌∙◌}
use Rattle.std.proofs.Common.{ap}
use Rattle.std.proofs.lemmas.Result.{err_from_is_err_and}
use Rattle.base.specs.Refusals.{answer_of}
use Rattle.frame_limits.proofs.FrameRefusals.{frame-limit, frame-cell}
use Rattle.frame_limits.proofs.frame_refusal.Goals as goal

pub returns-in_err-limit_refusal : goal.returns-in_err-limit_refusal
returns-in_err-limit_refusal c = let p = err_from_is_err_and c.from_residual.result c.from_residual.ensures.1 in rw (p.1, p.2) (frame-limit _ _ _ _ c.in_err-limit_refusal.ensures)

pub returns-then-not-is_valid : goal.returns-then-not-is_valid
returns-then-not-is_valid c = rw (frame-cell _ _ _ _ (sym c.if-not-is_valid.true ∙ c.is_valid.ensures) c.in_ok-limit_refusal.ensures)

pub returns : goal.returns
returns c = rw (frame-cell _ _ _ _ (sym c.if-not-is_valid.false ∙ c.is_valid.ensures) c.in_ok-limit_refusal.ensures)
