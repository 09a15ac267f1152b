-- `baithrum_frame` meets its contract: the number, the words and every table are the whole frame's, in the cell of the six numbers, and
-- the counts fit a word. Assumes nothing.
use mathlib.Core.Path.{ap, ◌∙◌}
use Rattle.std.proofs.Common.{Result, Option}
use Rattle.base.specs.declared.Refused.{Refused}
use Rattle.base.specs.Refusals.{answer_number}
use Rattle.mixing.specs.declared.Mixture.{Mixture}
use Rattle.answers.specs.Interface.{answers_after, frame_words}
use Rattle.mixing_c.proofs.Small.{frame_small}
use Rattle.mixing_c.proofs.Numbers.{frame-number}
use Rattle.mixing_c.proofs.baithrum_frame.Goals as goal

pub frame-requires-2 : goal.frame-requires-2
frame-requires-2 c = let got = c.frame in λ k. rw got.ensures.answer (frame_small _ _ k)

pub returns : goal.returns
returns c =
    let got = rw c.cell.ensures at c.frame.ensures in
    let told = c.frame-2.ensures in record { number = told.number ∙ ap answer_number got.answer ∙ frame-number _ _; after = got.after; answers_after = told.answers_after ∙ ap (λ (a : Result (Option Mixture) Refused). answers_after (frame_words a) c.args.answers.now) got.answer }
