-- `baithrum_select` meets its contract: the number, the values and both tables are Select's, whose counts fit a word. Assumes nothing.
use mathlib.Core.Path.{ap, ◌∙◌}
use Rattle.std.proofs.Common.{Result}
use Rattle.base.specs.declared.Refused.{Refused}
use Rattle.base.specs.Refusals.{answer_number}
use Rattle.selection.specs.declared.Counted.{Counted}
use Rattle.selection.specs.Selection.{select_values}
use Rattle.answers.specs.Interface.{answers_after}
use Rattle.mixing_c.proofs.Small.{select-small}
use Rattle.mixing_c.proofs.Numbers.{select-number}
use Rattle.mixing_c.proofs.baithrum_select.Goals as goal

pub selected-requires : goal.selected-requires
selected-requires c =
    let a = c.args in
    let got = c.select.ensures in
    λ k. rw got.answer (select-small a.solutes.now a.per a.indices.now a.starts.now a.picks.now k)

pub returns : goal.returns
returns c =
    let got = c.select.ensures in
    let told = c.selected.ensures in
    record { number = told.number ∙ ap answer_number got.answer ∙ select-number _ _ _ _ _; starts_after = got.starts_after; picks_after = got.picks_after; answers_after = told.answers_after ∙ ap (λ (a : Result Counted Refused). answers_after (select_values a) c.args.answers.now) got.answer }
