-- `baithrum_open` meets its contract: the number and the table are Open's. Assumes nothing.
use mathlib.Core.Path.{ap, ◌∙◌}
use Rattle.base.specs.Refusals.{answer_number}
use Rattle.mixing_c.proofs.Numbers.{open-number}
use Rattle.mixing_c.proofs.baithrum_open.Goals as goal

pub returns : goal.returns
returns c =
    let got = c.open.ensures in
    record { number = c.number.ensures ∙ ap answer_number got.answer ∙ open-number _ _ _; after = got.after }
