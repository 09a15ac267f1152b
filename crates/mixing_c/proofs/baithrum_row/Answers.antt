-- `baithrum_row` meets its contract: the number and the table are Row's, in the cell of the six numbers. Assumes nothing.
use mathlib.Core.Path.{ap, ◌∙◌}
use Rattle.base.specs.Refusals.{answer_number}
use Rattle.mixing_c.proofs.Numbers.{row-number}
use Rattle.mixing_c.proofs.baithrum_row.Goals as goal

pub returns : goal.returns
returns c =
    let got = rw c.cell.ensures at c.row.ensures in
    record { number = c.number.ensures ∙ ap answer_number got.answer ∙ row-number _ _ _ _; after = got.after }
