-- `baithrum_centers` meets its contract: the number and the table are Centers's, in the cell of the six numbers. Assumes nothing.
use mathlib.Core.Path.{ap, ◌∙◌}
use Rattle.base.specs.Refusals.{answer_number}
use Rattle.mixing_c.proofs.Numbers.{centers-number}
use Rattle.mixing_c.proofs.baithrum_centers.Goals as goal

pub returns : goal.returns
returns c =
    let got = rw c.cell.ensures at c.centers.ensures in
    record { number = c.number.ensures ∙ ap answer_number got.answer ∙ centers-number _ _; after = got.after }
