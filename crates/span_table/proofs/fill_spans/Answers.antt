-- `span_table::fill_spans` meets its contract: each axis is filled in its own part of the table. Assumes nothing.
use mathlib.Core.Path.{◌∙◌}
use native.Mathlib.Omega.{arith}
use Rattle.pick_lists.proofs.SoundLists.{sound-lists}
use Rattle.span_table.proofs.Table.{six}
use Rattle.span_table.proofs.fill_spans.Goals as goal

pub overflow_sub-n : goal.overflow_sub-n
overflow_sub-n c = omega (arith, (sound-lists _ _ _ c.requires.picks_value).number)

pub returns : goal.returns
returns c =
    let x = c.fill_axis.ensures in
    let y = c.fill_axis-2.ensures in
    let z = c.fill_axis-3.ensures in record {
      table = λ i l.
          six _ _ _ _ _
          (z.before _ (omega arith) ∙ y.before _ (omega arith) ∙ x.least i l)
          (z.before _ (omega arith) ∙ y.before _ (omega arith) ∙ x.greatest i l)
          (z.before _ (omega arith) ∙ y.least i l)
          (z.before _ (omega arith) ∙ y.greatest i l)
          (z.least i l)
          (z.greatest i l);
      past = λ m l. z.past m (omega arith) ∙ y.past m (omega arith) ∙ x.past m (omega arith);
    }
