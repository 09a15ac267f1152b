-- What is left to prove of `fill_axis`. Assumes nothing.
use mathlib.Core.Path.{◌∙◌, ap}
use native.Mathlib.Omega.{arith}
use Rattle.pick_lists.proofs.SoundLists.{sound-lists}
use Rattle.pick_lists.proofs.CopyPicks.{copy-part, copy_some, copy-atoms}
use Rattle.spans.specs.Inner.{least_of, greatest_of}
use Rattle.span_table.proofs.Filling.{filled_next}
use Rattle.span_table.proofs.fill_axis.Goals as goal

pub overflow_sub-n : goal.overflow_sub-n
overflow_sub-n c = omega (arith, (sound-lists _ _ _ c.requires.picks_value).number)

pub copy_picks-requires : goal.copy_picks-requires
copy_picks-requires c = copy-part _ _ _ (sound-lists _ _ _ c.requires.picks_value) _ c.loop-i-test.true

pub ends_of-e-requires : goal.ends_of-e-requires
ends_of-e-requires c =
    let ls = sound-lists _ _ _ c.requires.picks_value in
    let l = c.loop-i-test.true in
    record { a_nonzero = (rw c.copy_picks.ensures (copy_some _ _ _ ls _ l), c.requires.axis_bound.0); by_index = rw c.copy_picks.ensures (copy-atoms _ _ _ ls _ l) }

pub loop-i-preserved : goal.loop-i-preserved
loop-i-preserved c =
    filled_next _ _ _ _ _ _ _ _ _ c.requires.axis_bound.1 c.loop-i-test.true
    (c.ends_of-e.ensures.0 ∙ ap (least_of c.args.xs.now c.args.axis) c.copy_picks.ensures)
    (c.ends_of-e.ensures.1 ∙ ap (greatest_of c.args.xs.now c.args.axis) c.copy_picks.ensures)
    c.loop-i.invariant
