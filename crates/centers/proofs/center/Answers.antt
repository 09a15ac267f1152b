-- What is left to prove of `center`. Assumes nothing.
use mathlib.Core.Path.{sym, ◌∙◌}
use Rattle.centers.specs.Centers.{unwrapped, anchor_of, center_of}
use Rattle.centers.proofs.Sums.{sum_more, sum-none}
use Rattle.centers.proofs.center.Goals as goal

pub loop-p-preserved : goal.loop-p-preserved
unfolding unwrapped
loop-p-preserved c =
    let next = sum_more c.args.cell c.args.xs.now c.wrap-anchor.result c.loop-p.sum c.args.picks.now c.loop-p.p-index c.loop-p-test.true in
    rw (c.add-sum.ensures, c.beside.ensures, c.point-in-loop-p.ensures) (sym next ∙ c.loop-p.invariant)

pub returns : goal.returns
unfolding anchor_of center_of
returns c =
    let all = sym (sum-none c.args.cell c.args.xs.now c.wrap-anchor.result c.loop-p.sum c.args.picks.now c.loop-p.p-index c.loop-p-test.false) ∙ c.loop-p.invariant in
    c.wrap.ensures ∙ rw (c.divide.ensures, all, c.wrap-anchor.ensures, c.point.ensures)
