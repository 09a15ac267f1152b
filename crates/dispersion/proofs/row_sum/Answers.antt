-- What is left to prove of `row_sum`. Assumes nothing.
use Rattle.std.proofs.Common.{◌≡◌, ◌+◌, ◌*◌, sym, ◌∙◌, arith}
use Rattle.dispersion.proofs.Sums.{row_block}
use Rattle.dispersion.proofs.row_sum.Goals as goal

pub loop-b-preserved : goal.loop-b-preserved
loop-b-preserved c =
    let from = c.args.i + 1 + c.loop-b.b * 16 in
    let next = row_block c.args.e c.args.centers.now c.args.n c.args.i from 16 c.loop-b.sum (omega arith) in
    let at : c.args.i + 1 + (c.loop-b.b + 1) * 16 ≡ from + 16 = omega arith in
    rw (at, c.block_sum-sum.ensures) (sym next ∙ c.loop-b.invariant)
