-- What is left to prove of `count_waters`. Assumes nothing.
use mathlib.Core.Path.{sym, ap, ◌∙◌}
use Rattle.cell.specs.Cell.{finite_point}
use Rattle.points.proofs.WaterList.{counting-first, counting-finite, counting-other, counting-last}
use Rattle.points.proofs.count_waters.Goals as goal
use Rattle.points.proofs.count_waters.Goals.{then-is_finite, else-is_finite}

pub loop-k-init : goal.loop-k-init
loop-k-init c = counting-first

pub loop-k-preserved : goal.loop-k-preserved
loop-k-preserved c =
    let less = c.loop-k-test.true in
    let p = c.point.ensures in
    let test = ap finite_point (sym p) ∙ sym c.is_finite.ensures in
    elim c.if-is_finite.branch [
      | then-is_finite w ↦ rw w.m-is (counting-finite less (test ∙ w.if-is_finite.true) c.loop-k.invariant)
      | else-is_finite w ↦ rw w.m-is (counting-other less (test ∙ w.if-is_finite.false) c.loop-k.invariant)
    ]

pub returns : goal.returns
returns c = counting-last c.loop-k-test.false c.loop-k.invariant
