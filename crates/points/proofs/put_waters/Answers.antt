-- What is left to prove of `put_waters`. Assumes nothing.
use mathlib.Core.Path.{sym, ap, ◌∙◌}
use Rattle.cell.specs.Cell.{finite_point}
use Rattle.points.proofs.WaterList.{writing-first, writing-finite, writing-other, writing-last}
use Rattle.points.proofs.put_waters.Goals as goal
use Rattle.points.proofs.put_waters.Goals.{then-is_finite, else-is_finite}

pub loop-k-init : goal.loop-k-init
loop-k-init c = writing-first c.requires

pub loop-k-preserved : goal.loop-k-preserved
loop-k-preserved c =
    let less = c.loop-k-test.true in
    let p = c.point-p.ensures in
    let test = sym c.is_finite.ensures in
    elim c.if-is_finite.branch [
      | then-is_finite w ↦ rw (w.m-is, w.out-is, w.wrap-w.ensures, p) (writing-finite less (ap finite_point (sym p) ∙ test ∙ w.if-is_finite.true) c.loop-k.invariant)
      | else-is_finite w ↦ rw (w.m-is, w.out-is) (writing-other less (ap finite_point (sym p) ∙ test ∙ w.if-is_finite.false) c.loop-k.invariant)
    ]

pub returns : goal.returns
returns c = let r = writing-last c.loop-k-test.false c.loop-k.invariant in record { count = r.0; after = r.1 }
