-- What is left to prove of `count_finite`. Assumes nothing.
use mathlib.Core.Path.{ap, sym, ◌∙◌}
use native.Mathlib.Omega.{arith}
use lib.ListN.{length}
use Rattle.selection.proofs.Picked.{finite-hit, finite-skip, finite-none}
use Rattle.selection.proofs.count_finite.Goals as goal
use Rattle.selection.proofs.count_finite.Goals.{then-finite_atom, else-finite_atom}

pub loop-k-preserved : goal.loop-k-preserved
loop-k-preserved c =
    let a = c.args in
    elim c.if-finite_atom.branch [
      | then-finite_atom w ↦ omega (arith, ap length (finite-hit a.xs.now a.per a.base c.loop-k.k (omega arith) (sym c.finite_atom.ensures ∙ w.if-finite_atom.true)))
      | else-finite_atom w ↦ omega (arith, ap length (finite-skip a.xs.now a.per a.base c.loop-k.k (omega arith) (sym c.finite_atom.ensures ∙ w.if-finite_atom.false)))
    ]

pub returns : goal.returns
returns c =
    let a = c.args in
    omega (arith, ap length (finite-none a.xs.now a.per a.base c.loop-k.k (omega arith)))
