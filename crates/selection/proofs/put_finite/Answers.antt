-- What is left to prove of `put_finite`. Assumes nothing.
use mathlib.Core.Path.{ap, sym, ◌∙◌}
use native.Mathlib.Omega.{arith}
use lib.ListN.{length}
use Rattle.base.proofs.Filling.{filling-next, filling-last}
use Rattle.selection.proofs.Picked.{finite-hit, finite-skip, finite-none}
use Rattle.selection.proofs.put_finite.Goals as goal
use Rattle.selection.proofs.put_finite.Goals.{then-finite_atom, else-finite_atom}

pub bounds-picks-end : goal.bounds-picks-end
bounds-picks-end c =
    let a = c.args in
    omega (arith, ap length (finite-hit a.xs.now a.per a.base c.loop-k.k (omega arith) (sym c.finite_atom.ensures ∙ c.if-finite_atom.true)))

pub loop-k-preserved : goal.loop-k-preserved
loop-k-preserved c =
    let a = c.args in
    elim c.if-finite_atom.branch [
      | then-finite_atom w ↦ rw (w.end-is, w.picks-is) (filling-next (rw (finite-hit a.xs.now a.per a.base c.loop-k.k (omega arith) (sym c.finite_atom.ensures ∙ w.if-finite_atom.true)) at c.loop-k.invariant))
      | else-finite_atom w ↦ rw (w.end-is, w.picks-is) (rw (finite-skip a.xs.now a.per a.base c.loop-k.k (omega arith) (sym c.finite_atom.ensures ∙ w.if-finite_atom.false)) at c.loop-k.invariant)
    ]

pub returns : goal.returns
returns c =
    let a = c.args in
    let z = rw (finite-none a.xs.now a.per a.base c.loop-k.k (omega arith)) at c.loop-k.invariant in
    record { value = omega (arith, z.left); picks_after = filling-last z }
