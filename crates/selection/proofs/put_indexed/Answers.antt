-- What is left to prove of `put_indexed`. Assumes nothing.
use mathlib.Core.Path.{ap, sym, ◌∙◌}
use native.Mathlib.Omega.{arith}
use lib.ListN.{length}
use Rattle.base.proofs.Filling.{filling-next, filling-last}
use Rattle.selection.proofs.Picked.{indexed-hit, indexed-skip, indexed-none}
use Rattle.selection.proofs.put_indexed.Goals as goal
use Rattle.selection.proofs.put_indexed.Goals.{then-named, else-named}

pub bounds-picks-end : goal.bounds-picks-end
bounds-picks-end c =
    let a = c.args in
    omega (arith, ap length (indexed-hit a.xs.now a.per a.base a.indices.now c.loop-i.i-index (omega arith) (sym c.named.ensures ∙ c.if-named.true)))

pub loop-i-preserved : goal.loop-i-preserved
loop-i-preserved c =
    let a = c.args in
    elim c.if-named.branch [
      | then-named w ↦ rw (w.end-is, w.picks-is) (filling-next (rw (indexed-hit a.xs.now a.per a.base a.indices.now c.loop-i.i-index (omega arith) (sym c.named.ensures ∙ w.if-named.true)) at c.loop-i.invariant))
      | else-named w ↦ rw (w.end-is, w.picks-is) (rw (indexed-skip a.xs.now a.per a.base a.indices.now c.loop-i.i-index (omega arith) (sym c.named.ensures ∙ w.if-named.false)) at c.loop-i.invariant)
    ]

pub returns : goal.returns
returns c =
    let a = c.args in
    let z = rw (indexed-none a.xs.now a.per a.base a.indices.now c.loop-i.i-index (omega arith)) at c.loop-i.invariant in
    record { value = omega (arith, z.left); picks_after = filling-last z }
