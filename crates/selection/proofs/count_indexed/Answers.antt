-- What is left to prove of `count_indexed`. Assumes nothing.
use mathlib.Core.Path.{ap, sym, ◌∙◌}
use native.Mathlib.Omega.{arith}
use lib.ListN.{length}
use Rattle.selection.proofs.Picked.{indexed-hit, indexed-skip, indexed-none}
use Rattle.selection.proofs.count_indexed.Goals as goal
use Rattle.selection.proofs.count_indexed.Goals.{then-named, else-named}

pub loop-i-preserved : goal.loop-i-preserved
loop-i-preserved c =
    let a = c.args in
    elim c.if-named.branch [
      | then-named w ↦ omega (arith, ap length (indexed-hit a.xs.now a.per a.base a.indices.now c.loop-i.i-index (omega arith) (sym c.named.ensures ∙ w.if-named.true)))
      | else-named w ↦ omega (arith, ap length (indexed-skip a.xs.now a.per a.base a.indices.now c.loop-i.i-index (omega arith) (sym c.named.ensures ∙ w.if-named.false)))
    ]

pub returns : goal.returns
returns c =
    let a = c.args in
    omega (arith, ap length (indexed-none a.xs.now a.per a.base a.indices.now c.loop-i.i-index (omega arith)))
