-- `selection::list_refusal` meets its contract: its tests are the refusals', in their order (`list-chain`). Assumes nothing.
use Rattle.selection.proofs.SelectRefusals.{list-chain}
use Rattle.selection.proofs.list_refusal.Goals as goal

pub returns-then-ragged : goal.returns-then-ragged
returns-then-ragged c = rw (list-chain, ← c.ragged.ensures, c.if-ragged.true)

pub returns-then-long-indices : goal.returns-then-long-indices
returns-then-long-indices c = rw (list-chain, ← c.ragged.ensures, c.if-ragged.false, ← c.long.ensures, c.if-long-indices.true)

pub returns-then-coordinate_over : goal.returns-then-coordinate_over
returns-then-coordinate_over c = rw (list-chain, ← c.ragged.ensures, c.if-ragged.false, ← c.long.ensures, c.if-long-indices.false, ← c.coordinate_over.ensures, c.if-coordinate_over.true)

pub returns : goal.returns
returns c = rw (list-chain, ← c.ragged.ensures, c.if-ragged.false, ← c.long.ensures, c.if-long-indices.false, ← c.coordinate_over.ensures, c.if-coordinate_over.false)
