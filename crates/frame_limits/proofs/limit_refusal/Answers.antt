-- `frame_limits::limit_refusal` meets its contract. The refusals are one chain of tests (`limit-chain`), and each return knows
-- the tests up to it. Assumes nothing.
use Rattle.frame_limits.proofs.FrameRefusals.{limit-chain}
use Rattle.frame_limits.proofs.limit_refusal.Goals as goal

pub returns-then-ragged : goal.returns-then-ragged
returns-then-ragged c = rw (limit-chain, ← c.ragged.ensures, ← c.ragged-2.ensures, c.if-ragged.true)

pub returns-then-long-indices : goal.returns-then-long-indices
returns-then-long-indices c = rw (limit-chain, ← c.ragged.ensures, ← c.ragged-2.ensures, c.if-ragged.false, ← c.long.ensures, ← c.long-2.ensures, c.if-long-indices.true)

pub returns-then-bound_over : goal.returns-then-bound_over
returns-then-bound_over c = rw (limit-chain, ← c.ragged.ensures, ← c.ragged-2.ensures, c.if-ragged.false, ← c.long.ensures, ← c.long-2.ensures, c.if-long-indices.false, ← c.bound_over.ensures, c.if-bound_over.true)

pub returns-then-coordinate_over : goal.returns-then-coordinate_over
returns-then-coordinate_over c = rw (limit-chain, ← c.ragged.ensures, ← c.ragged-2.ensures, c.if-ragged.false, ← c.long.ensures, ← c.long-2.ensures, c.if-long-indices.false, ← c.bound_over.ensures, c.if-bound_over.false, ← c.coordinate_over.ensures, ← c.coordinate_over-2.ensures, c.if-coordinate_over.true)

pub returns : goal.returns
returns c = rw (limit-chain, ← c.ragged.ensures, ← c.ragged-2.ensures, c.if-ragged.false, ← c.long.ensures, ← c.long-2.ensures, c.if-long-indices.false, ← c.bound_over.ensures, c.if-bound_over.false, ← c.coordinate_over.ensures, ← c.coordinate_over-2.ensures, c.if-coordinate_over.false)
