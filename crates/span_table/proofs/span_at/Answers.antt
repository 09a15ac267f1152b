-- `span_table::span_at` meets its contract: six entries of the table. Assumes nothing.
use mathlib.Core.Path.{refl}
use Rattle.span_table.specs.Inner.{span_at}
use Rattle.span_table.proofs.span_at.Goals as goal

pub returns : goal.returns
unfolding span_at
returns c = refl
