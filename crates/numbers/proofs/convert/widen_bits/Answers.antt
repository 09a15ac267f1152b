-- `numbers::convert::widen_bits` meets its contract: the float form between the two ends. Assumes nothing.
use Rattle.std.proofs.Common.{ap, ◌∙◌}
use lib.Ieee.{binary64, to_bits}
use Rattle.numbers.proofs.convert.widen_bits.Goals as goal

pub returns : goal.returns
returns c = c.to_bits.ensures ∙ ap (to_bits binary64) (c.widen.ensures ∙ c.from_bits.ensures)
