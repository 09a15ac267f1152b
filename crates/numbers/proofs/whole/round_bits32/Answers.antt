-- `numbers::whole::round_bits32` meets its contract: the float form between the two ends. Assumes nothing.
use Rattle.std.proofs.Common.{ap, ◌∙◌}
use lib.Ieee.{binary32, to_bits}
use Rattle.floats.specs.Whole.{round_of}
use Rattle.numbers.proofs.whole.round_bits32.Goals as goal

pub returns : goal.returns
returns c = c.to_bits.ensures ∙ ap (to_bits binary32) (c.round32.ensures ∙ ap (round_of binary32) c.from_bits.ensures)
