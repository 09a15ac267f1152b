-- Here the code's `bits` meets `Width`'s contract: a value comes back from its pattern. Assumes nothing.
use Rattle.std.specs.Bool.{passes}
use lib.Ieee.{binary64}
use lib.Ieee.Bits.{of_bits-to_bits}
use Rattle.numbers.proofs.width.F64Width.bits.Goals as goal

pub returns-clause-back : goal.returns-clause-back
returns-clause-back c = of_bits-to_bits binary64 c.args.self (passes _ c.well_formed.0.1)
