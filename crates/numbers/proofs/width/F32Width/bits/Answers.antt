-- Here the code's `bits` meets `Width`'s contract: a value comes back from its pattern. Assumes nothing.
use Rattle.std.specs.Bool.{passes}
use lib.Ieee.{binary32}
use lib.Ieee.Bits.{of_bits-to_bits}
use Rattle.numbers.proofs.width.F32Width.bits.Goals as goal

pub returns-clause-back : goal.returns-clause-back
returns-clause-back c = of_bits-to_bits binary32 c.args.self (passes _ c.well_formed.0.1)
