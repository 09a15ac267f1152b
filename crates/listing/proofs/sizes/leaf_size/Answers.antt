-- `listing::sizes::leaf_size` meets its contract: the bytes that the line has besides its numbers, and theirs. Assumes nothing.
use native.Mathlib.Omega.{arith}
use Rattle.listing.proofs.Lengths.{length-leaf}
use Rattle.listing.proofs.sizes.leaf_size.Goals as goal

pub returns : goal.returns
returns c = omega (arith, length-leaf c.args.leaf.now 0)
