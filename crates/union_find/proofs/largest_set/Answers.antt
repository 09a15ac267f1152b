-- `union_find::largest_set` meets its contract: every size is 0 at first. Assumes nothing.
use mathlib.Core.Path.{ap}
use native.Mathlib.Omega.{arith}
use lib.ListN.{length, get_or-replicate}
use Rattle.base.specs.Limits.{max_copies}
use Rattle.union_find.proofs.largest_set.Goals as goal

pub greatest_size-requires-clause-by_index : goal.greatest_size-requires-clause-by_index
greatest_size-requires-clause-by_index c = λ k l. get_or-replicate max_copies k 0 0 (omega (arith, ap length c.copy_from_slice.ensures.after, c.requires.1))
