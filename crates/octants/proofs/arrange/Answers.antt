-- `arrange` meets its contract: the list is saved, its octants noted and counted, and each point dealt to its octant's place.
-- Assumes nothing.
use Rattle.std.proofs.Common.{arith}
use Rattle.octants.proofs.Sorting.{counts-sum, dealable, arranged}
use Rattle.octants.proofs.arrange.Goals as goal

pub firsts-places-requires : goal.firsts-places-requires
firsts-places-requires c = omega (arith, counts-sum c.tally.ensures, c.requires.few)

pub deal-requires : goal.deal-requires
deal-requires c = dealable c.tally.ensures c.paste.ensures (omega arith) (omega (arith, c.requires.room-k)) c.firsts-places.ensures

pub returns : goal.returns
returns c = arranged c.tally.ensures c.paste.ensures c.deal.ensures
