-- `sound_parents::ends` meets its contract. The loop's invariant is `Climb`: what this walk stamped leads to k, and what an earlier walk stamped
-- reaches a root. The measure is how many copies have no stamp; each turn stamps one.
-- Assumes nothing.
use lib.ListN.{length, get_or}
use lib.Dec.{eqb}
use Rattle.base.specs.Range.{count}
use Rattle.sound_parents.proofs.Climbs.{Climb}
use Rattle.sound_parents.proofs.ends.Given as goal

abbrev pub invariant-loop-seen : goal.invariant-loop-seen
invariant-loop-seen l = Climb l.parent l.i l.seen l.k

abbrev pub decreases-loop-seen : goal.decreases-loop-seen
decreases-loop-seen l = count (length l.parent) (λ c. eqb (get_or l.seen c 0) 0)
