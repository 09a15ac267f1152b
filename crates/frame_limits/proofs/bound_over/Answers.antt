-- `frame_limits::bound_over` meets its contract. The six tests, one at a time, are the definition's search.
-- Assumes nothing.
use mathlib.Core.Bool.{or-false}
use Rattle.frame_limits.specs.Limits.{bound_over, any_over}
use Rattle.frame_limits.proofs.bound_over.Goals as goal

pub returns : goal.returns
unfolding bound_over any_over
returns c = rw (c.exceeds-6.ensures, c.exceeds-5.ensures, c.exceeds-4.ensures, c.exceeds-3.ensures, c.exceeds-2.ensures, c.exceeds.ensures, or-false)
