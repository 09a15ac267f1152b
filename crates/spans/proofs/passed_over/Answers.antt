-- `spans::passed_over` meets its contract: the three tests are the definition. Assumes nothing.
use mathlib.Core.Path.{ap₂}
use mathlib.Core.Bool.{◌||◌}
use Rattle.spans.specs.Inner.{apart_by, passed_over}
use Rattle.spans.proofs.passed_over.Goals as goal

pub returns : goal.returns
unfolding passed_over apart_by
returns c = ap₂ ◌||◌ c.clear_by.ensures (ap₂ ◌||◌ c.clear_by-2.ensures c.clear_by-3.ensures)
