-- `spans::outside` meets its contract: its six tests are the definition. Assumes nothing.
use mathlib.Core.Path.{refl}
use Rattle.spans.specs.Inner.{outside_of}
use Rattle.spans.proofs.outside.Goals as goal

pub returns : goal.returns
unfolding outside_of
returns c = refl
