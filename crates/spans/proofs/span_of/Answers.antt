-- `spans::span_of` meets its contract: the ends on each axis. Assumes nothing.
use Rattle.spans.specs.Inner.{span_of}
use Rattle.spans.proofs.span_of.Goals as goal

pub returns : goal.returns
unfolding span_of
returns c = rw (c.ends_of-x.ensures.0, c.ends_of-x.ensures.1, c.ends_of-y.ensures.0, c.ends_of-y.ensures.1, c.ends_of-z.ensures.0, c.ends_of-z.ensures.1)
