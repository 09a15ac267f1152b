-- The text of a start that is longer than a block may be is the whole input's.
use Rattle.std.proofs.Common.{ap, ◌∙◌}
use Rattle.block_text.specs.Printed.{printed}
use Rattle.block_text.proofs.Room.{printed-start}
use Rattle.frame_io.proofs.put_input.Goals as goal

pub returns-clause-text : goal.returns-clause-text
returns-clause-text c = λ s h.
    let e = ap printed h ∙ printed-start _ s c.requires.0 in
    (rw e at c.put_text.ensures.written.0, rw e at c.put_text.ensures.after)
