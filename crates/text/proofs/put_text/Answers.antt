-- `text::put_text` meets its contract: the part of the buffer that the text fills. Assumes nothing.
use Rattle.std.proofs.Common.{refl}
use Rattle.base.proofs.Placing.{placed-part}
use Rattle.text.proofs.put_text.Goals as goal

pub returns : goal.returns
returns c = (refl, rw c.copy_from_slice.ensures.after (placed-part c.args.text.now c.args.out.now c.args.at _ refl))
