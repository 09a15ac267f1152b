-- `pick_lists::starts_sound` meets its contract: outside the limits on their number the starts are not sound, and inside the tests are
-- the definition's. Assumes nothing.
use mathlib.Core.Path.{sym}
use Rattle.pick_lists.proofs.SoundLists.{starts-outside, starts-rest}
use Rattle.pick_lists.proofs.starts_sound.Goals as goal

pub returns-then-starts : goal.returns-then-starts
returns-then-starts c = sym (starts-outside c.args.starts.now c.args.picks c.if-starts.true)

pub returns : goal.returns
returns c = rw c.rises.ensures (sym (starts-rest c.args.starts.now c.args.picks c.if-starts.false))
