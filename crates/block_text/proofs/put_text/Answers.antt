-- `block_text::put_text` meets its contract: every text fits the buffer (Room), so that it is written whole. Assumes nothing.
use mathlib.Core.Path.{◌≡◌}
use native.Mathlib.Omega.{arith}
use lib.ListN.{length}
use Rattle.listing.proofs.Answers.{whole}
use Rattle.block_text.specs.Printed.{printed, text_room}
use Rattle.block_text.proofs.Room.{printed-fits}
use borrow.Author.Rules.{rules}
use Rattle.block_text.proofs.put_text.Goals as goal

pub returns : goal.returns
returns c =
    let fits = printed-fits c.args.bytes.now in
    let w = whole (printed c.args.bytes.now) _ (search (rules, fits)) c.put_block.ensures in
    let n : c.unwrap_or.result ≡ length (printed c.args.bytes.now) = rw w.0 at c.unwrap_or.ensures in
    let same : length c.put_block.new.out ≡ text_room = search rules in
    record { written = (n, omega (arith, n, fits, same)); after = w.1 }
