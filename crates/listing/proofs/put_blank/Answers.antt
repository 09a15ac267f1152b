-- `listing::put_blank` meets its contract: six bytes, if there is room for them. Assumes nothing.
use mathlib.Core.Bool.{false}
use lib.ListN.{length}
use borrow.Author.Tests.{lt-ltb, le-ltb}
use Rattle.listing.specs.Listing.{blank_text}
use Rattle.listing.proofs.Answers.{cramped, written}
use Rattle.listing.proofs.put_blank.Goals as goal

pub returns-then-out-lt6 : goal.returns-then-out-lt6
returns-then-out-lt6 c =
    let out = c.args.out.now in
    cramped false blank_text out (lt-ltb (length out) 6 c.if-out-lt6.true)

pub returns : goal.returns
returns c =
    let out = c.args.out.now in
    written false blank_text out (le-ltb (length out) 6 c.if-out-lt6.false) c.put_text.ensures
