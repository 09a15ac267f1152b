-- `listing::put_listing` meets its contract. Each refusal's test says that the leaf table or the buffer is too short; past the last the text has
-- room. Assumes nothing.
use mathlib.Core.Path.{sym, ◌∙◌}
use Prim.Native.Nat.{◌*◌}
use native.Mathlib.Omega.{arith}
use lib.ListN.{length}
use borrow.Author.Tests.{lt-ltb, le-ltb, leb-true, leb-false}
use Rattle.listing.proofs.Lengths.{length-listing}
use Rattle.listing.proofs.Answers.{cramped, cramped-room, written-room}
use Rattle.listing.proofs.put_listing.Goals as goal

pub returns-then-leaves-count : goal.returns-then-leaves-count
returns-then-leaves-count c =
    let a = c.args in
    cramped _ _ _ (rw (lt-ltb (length a.leaves.now) (a.m.report.leaves * 8) (omega arith)))

pub returns-then-out-head : goal.returns-then-out-head
returns-then-out-head c =
    let a = c.args in
    cramped-room _ _ _ (omega (arith, length-listing c.args.m c.args.leaves.now))

pub returns-then-not-leaves_fit : goal.returns-then-not-leaves_fit
returns-then-not-leaves_fit c =
    let a = c.args in
    let over = leb-false _ _ (sym c.leaves_fit.ensures ∙ c.if-not-leaves_fit.true) in
    cramped-room _ _ _ (omega (arith, over, length-listing c.args.m c.args.leaves.now))

pub put_lines-requires : goal.put_lines-requires
put_lines-requires c =
    let a = c.args in
    let fits = leb-true _ _ (sym c.leaves_fit.ensures ∙ c.if-not-leaves_fit.false) in
    (omega arith, omega (arith, fits, length-listing c.args.m c.args.leaves.now))

pub returns : goal.returns
returns c =
    let a = c.args in
    let fits = leb-true _ _ (sym c.leaves_fit.ensures ∙ c.if-not-leaves_fit.false) in
    written-room _ _ _ (le-ltb (length a.leaves.now) (a.m.report.leaves * 8) (omega arith)) (omega (arith, fits, length-listing c.args.m c.args.leaves.now)) c.put_lines.ensures
