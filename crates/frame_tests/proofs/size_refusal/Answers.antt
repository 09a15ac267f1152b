-- `frame_tests::size_refusal` meets its contract: each return knows the tests before it, in the order of the list. Assumes nothing.
use borrow.Author.Tests.{lt-ltb, le-ltb}
use Rattle.base.specs.Limits.{max_copies, max_picks}
use Rattle.base.specs.Refusals.{first_refusal}
use Rattle.cell.specs.Reach.{reach}
use Rattle.frame_tests.specs.Tests.{size_refusals}
use Rattle.frame_tests.proofs.size_refusal.Goals as goal

pub returns-then-copies-gt-MAX_COPIES : goal.returns-then-copies-gt-MAX_COPIES
unfolding size_refusals first_refusal
returns-then-copies-gt-MAX_COPIES c = rw (lt-ltb max_copies c.args.copies c.if-copies-gt-MAX_COPIES.true)

pub returns-then-picked-gt-MAX_PICKS : goal.returns-then-picked-gt-MAX_PICKS
unfolding size_refusals first_refusal
returns-then-picked-gt-MAX_PICKS c = rw (le-ltb max_copies c.args.copies c.if-copies-gt-MAX_COPIES.false, lt-ltb max_picks c.args.picked c.if-picked-gt-MAX_PICKS.true)

pub returns-then-not-reaches : goal.returns-then-not-reaches
unfolding size_refusals reach first_refusal
returns-then-not-reaches c =
    let a = c.args in
    rw (le-ltb max_copies a.copies c.if-copies-gt-MAX_COPIES.false, le-ltb max_picks a.picked c.if-picked-gt-MAX_PICKS.false, ← c.sound_reach-reaches.ensures, c.if-not-reaches.true)

pub returns-then-short : goal.returns-then-short
unfolding size_refusals reach first_refusal
returns-then-short c =
    let a = c.args in
    rw (le-ltb max_copies a.copies c.if-copies-gt-MAX_COPIES.false, le-ltb max_picks a.picked c.if-picked-gt-MAX_PICKS.false, ← c.sound_reach-reaches.ensures, c.if-not-reaches.false, c.if-short.true)

pub returns : goal.returns
unfolding size_refusals reach first_refusal
returns c =
    let a = c.args in
    rw (le-ltb max_copies a.copies c.if-copies-gt-MAX_COPIES.false, le-ltb max_picks a.picked c.if-picked-gt-MAX_PICKS.false, ← c.sound_reach-reaches.ensures, c.if-not-reaches.false, c.if-short.false)
