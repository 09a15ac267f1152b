-- `selection::room_refusal` meets its contract: its tests are the refusals', in their order. Assumes nothing.
use native.Mathlib.Omega.{arith}
use borrow.Author.Tests.{lt-ltb, le-ltb}
use Rattle.base.specs.Limits.{max_copies, max_picks}
use Rattle.base.specs.Refusals.{first_refusal}
use Rattle.selection.specs.Selection.{room_refusals}
use Rattle.selection.proofs.room_refusal.Goals as goal

pub returns-then-n-gt-MAX_COPIES : goal.returns-then-n-gt-MAX_COPIES
unfolding first_refusal room_refusals
returns-then-n-gt-MAX_COPIES c =
    let n = c.args.n in
    rw (lt-ltb max_copies n.copies (omega arith))

pub returns-then-n-gt-MAX_PICKS : goal.returns-then-n-gt-MAX_PICKS
unfolding first_refusal room_refusals
returns-then-n-gt-MAX_PICKS c =
    let n = c.args.n in
    rw (le-ltb max_copies n.copies (omega arith), lt-ltb max_picks n.picks (omega arith))

pub returns-then-start_room-n : goal.returns-then-start_room-n
unfolding first_refusal room_refusals
returns-then-start_room-n c =
    let n = c.args.n in
    rw (le-ltb max_copies n.copies (omega arith), le-ltb max_picks n.picks (omega arith), c.if-start_room-n.true)

pub returns : goal.returns
unfolding first_refusal room_refusals
returns c =
    let n = c.args.n in
    rw (le-ltb max_copies n.copies (omega arith), le-ltb max_picks n.picks (omega arith), c.if-start_room-n.false)
