-- What is left to prove of `next_close`. Assumes nothing.
use mathlib.Core.Path.{◌≡◌, sym, ◌∙◌}
use Prim.Native.Nat.{◌-◌}
use lib.ListN.{length}
use native.Mathlib.Omega.{arith}
use Rattle.pick_lists.proofs.SoundLists.{sound-lists}
use Rattle.spans.proofs.Past.{past-on, past-here, past-none}
use Rattle.spans.proofs.next_close.Goals as goal

pub overflow_sub-n : goal.overflow_sub-n
overflow_sub-n g c = omega (arith, (sound-lists _ _ _ c.requires.picks_value).number)

pub returns-then-not-row_apart : goal.returns-then-not-row_apart
returns-then-not-row_apart g c =
    sym (past-here _ _ _ c.loop-k-test.true (sym c.row_apart.ensures ∙ c.if-not-row_apart.true)) ∙ c.loop-k.invariant

pub loop-k-preserved : goal.loop-k-preserved
loop-k-preserved g c =
    sym (past-on _ _ _ c.loop-k-test.true (sym c.row_apart.ensures ∙ c.if-not-row_apart.false)) ∙ c.loop-k.invariant

pub returns : goal.returns
returns g c =
    let a = c.loop-k in
    let last : a.k ≡ length c.args.starts.now - 1 = omega (arith, a.auto.k-end c.requires.j_bound) in
    sym last ∙ sym (past-none _ _ _ c.loop-k-test.false) ∙ a.invariant
