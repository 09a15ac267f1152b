-- What is left to prove of `each_finite`. Assumes nothing.
use Rattle.std.proofs.Common.{arith, sym, ◌∙◌}
use Rattle.std.proofs.lemmas.Grind.{common_steps}
use Rattle.std.proofs.lemmas.List.Folds.{list_all_at}
use Rattle.pick_lists.proofs.SoundLists.{names_finite, all-names}
use Rattle.pick_lists.proofs.each_finite.Goals as goal

pub returns-then-not-named : goal.returns-then-not-named
returns-then-not-named c =
    let a = c.args in
    sym (list_all_at (names_finite a.xs.now) a.picks.now c.loop-p.p-index 0 c.loop-p-test.true (sym c.named.ensures ∙ c.if-not-named.true)) ∙ all-names a.xs.now a.picks.now

pub returns : goal.returns
returns c = rw (← all-names c.args.xs.now c.args.picks.now) (grind (arith, common_steps))
