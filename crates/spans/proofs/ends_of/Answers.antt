-- What is left to prove of `ends_of`. Assumes nothing.
use mathlib.Core.Path.{sym, ◌∙◌}
use Rattle.std.proofs.lemmas.List.{take_rest}
use Rattle.spans.proofs.Least.{least_first, least-next, least-last, greatest-first, greatest-next, greatest-last}
use Rattle.spans.proofs.Parts.{rest-at}
use Rattle.spans.proofs.ends_of.Goals as goal

pub loop-p-init : goal.loop-p-init
loop-p-init c =
    let a = c.args in
    let some = c.requires.a_nonzero.0 in
    rw (take_rest a.a.now 1, c.coordinate-lo.ensures) (least_first a.xs.now a.axis a.a.now some, greatest-first a.xs.now a.axis a.a.now some)

pub coordinate-v-requires : goal.coordinate-v-requires
coordinate-v-requires c =
    let at = rest-at c.args.a.now 1 c.loop-p.p-index c.loop-p-test.true in
    (rw at.1 (c.requires.by_index _ at.0), c.requires.a_nonzero.1)

pub loop-p-preserved : goal.loop-p-preserved
loop-p-preserved c =
    let l = c.loop-p-test.true in (
      rw (c.smaller-lo.ensures, c.coordinate-v.ensures) (least-next _ _ _ _ _ l ∙ c.loop-p.invariant.0),
      rw (c.larger-hi.ensures, c.coordinate-v.ensures) (greatest-next _ _ _ _ _ l ∙ c.loop-p.invariant.1),
    )

pub returns : goal.returns
returns c =
    let i = c.loop-p.invariant in
    (sym (least-last _ _ _ _ _ c.loop-p-test.false) ∙ i.0, sym (greatest-last _ _ _ _ _ c.loop-p-test.false) ∙ i.1)
