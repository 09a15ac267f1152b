-- What is left to prove of `mark_by`. Assumes nothing.
use mathlib.Core.Path.{◌≡◌}
use Rattle.spans.specs.Inner.{apart_on}
use Rattle.span_table.specs.Inner.{apart_flag}
use Rattle.span_table.proofs.Flags.{flag-word, marked-first, marked_next, marked-last}
use Rattle.span_table.proofs.mark_by.Goals as goal

pub loop-j-init : goal.loop-j-init
loop-j-init g c = marked-first _ _ _ _ _ c.requires.1 c.requires.3

pub loop-j-preserved : goal.loop-j-preserved
loop-j-preserved g c =
    let flag : c.from.result ≡ apart_flag (apart_on g.T.AxisTest.rejects c.args.g) c.args.table.now c.args.n c.args.i c.loop-j.j =
    rw (c.from.ensures, flag-word, c.apart.ensures, c.span_at-b.ensures, c.span_at.ensures) in
    marked_next _ _ _ _ _ _ _ _ c.loop-j-test.true flag c.loop-j.invariant

pub returns : goal.returns
returns g c = marked-last _ _ _ _ _ _ _ c.loop-j-test.false c.loop-j.invariant
