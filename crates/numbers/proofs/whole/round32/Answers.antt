-- `numbers::whole::round32` meets its contract: below 2^23 in size the sum rounds (`round-by-sum`), and from there on x stays (`round-stays`).
-- Assumes nothing.
use Rattle.std.proofs.Common.{◌≡◌, not, T, sym, ap, ◌∙◌, subst}
use lib.Ieee.{Float, binary32, neg, add, sub, mul, lt, fits, of_bits}
use Rattle.floats.proofs.Tests.{holds, fails}
use Rattle.floats.proofs.SizeTests.{zero32}
use Rattle.floats.proofs.WholeBySum.{limit, to_even, to_away, size_of, opposite, round-by-sum, round-stays}
use Rattle.numbers.proofs.whole.round32.Goals as goal
use Rattle.numbers.proofs.whole.round32.Goals.{then-x, else-x}

pub returns-then-size : goal.returns-then-size
unfolding of_bits
returns-then-size c =
    let held : T (fits binary32 c.args.x) = subst T (sym c.well_formed.0.1) tt in
    let x = c.args.x in
    let size = c.larger-size in
    let away : add binary32 (to_even binary32 size.result) c.unit.result ≡ to_away binary32 (size_of x) =
    ap (add binary32 (to_even binary32 size.result)) c.unit.ensures ∙ ap (λ (z : Float). to_away binary32 z) size.ensures in
    let turned : c.if-x.opposite ≡ opposite x (to_away binary32 (size_of x)) =
    elim c.if-x.branch [ then-x w ↦ w.opposite-is ∙ rw w.if-x.true (ap neg away) | else-x w ↦ w.opposite-is ∙ rw w.if-x.false away ] in
    ap (sub binary32 (mul binary32 x zero32)) turned
    ∙ round-by-sum binary32 x held (subst (λ (z : Float). T (lt z (limit binary32))) size.ensures (holds c.if-size.true))

pub returns : goal.returns
unfolding of_bits
returns c =
    let held : T (fits binary32 c.args.x) = subst T (sym c.well_formed.0.1) tt in
    round-stays binary32 c.args.x held (subst (λ (z : Float). T (not (lt z (limit binary32)))) c.larger-size.ensures (fails c.if-size.false))
