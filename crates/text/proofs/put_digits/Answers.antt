-- A digit is written before the others, and past the first none is left. Assumes nothing.
use Rattle.std.proofs.Common.{refl, sym, ◌∙◌, arith}
use Rattle.base.proofs.Placing.{placed-empty}
use Rattle.text.proofs.Numerals.{length_digits}
use Rattle.text.proofs.Writing.{placed-digit}
use Rattle.text.proofs.put_digits.Goals as goal

pub loop-i-preserved : goal.loop-i-preserved
loop-i-preserved c =
    let a = c.args in
    rw c.glyph.ensures (placed-digit a.base c.loop-i.i c.loop-i.m a.at c.loop-i.out (omega arith) (omega arith)) ∙ c.loop-i.invariant

pub returns : goal.returns
returns c =
    (refl, sym (placed-empty c.args.at _ c.loop-i.out (omega (arith, length_digits c.args.base c.loop-i.i c.loop-i.m))) ∙ c.loop-i.invariant)
