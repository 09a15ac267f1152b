-- `text::put_word` meets its contract: eight digits, and the byte after them. Assumes nothing.
use native.Mathlib.Omega.{arith}
use Rattle.text.specs.Text.{hex}
use Rattle.text.proofs.Writing.{digits-after, length-after}
use Rattle.text.proofs.put_word.Goals as goal

pub put_digits-end-requires : goal.put_digits-end-requires
unfolding hex
put_digits-end-requires c =
    let a = c.args in
    omega (arith, length-after 16 8 a.w a.after)

pub bounds-out-end : goal.bounds-out-end
unfolding hex
bounds-out-end c =
    let a = c.args in
    omega (arith, length-after 16 8 a.w a.after)

pub returns : goal.returns
unfolding hex
returns c =
    let a = c.args in
    let d = c.put_digits-end.ensures in
    let n = length-after 16 8 a.w a.after in
    (omega (arith, n), rw (d.0, d.1) (digits-after 16 8 a.w a.after a.at a.out.now (omega (arith, n))))
