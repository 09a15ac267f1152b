-- `text::put_number` meets its contract: the digits that n has, and the byte after them. Assumes nothing.
use native.Mathlib.Omega.{arith}
use Rattle.text.specs.Text.{places, decimal}
use Rattle.text.proofs.Writing.{digits-after, length-after}
use Rattle.text.proofs.put_number.Goals as goal

pub put_digits-end-requires : goal.put_digits-end-requires
unfolding decimal
put_digits-end-requires c =
    let a = c.args in
    omega (arith, length-after 10 (places a.n) a.n a.after)

pub bounds-out-end : goal.bounds-out-end
unfolding decimal
bounds-out-end c =
    let a = c.args in
    omega (arith, length-after 10 (places a.n) a.n a.after)

pub returns : goal.returns
unfolding decimal
returns c =
    let a = c.args in
    let k = c.decimal_places.ensures.0 in
    let d = c.put_digits-end.ensures in
    let n = length-after 10 (places a.n) a.n a.after in
    (omega (arith, n), rw (d.0, d.1, k) (digits-after 10 (places a.n) a.n a.after a.at a.out.now (omega (arith, n))))
