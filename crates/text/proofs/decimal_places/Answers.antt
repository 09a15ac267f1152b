-- `text::decimal_places` meets its contract: the logarithm of a number, and of 1 for 0. Assumes nothing.
use Rattle.std.proofs.Common.{arith}
use Rattle.text.proofs.Numerals.{places-between}
use Rattle.text.proofs.decimal_places.Goals as goal

pub returns : goal.returns
returns c =
    let e = c.max.ensures in
    let l = c.ilog10.ensures in
    (places-between _ c.args.n l.bound (rw e at l.power_le) (rw e at l.next_power_gt), omega (arith, l.bound))
