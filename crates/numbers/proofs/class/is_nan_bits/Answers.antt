-- `numbers::class::is_nan_bits` meets its contract: the mask takes the sign away, and above infinity's pattern stand the NaNs (`Patterns`). Assumes
-- nothing.
use Rattle.std.proofs.Common.{◌*◌, ltb, sym, ap, ◌∙◌}
use lib.Ieee.Bits.{nan_bits_above}
use Rattle.floats.proofs.Patterns.{unsigned_is}
use Rattle.numbers.proofs.class.is_nan_bits.Goals as goal

pub returns : goal.returns
returns g c =
    let f = g.W.Width.format in
    let laws = g.met.W.Width in
    rw (c.INFINITY_BITS.ensures, c.to_u64.ensures.same, c.SIGN_BIT.ensures, laws.infinity_is, laws.sign_is)
    (ap (ltb (lib.Ieee.ones f * lib.Ieee.hid f)) (unsigned_is f (g.W.Width.number c.args.b)) ∙ sym (nan_bits_above f (g.W.Width.number c.args.b)))
