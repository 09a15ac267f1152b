-- `numbers::class::to_bits` meets its contract: a NaN has the one pattern. Assumes nothing.
use Rattle.std.proofs.Common.{ap, sym, subst, ◌∙◌, T}
use lib.Ieee.{to_bits, nan}
use lib.Ieee.Bits.{to_bits-lt}
use lib.Ieee.Fits.{nan-fits}
use Rattle.floats.proofs.Patterns.{nan-of}
use Rattle.numbers.proofs.class.to_bits.Goals as goal

pub from_u64-requires : goal.from_u64-requires
from_u64-requires g c =
    let f = g.W.Width.format in
    rw (c.NAN_BITS.ensures, g.met.W.Width.nan_is) (to_bits-lt f nan (nan-fits f))

pub returns-then-is_nan : goal.returns-then-is_nan
returns-then-is_nan g c =
    let f = g.W.Width.format in
    c.from_u64.ensures ∙ c.NAN_BITS.ensures ∙ g.met.W.Width.nan_is
    ∙ ap (to_bits f) (sym (nan-of (g.W.Width.value c.args.x) (subst T (sym c.if-is_nan.true ∙ c.is_nan.ensures) tt)))
