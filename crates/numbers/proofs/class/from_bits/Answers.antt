-- `numbers::class::from_bits` meets its contract: a NaN's pattern gives the NaN. Assumes nothing.
use Rattle.std.proofs.Common.{sym, ◌∙◌}
use Rattle.floats.proofs.Patterns.{nan-tested}
use Rattle.numbers.proofs.class.from_bits.Goals as goal

pub returns-then-is_nan_bits : goal.returns-then-is_nan_bits
returns-then-is_nan_bits g c = c.nan.ensures ∙ sym (nan-tested g.W.Width.format (g.W.Width.number c.args.b) (sym c.is_nan_bits.ensures ∙ c.if-is_nan_bits.true))
