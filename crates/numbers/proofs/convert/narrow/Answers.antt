-- `numbers::convert::narrow` meets its contract: it goes by the bit patterns, and a value comes back from its pattern. Assumes nothing.
use Rattle.std.proofs.Common.{ℕ, T, sym, ap, ◌∙◌, subst}
use lib.Ieee.{binary32, binary64, fits, of_bits, to_bits}
use Rattle.floats.specs.Convert.{narrow_of}
use Rattle.floats.proofs.Through.{narrow-fits, by_bits}
use Rattle.numbers.proofs.convert.narrow.Goals as goal

pub returns : goal.returns
returns c =
    let held : T (fits binary64 c.args.x) = subst T (sym c.well_formed.0.1) tt in
    c.from_bits.ensures
    ∙ by_bits binary64 binary32 (narrow_of binary32) c.args.x c.narrow_bits.result held (narrow-fits binary32 c.args.x) (c.narrow_bits.ensures ∙ ap (λ (n : ℕ). to_bits binary32 (narrow_of binary32 (of_bits binary64 n))) c.to_bits.ensures)
