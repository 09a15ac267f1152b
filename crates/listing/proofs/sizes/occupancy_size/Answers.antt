-- `listing::sizes::occupancy_size` meets its contract: the definition's two cases have three and eight bytes. Assumes nothing.
use native.Mathlib.Omega.{arith}
use borrow.Author.Tests.{eq-eqb, ne_eqb}
use Rattle.text.specs.Text.{hex, occupancy}
use Rattle.text.proofs.Numerals.{length_digits}
use Rattle.listing.proofs.sizes.occupancy_size.Goals as goal

pub returns-then-w-eq0 : goal.returns-then-w-eq0
unfolding occupancy
returns-then-w-eq0 c = (rw (eq-eqb c.args.w 0 c.if-w-eq0.true), omega arith)

pub returns-else-w-eq0 : goal.returns-else-w-eq0
unfolding occupancy hex
returns-else-w-eq0 c = (rw (ne_eqb c.args.w 0 c.if-w-eq0.false, length_digits 16 8 c.args.w), omega arith)
