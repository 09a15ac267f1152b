-- `selection::chunks` meets its contract: a division where there is something to divide by. Assumes nothing.
use Rattle.std.proofs.Common.{◌≡◌, ℕ, zero, suc, ◌<◌, ◌/◌, Option, None, Some, refl, arith, ◌∙◌}
use Rattle.std.specs.Option.{SomeIff, unwrap_or}
use Rattle.selection.specs.Selection.{chunks}
use Rattle.selection.proofs.chunks.Goals as goal

divided : (per atoms : ℕ) (o : Option ℕ) → SomeIff o (0 < per) (atoms / per) → unwrap_or o 0 ≡ chunks per atoms
unfolding chunks
divided zero atoms None h = refl
divided zero atoms (Some n) h = absurd (omega arith)
divided (suc p) atoms None h = absurd (h (omega arith))
divided (suc p) atoms (Some n) h = h.1

pub returns : goal.returns
returns c = c.unwrap_or.ensures ∙ divided c.args.per c.args.atoms c.checked_div.result c.checked_div.ensures
