-- `selection::count_copy` meets its contract. Where the indices picked nothing, all finite atoms are picked.
-- Assumes nothing.
use mathlib.Core.Path.{sym, ap, ◌∙◌}
use native.Mathlib.Omega.{arith}
use lib.ListN.{length}
use Rattle.selection.proofs.Picked.{picked-indexed, picked-finite}
use Rattle.selection.proofs.count_copy.Goals as goal

pub returns-then-n-gt0 : goal.returns-then-n-gt0
returns-then-n-gt0 c =
    let a = c.args in
    c.count_indexed-n.ensures ∙ sym (ap length (picked-indexed a.xs.now a.per a.base a.indices.now (omega arith)))

pub returns : goal.returns
returns c =
    let a = c.args in
    c.count_finite.ensures ∙ sym (ap length (picked-finite a.xs.now a.per a.base a.indices.now (omega arith)))
