-- `selection::put_copy` meets its contract. Where the indices picked nothing, nothing was written, and all finite atoms are.
-- Assumes nothing.
use mathlib.Core.Path.{◌∙◌}
use Prim.Native.Nat.{◌≤◌}
use native.Mathlib.Omega.{arith}
use lib.ListN.{length}
use Rattle.base.proofs.Placing.{placed-empty}
use Rattle.selection.specs.Selection.{indexed}
use Rattle.selection.proofs.Picked.{picked-indexed, picked-finite, indexed-within}
use Rattle.selection.proofs.put_copy.Goals as goal

pub put_indexed-end-requires : goal.put_indexed-end-requires
put_indexed-end-requires c =
    let a = c.args in
    record { per_in_bounds = c.requires.per_in_bounds; indices_in_bounds = omega (arith, indexed-within a.xs.now a.per a.base a.indices.now) }

-- where the indices picked something, those are the copy's picks,
-- and all of them are written
pub returns-then-end-at : goal.returns-then-end-at
returns-then-end-at c =
    let a = c.args in
    let e = picked-indexed a.xs.now a.per a.base a.indices.now (omega (arith, c.put_indexed-end.ensures.value)) in
    rw e c.put_indexed-end.ensures

pub put_finite-requires : goal.put_finite-requires
put_finite-requires c =
    let a = c.args in
    let p = c.put_indexed-end in
    let few : length (indexed a.xs.now a.per a.base a.indices.now) ≤ 0 = omega (arith, p.ensures.value) in
    let same = p.ensures.picks_after ∙ placed-empty a.at (indexed a.xs.now a.per a.base a.indices.now) a.picks.now few in
    record { per_in_bounds = c.requires.per_in_bounds; base_in_bounds = rw (same, ← picked-finite a.xs.now a.per a.base a.indices.now few) c.requires.base_in_bounds }

pub returns : goal.returns
returns c =
    let a = c.args in
    let p = c.put_indexed-end in
    let few : length (indexed a.xs.now a.per a.base a.indices.now) ≤ 0 = omega (arith, p.ensures.value) in
    let same = p.ensures.picks_after ∙ placed-empty a.at (indexed a.xs.now a.per a.base a.indices.now) a.picks.now few in
    rw (← same, picked-finite a.xs.now a.per a.base a.indices.now few) c.put_finite.ensures
