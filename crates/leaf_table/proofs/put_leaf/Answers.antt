-- `leaf_table::put_leaf` meets its contract: a part of eight words of the leaf table comes back written. Assumes nothing.
use Rattle.std.proofs.Common.{List, ℕ, ◌+◌, ◌*◌, get_or, refl, ap, ◌∙◌}
use Rattle.bounds.specs.declared.OctreeBounds.{OctreeBounds}
use Rattle.base.proofs.Placing.{placed-part}
use Rattle.leaf_table.specs.LeafTable.{leaf_words}
use Rattle.leaf_table.specs.Inner.{node_at}
use Rattle.leaf_table.proofs.put_leaf.Goals as goal

pub returns : goal.returns
unfolding leaf_words node_at
returns c =
    let g = c.args in
    let row : OctreeBounds → List ℕ =
    leaf_words g.cell g.density g.reference g.waters.now g.m g.i (get_or g.records.now (g.i * 8 + 2) 0) (get_or g.records.now (g.i * 8 + 4) 0) in
    rw (c.put_row.ensures ∙ ap row c.read_box.ensures) (placed-part _ g.leaves.now (g.k * 8) (g.k * 8 + 8) refl)
