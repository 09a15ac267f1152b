-- `cluster_table::add_contact` meets its contract: the parents are lent, joined and come back in their place, then three words are raised
-- one after another (Steps). Assumes nothing.
use Rattle.std.proofs.Common.{arith}
use Rattle.cluster_table.specs.Table.{counted}
use Rattle.cluster_table.proofs.Steps.{other-degree, raised}
use Rattle.cluster_table.proofs.add_contact.Goals as goal

pub overflow_add-table-4 : goal.overflow_add-table-4
overflow_add-table-4 c =
    omega (arith, other-degree c.args.n c.args.table.now c.args.i c.args.j c.requires.n_le_max_copies c.requires.table_value _ c.union_roots.ensures, c.requires.i_bound.1)

pub returns : goal.returns
unfolding counted
returns c = raised c.args.n c.args.table.now c.args.i c.args.j c.requires.n_le_max_copies c.requires.table_value _ c.union_roots.ensures
