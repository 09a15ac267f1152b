-- `put_node` meets its contract: a part of eight words and one of six floats come back written. Assumes nothing.
use Rattle.std.proofs.Common.{◌+◌, ◌*◌, refl}
use Rattle.base.proofs.Placing.{placed-part}
use Rattle.nodes.proofs.put_node.Goals as goal

pub returns-clause-records_after : goal.returns-clause-records_after
returns-clause-records_after c = rw c.put_record.ensures (placed-part _ _ (c.args.at * 8) (c.args.at * 8 + 8) refl)

pub returns-clause-boxes_after : goal.returns-clause-boxes_after
returns-clause-boxes_after c = rw c.put_box.ensures (placed-part _ _ (c.args.at * 6) (c.args.at * 6 + 6) refl)
