-- `cluster_table::words_sound` meets its contract: the degrees and the marks are two parts of the table, and both tests together are the definition's.
-- Assumes nothing.
use Rattle.std.proofs.Common.{◌+◌, arith}
use lib.Dec.{ltb}
use Rattle.cluster_table.specs.Table.{header}
use Rattle.cluster_table.proofs.Lists.{part-all}
use Rattle.cluster_table.proofs.Checks.{words-parts}
use Rattle.cluster_table.proofs.words_sound.Goals as goal

pub returns : goal.returns
returns c =
    let t = c.args.table.now in
    let n = c.args.n in
    rw (
      c.all_below.ensures,
      c.all_below-2.ensures,
      c.degrees.ensures,
      c.marks.ensures,
      part-all t (header + n) n (omega arith) (λ x. ltb x n),
      part-all t (header + n + n) n (omega arith) (λ x. ltb x 2),
    )
    (words-parts n t)
