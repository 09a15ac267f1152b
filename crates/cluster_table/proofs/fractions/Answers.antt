-- `cluster_table::fractions` meets its contract. A sound table has its own n, a largest set of 1 to n copies and at most n (n - 1) / 2
-- contacts (Checks, Ratios): so nothing runs below 0, and f32 holds each number. Assumes nothing.
use Rattle.std.proofs.Common.{ap, ◌∙◌, arith}
use Rattle.base.proofs.Ranges.{count-bounded}
use Rattle.union_find.specs.Parents.{largest_set}
use Rattle.cluster_table.proofs.Checks.{ready_of}
use Rattle.cluster_table.proofs.Pairs.{half-few}
use Rattle.cluster_table.proofs.Ratios.{few, three, parents-few, largest_low, largest_some}
use Rattle.cluster_table.proofs.fractions.Goals as goal

pub returns-then-n-lt2 : goal.returns-then-n-lt2
returns-then-n-lt2 c =
    let r = ready_of c.args.n c.args.table.now c.requires.n_le_max_copies.0 c.requires.table_value in
    few c.args.n c.args.table.now r.own c.if-n-lt2.true

pub largest_set-largest-requires : goal.largest_set-largest-requires
largest_set-largest-requires c =
    let r = ready_of c.args.n c.args.table.now c.requires.n_le_max_copies.0 c.requires.table_value in
    rw c.parents.ensures (r.sound, parents-few c.args.n c.args.table.now c.requires.n_le_max_copies r.sound)

pub overflow_sub-largest : goal.overflow_sub-largest
overflow_sub-largest c =
    let r = ready_of c.args.n c.args.table.now c.requires.n_le_max_copies.0 c.requires.table_value in
    omega (arith, largest_some c.args.n c.args.table.now c.requires.n_le_max_copies r.sound _ (c.largest_set-largest.ensures ∙ ap largest_set c.parents.ensures) (omega (arith, c.if-n-lt2.false)))

pub quotient-requires : goal.quotient-requires
quotient-requires c =
    let r = ready_of c.args.n c.args.table.now c.requires.n_le_max_copies.0 c.requires.table_value in
    (omega (arith, largest_low c.args.n c.args.table.now c.requires.n_le_max_copies r.sound _ (c.largest_set-largest.ensures ∙ ap largest_set c.parents.ensures)), omega arith)

pub quotient-requires-2 : goal.quotient-requires-2
quotient-requires-2 c = (omega (arith, count-bounded _ _ _ c.contacted.ensures), omega arith)

pub overflow_cast-pair_count : goal.overflow_cast-pair_count
overflow_cast-pair_count c = omega (arith, c.pair_count.ensures, half-few c.args.n c.requires.n_le_max_copies.0)

pub quotient-requires-3 : goal.quotient-requires-3
quotient-requires-3 c =
    let r = ready_of c.args.n c.args.table.now c.requires.n_le_max_copies.0 c.requires.table_value in
    (r.few, omega (arith, c.pair_count.ensures, half-few c.args.n c.requires.n_le_max_copies.0))

pub returns : goal.returns
returns c =
    let r = ready_of c.args.n c.args.table.now c.requires.n_le_max_copies.0 c.requires.table_value in
    three c.args.n c.args.table.now r.own _ _ _ _ _ _ c.if-n-lt2.false
    (c.largest_set-largest.ensures ∙ ap largest_set c.parents.ensures) c.contacted.ensures c.pair_count.ensures
    c.quotient.ensures c.quotient-2.ensures c.quotient-3.ensures
