-- `cluster_table::is_sound` meets its contract: the four tests of `sound_table` in their order (Checks). Assumes nothing.
use Rattle.std.proofs.Common.{ap, sym, ◌∙◌, arith}
use Rattle.std.proofs.lemmas.Bool.{false≢true}
use borrow.Author.Tests.{ne_eqb, leb-true, leb-false}
use Rattle.union_find.specs.Parents.{sound_parents}
use Rattle.cluster_table.proofs.Checks.{table-own, table-contacts, table-parents, table-words}
use Rattle.cluster_table.proofs.is_sound.Goals as goal
use Rattle.cluster_table.proofs.is_sound.Goals.{then-table-n, else-table-n, then-table-pair_count, else-table-pair_count}

pub returns-then-is_sound : goal.returns-then-is_sound
returns-then-is_sound c =
    elim c.if-table-pair_count.branch [
      | then-table-pair_count w ↦ elim c.if-table-n.branch [
        | then-table-n v ↦ c.words_sound.ensures
            ∙ table-words c.args.n c.args.table.now v.if-table-n.true
            (omega (arith, leb-true _ _ (sym v.value-is ∙ w.if-table-pair_count.true), v.pair_count.ensures))
            (sym (ap sound_parents w.parents.ensures) ∙ sym w.is_sound.ensures ∙ sym w.value-is ∙ c.if-is_sound.true)
        | else-table-n v ↦ absurd (false≢true (sym (ne_eqb _ _ v.if-table-n.false) ∙ sym v.value-is ∙ w.if-table-pair_count.true))
      ]
      | else-table-pair_count w ↦ absurd (false≢true (sym w.if-table-pair_count.false ∙ sym w.value-is ∙ c.if-is_sound.true))
    ]

pub returns-else-is_sound : goal.returns-else-is_sound
returns-else-is_sound c =
    c.if-is_sound.false
    ∙ elim c.if-table-pair_count.branch [
      | then-table-pair_count w ↦ table-parents c.args.n c.args.table.now
          (sym (ap sound_parents w.parents.ensures) ∙ sym w.is_sound.ensures ∙ sym w.value-is ∙ c.if-is_sound.false)
      | else-table-pair_count w ↦ elim c.if-table-n.branch [
        | then-table-n v ↦ table-contacts _ _ (omega (arith, leb-false _ _ (sym v.value-is ∙ w.if-table-pair_count.false), v.pair_count.ensures))
        | else-table-n v ↦ table-own _ _ v.if-table-n.false
      ]
    ]
