-- What is left to prove of `scan_boxed`. Assumes nothing.
use mathlib.Core.Path.{sym, ap, ◌∙◌}
use mathlib.Core.List.{List}
use Prim.Native.Nat.{ℕ}
use native.Mathlib.Omega.{arith}
use lib.ListN.{get_or}
use Rattle.span_table.proofs.Flags.{flagged, flag-after}
use Rattle.span_table.proofs.Apart.{marked-apart}
use Rattle.cluster_table.proofs.Checks.{ready_of}
use Rattle.clusters.proofs.Accepted.{accepted-sound, accepted-lists, accepted-tested}
use Rattle.clusters.proofs.Passes.{run-first, run-skip, run-touch, run-last, run-asks}
use Rattle.scan.proofs.scan_boxed.Goals.{then-marked_touch, else-marked_touch}
use Rattle.scan.proofs.scan_boxed.Goals as goal

pub overflow_sub-n : goal.overflow_sub-n
overflow_sub-n c = omega (arith, (accepted-lists _ c.requires.picks_value.0).number)

pub mark_apart-requires : goal.mark_apart-requires
mark_apart-requires c = ((accepted-lists _ c.requires.picks_value.0).few, c.requires.starts_in_bounds.2, c.requires.sure_marks.1, c.requires.sure_marks.2)

pub loop-k-init : goal.loop-k-init
loop-k-init c =
    let ls = accepted-lists _ c.requires.picks_value.0 in
    run-first ls.few c.requires.starts_in_bounds.0 c.requires.starts_in_bounds.2 (ready_of _ _ ls.few c.requires.starts_in_bounds.1)

pub marked_touch-requires : goal.marked_touch-requires
marked_touch-requires c =
    let h = c.requires.picks_value.0 in
    let k = c.loop-k-test.true in
    let t = accepted-tested _ h _ c.requires.picks_value.1 in
    let flag = ap (λ (f : List ℕ). get_or f c.loop-k.k 0) c.mark_apart.ensures
    ∙ flag-after _ _ _ _ _ _ c.requires.sure_marks.2 c.loop-k.invariant.ahead k in record { picks_value = accepted-sound _ h; xs_value = t; spans = c.requires.spans; i_bound = (c.requires.starts_in_bounds.2, k, c.requires.sure_marks.1); j_in_bounds = (omega (arith, c.requires.sure_marks.2), λ set. marked-apart _ _ _ _ _ _ (accepted-sound _ h) t c.requires.sure_marks.0 c.requires.spans c.requires.starts_in_bounds.2 k (flagged _ _ flag set)) }

pub add_contact-requires : goal.add_contact-requires
add_contact-requires c = let r = run-asks c.loop-k.invariant (accepted-lists _ c.requires.picks_value.0).few c.loop-k-test.true in record { n_le_max_copies = r.0; table_value = r.1.0; i_bound = r.1.1 }

pub loop-k-preserved : goal.loop-k-preserved
loop-k-preserved c =
    elim c.if-marked_touch.branch [
      | then-marked_touch w ↦ rw (w.table-is ∙ w.add_contact.ensures) (run-touch c.loop-k.invariant c.loop-k-test.true (sym c.marked_touch.ensures ∙ w.if-marked_touch.true))
      | else-marked_touch w ↦ rw w.table-is (run-skip c.loop-k.invariant c.loop-k-test.true (sym c.marked_touch.ensures ∙ w.if-marked_touch.false))
    ]

pub set_mark-requires : goal.set_mark-requires
set_mark-requires c = ((accepted-lists _ c.requires.picks_value.0).few, c.loop-k.invariant.long, c.requires.starts_in_bounds.2)

pub returns : goal.returns
returns c = c.set_mark.ensures ∙ run-last c.loop-k.invariant c.loop-k-test.false
