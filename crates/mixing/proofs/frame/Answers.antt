-- `mixing::frame` meets its contract: each return knows the tests before it, and one law says what it answers and leaves (Outcomes); what a step
-- knows is one law too (Steps). The cores get what the tests establish, over the pick lists at the start of both tables (Tested). Assumes nothing.
use mathlib.Core.Path.{sym, ap, ◌∙◌}
use mathlib.Core.List.{List, []}
use Prim.Native.Nat.{ℕ}
use native.Mathlib.Omega.{arith}
use borrow.Author.Rules.{rules}
use Rattle.std.proofs.lemmas.Result.{err_from_is_err_and}
use Rattle.base.specs.Refusals.{answer_of}
use Rattle.cluster_table.specs.Fractions.{table_fractions}
use Rattle.scan.specs.Scan.{scanned}
use Rattle.dispersion.specs.Dispersion.{dispersion_of}
use Rattle.pick_lists.specs.Input.{Input, given}
use Rattle.report.specs.Inner.{core_answer}
use Rattle.mixing.specs.Frame.{frame_of, frame_tables, kept, start_list, pick_numbers, limited}
use Rattle.mixing.proofs.Outcomes.{outcome-limit, outcome-blank, outcome-size}
use Rattle.mixing.proofs.Steps.{Counts, limits-hold, blank-is-tested, size-is-tested, passed, lists-are, lists-fitted, told-refused, told, left}
use Rattle.report.proofs.ReportOutcomes.{report-told}
use Rattle.mixing.proofs.Tested.{solutes-few, indices-few, room, fine, cores-fit, lists-fit, lists-sound, table-sound, starts-taken, picks-taken}
use Rattle.mixing.proofs.frame.Goals as goal

pub returns-in_err-limit_refusal : goal.returns-in_err-limit_refusal
unfolding limited
returns-in_err-limit_refusal c =
    let a = c.args in
    let f = frame_of a.cell a.cutoff a.solutes.now a.per a.indices.now a.waters.now in
    let t = frame_tables a.starts.now a.picks.now a.clusters.now a.center_order.now a.water_order.now a.records.now a.boxes.now a.leaves.now in
    let p = err_from_is_err_and c.from_residual.result c.from_residual.ensures.1 in
    let r = outcome-limit f t _ c.in_err-limit_refusal.ensures in
    record { answer = rw (p.1, p.2) r.0; after = r.1 }

pub count-n-requires : goal.count-n-requires
count-n-requires c =
    let a = c.args in
    let f = frame_of a.cell a.cutoff a.solutes.now a.per a.indices.now a.waters.now in
    let h = limits-hold f c.in_ok-limit_refusal.ensures in
    (solutes-few f h, indices-few f h)

pub returns-then-is_blank : goal.returns-then-is_blank
returns-then-is_blank c =
    let a = c.args in
    let f = frame_of a.cell a.cutoff a.solutes.now a.per a.indices.now a.waters.now in
    let t = frame_tables a.starts.now a.picks.now a.clusters.now a.center_order.now a.water_order.now a.records.now a.boxes.now a.leaves.now in
    let counted : Counts f c.count-n.result c.count_waters-finite.result = (c.count-n.ensures.0, c.count-n.ensures.1, c.count_waters-finite.ensures) in
    let r = outcome-blank f t (limits-hold f c.in_ok-limit_refusal.ensures) (sym (blank-is-tested f _ _ counted _ c.is_blank.ensures) ∙ c.if-is_blank.true) in
    record { answer = r.0; after = r.1 }

pub returns-in_err-size_refusal : goal.returns-in_err-size_refusal
returns-in_err-size_refusal c =
    let a = c.args in
    let f = frame_of a.cell a.cutoff a.solutes.now a.per a.indices.now a.waters.now in
    let t = frame_tables a.starts.now a.picks.now a.clusters.now a.center_order.now a.water_order.now a.records.now a.boxes.now a.leaves.now in
    let counted : Counts f c.count-n.result c.count_waters-finite.result = (c.count-n.ensures.0, c.count-n.ensures.1, c.count_waters-finite.ensures) in
    let p = err_from_is_err_and c.from_residual-in_err-size_refusal.result c.from_residual-in_err-size_refusal.ensures.1 in
    let not-blank = sym (blank-is-tested f _ _ counted _ c.is_blank.ensures) ∙ c.if-is_blank.false in
    let r = outcome-size f t (limits-hold f c.in_ok-limit_refusal.ensures) not-blank _ (c.in_err-size_refusal.ensures ∙ ap answer_of (size-is-tested f _ _ counted t)) in
    record { answer = rw (p.1, p.2) r.0; after = r.1 }

pub fill-requires : goal.fill-requires
unfolding kept pick_numbers
fill-requires c =
    let a = c.args in
    let f = frame_of a.cell a.cutoff a.solutes.now a.per a.indices.now a.waters.now in
    let t = frame_tables a.starts.now a.picks.now a.clusters.now a.center_order.now a.water_order.now a.records.now a.boxes.now a.leaves.now in
    let counted : Counts f c.count-n.result c.count_waters-finite.result = (c.count-n.ensures.0, c.count-n.ensures.1, c.count_waters-finite.ensures) in
    let p = passed f c.count-n.result _ counted t _ c.in_ok-limit_refusal.ensures c.is_blank.ensures c.if-is_blank.false c.in_ok-size_refusal.ensures in
    let fitted = lists-fitted f c.count-n.result _ counted t p in
    record { xs_len_bound = (solutes-few f p.within, (room f t p).light); indices_in_bounds = omega (arith, (lists-fit f t p).0, (lists-fit f t p).1) }

pub overflow_add-firsts : goal.overflow_add-firsts
unfolding kept
overflow_add-firsts c =
    let a = c.args in
    let f = frame_of a.cell a.cutoff a.solutes.now a.per a.indices.now a.waters.now in
    let t = frame_tables a.starts.now a.picks.now a.clusters.now a.center_order.now a.water_order.now a.records.now a.boxes.now a.leaves.now in
    let counted : Counts f c.count-n.result c.count_waters-finite.result = (c.count-n.ensures.0, c.count-n.ensures.1, c.count_waters-finite.ensures) in
    let p = passed f c.count-n.result _ counted t _ c.in_ok-limit_refusal.ensures c.is_blank.ensures c.if-is_blank.false c.in_ok-size_refusal.ensures in
    search (rules, (room f t p).few, counted.0)

pub slice_bounds-firsts-end : goal.slice_bounds-firsts-end
slice_bounds-firsts-end c =
    let a = c.args in
    let f = frame_of a.cell a.cutoff a.solutes.now a.per a.indices.now a.waters.now in
    let t = frame_tables a.starts.now a.picks.now a.clusters.now a.center_order.now a.water_order.now a.records.now a.boxes.now a.leaves.now in
    let counted : Counts f c.count-n.result c.count_waters-finite.result = (c.count-n.ensures.0, c.count-n.ensures.1, c.count_waters-finite.ensures) in
    let p = passed f c.count-n.result _ counted t _ c.in_ok-limit_refusal.ensures c.is_blank.ensures c.if-is_blank.false c.in_ok-size_refusal.ensures in
    search (rules, (lists-fitted f c.count-n.result _ counted t p).0)

pub slice_bounds-firsts-end-2 : goal.slice_bounds-firsts-end-2
unfolding kept start_list pick_numbers
slice_bounds-firsts-end-2 c =
    let a = c.args in
    let f = frame_of a.cell a.cutoff a.solutes.now a.per a.indices.now a.waters.now in
    let t = frame_tables a.starts.now a.picks.now a.clusters.now a.center_order.now a.water_order.now a.records.now a.boxes.now a.leaves.now in
    let counted : Counts f c.count-n.result c.count_waters-finite.result = (c.count-n.ensures.0, c.count-n.ensures.1, c.count_waters-finite.ensures) in
    let p = passed f c.count-n.result _ counted t _ c.in_ok-limit_refusal.ensures c.is_blank.ensures c.if-is_blank.false c.in_ok-size_refusal.ensures in
    let l = lists-are f c.count-n.result _ counted _ _ _ _ c.fill.ensures.starts_after c.fill.ensures.picks_after in
    starts-taken f _ _ counted.0 l.0

pub slice_bounds-picked-end : goal.slice_bounds-picked-end
slice_bounds-picked-end c =
    let a = c.args in
    let f = frame_of a.cell a.cutoff a.solutes.now a.per a.indices.now a.waters.now in
    let t = frame_tables a.starts.now a.picks.now a.clusters.now a.center_order.now a.water_order.now a.records.now a.boxes.now a.leaves.now in
    let counted : Counts f c.count-n.result c.count_waters-finite.result = (c.count-n.ensures.0, c.count-n.ensures.1, c.count_waters-finite.ensures) in
    let p = passed f c.count-n.result _ counted t _ c.in_ok-limit_refusal.ensures c.is_blank.ensures c.if-is_blank.false c.in_ok-size_refusal.ensures in
    search (rules, (lists-fitted f c.count-n.result _ counted t p).1)

pub slice_bounds-picked-end-2 : goal.slice_bounds-picked-end-2
unfolding kept start_list pick_numbers
slice_bounds-picked-end-2 c =
    let a = c.args in
    let f = frame_of a.cell a.cutoff a.solutes.now a.per a.indices.now a.waters.now in
    let t = frame_tables a.starts.now a.picks.now a.clusters.now a.center_order.now a.water_order.now a.records.now a.boxes.now a.leaves.now in
    let counted : Counts f c.count-n.result c.count_waters-finite.result = (c.count-n.ensures.0, c.count-n.ensures.1, c.count_waters-finite.ensures) in
    let p = passed f c.count-n.result _ counted t _ c.in_ok-limit_refusal.ensures c.is_blank.ensures c.if-is_blank.false c.in_ok-size_refusal.ensures in
    let l = lists-are f c.count-n.result _ counted _ _ _ _ c.fill.ensures.starts_after c.fill.ensures.picks_after in
    picks-taken f _ _ counted.1 l.1

pub scan_all-requires : goal.scan_all-requires
unfolding kept start_list pick_numbers
scan_all-requires c =
    let a = c.args in
    let f = frame_of a.cell a.cutoff a.solutes.now a.per a.indices.now a.waters.now in
    let t = frame_tables a.starts.now a.picks.now a.clusters.now a.center_order.now a.water_order.now a.records.now a.boxes.now a.leaves.now in
    let counted : Counts f c.count-n.result c.count_waters-finite.result = (c.count-n.ensures.0, c.count-n.ensures.1, c.count_waters-finite.ensures) in
    let p = passed f c.count-n.result _ counted t _ c.in_ok-limit_refusal.ensures c.is_blank.ensures c.if-is_blank.false c.in_ok-size_refusal.ensures in
    let l = lists-are f c.count-n.result _ counted _ _ _ _ c.fill.ensures.starts_after c.fill.ensures.picks_after in
    rw (l.0, l.1) (record { picks_value = (fine f t p, (room f t p).reaches); starts_in_bounds = (cores-fit f t p).0.1 })

pub fractions-fractions-requires : goal.fractions-fractions-requires
unfolding kept start_list pick_numbers
fractions-fractions-requires c =
    let a = c.args in
    let f = frame_of a.cell a.cutoff a.solutes.now a.per a.indices.now a.waters.now in
    let t = frame_tables a.starts.now a.picks.now a.clusters.now a.center_order.now a.water_order.now a.records.now a.boxes.now a.leaves.now in
    let counted : Counts f c.count-n.result c.count_waters-finite.result = (c.count-n.ensures.0, c.count-n.ensures.1, c.count_waters-finite.ensures) in
    let p = passed f c.count-n.result _ counted t _ c.in_ok-limit_refusal.ensures c.is_blank.ensures c.if-is_blank.false c.in_ok-size_refusal.ensures in
    let l = lists-are f c.count-n.result _ counted _ _ _ _ c.fill.ensures.starts_after c.fill.ensures.picks_after in
    let scanned-is = c.scan_all.ensures ∙ (λ i. scanned (given a.cell a.solutes.now [] (l.0 i) (l.1 i)) a.cutoff a.clusters.now) in
    let r = table-sound f t p _ _ counted.0 scanned-is in record { n_le_max_copies = r.0; table_value = r.1 }

pub dispersion_of-dispersion-requires : goal.dispersion_of-dispersion-requires
unfolding kept start_list pick_numbers
dispersion_of-dispersion-requires c =
    let a = c.args in
    let f = frame_of a.cell a.cutoff a.solutes.now a.per a.indices.now a.waters.now in
    let t = frame_tables a.starts.now a.picks.now a.clusters.now a.center_order.now a.water_order.now a.records.now a.boxes.now a.leaves.now in
    let counted : Counts f c.count-n.result c.count_waters-finite.result = (c.count-n.ensures.0, c.count-n.ensures.1, c.count_waters-finite.ensures) in
    let p = passed f c.count-n.result _ counted t _ c.in_ok-limit_refusal.ensures c.is_blank.ensures c.if-is_blank.false c.in_ok-size_refusal.ensures in
    let l = lists-are f c.count-n.result _ counted _ _ _ _ c.fill.ensures.starts_after c.fill.ensures.picks_after in
    rw (l.0, l.1) (lists-sound f t p)

pub report_of-requires : goal.report_of-requires
unfolding kept start_list pick_numbers
report_of-requires c =
    let a = c.args in
    let f = frame_of a.cell a.cutoff a.solutes.now a.per a.indices.now a.waters.now in
    let t = frame_tables a.starts.now a.picks.now a.clusters.now a.center_order.now a.water_order.now a.records.now a.boxes.now a.leaves.now in
    let counted : Counts f c.count-n.result c.count_waters-finite.result = (c.count-n.ensures.0, c.count-n.ensures.1, c.count_waters-finite.ensures) in
    let p = passed f c.count-n.result _ counted t _ c.in_ok-limit_refusal.ensures c.is_blank.ensures c.if-is_blank.false c.in_ok-size_refusal.ensures in
    let l = lists-are f c.count-n.result _ counted _ _ _ _ c.fill.ensures.starts_after c.fill.ensures.picks_after in
    let fit = cores-fit f t p in
    rw (l.0, l.1) (record { picks_value = lists-sound f t p; waters_len_bound = fit.0.0; starts_in_bounds = fit.1 })

pub returns-in_err-report : goal.returns-in_err-report
unfolding kept start_list pick_numbers
returns-in_err-report c =
    let a = c.args in
    let f = frame_of a.cell a.cutoff a.solutes.now a.per a.indices.now a.waters.now in
    let t = frame_tables a.starts.now a.picks.now a.clusters.now a.center_order.now a.water_order.now a.records.now a.boxes.now a.leaves.now in
    let counted : Counts f c.count-n.result c.count_waters-finite.result = (c.count-n.ensures.0, c.count-n.ensures.1, c.count_waters-finite.ensures) in
    let p = passed f c.count-n.result _ counted t _ c.in_ok-limit_refusal.ensures c.is_blank.ensures c.if-is_blank.false c.in_ok-size_refusal.ensures in
    let l = lists-are f c.count-n.result _ counted _ _ _ _ c.fill.ensures.starts_after c.fill.ensures.picks_after in
    let input : List ℕ → List ℕ → Input = given a.cell a.solutes.now a.waters.now in
    let q = err_from_is_err_and c.from_residual-in_err-report.result c.from_residual-in_err-report.ensures.1 in
    let reports = c.in_err-report.ensures.answer ∙ (λ i. core_answer (input (l.0 i) (l.1 i)) t.tree a.leaves.now) in record {
      answer = rw (q.1, q.2) (told-refused f t p _ reports);
      after = (λ i. record { starts = c.fill.ensures.starts_after i; picks = c.fill.ensures.picks_after i; clusters = c.scan_all.ensures i; tree = c.in_err-report.ensures.after i; leaves = c.in_err-report.ensures.reported i })
          ∙ left f t p _ _ l.0 l.1 _ (report-told _ _ _ reports);
    }

pub returns : goal.returns
unfolding kept start_list pick_numbers
returns c =
    let a = c.args in
    let f = frame_of a.cell a.cutoff a.solutes.now a.per a.indices.now a.waters.now in
    let t = frame_tables a.starts.now a.picks.now a.clusters.now a.center_order.now a.water_order.now a.records.now a.boxes.now a.leaves.now in
    let counted : Counts f c.count-n.result c.count_waters-finite.result = (c.count-n.ensures.0, c.count-n.ensures.1, c.count_waters-finite.ensures) in
    let p = passed f c.count-n.result _ counted t _ c.in_ok-limit_refusal.ensures c.is_blank.ensures c.if-is_blank.false c.in_ok-size_refusal.ensures in
    let l = lists-are f c.count-n.result _ counted _ _ _ _ c.fill.ensures.starts_after c.fill.ensures.picks_after in
    let input : List ℕ → List ℕ → Input = given a.cell a.solutes.now a.waters.now in
    let scanned-is = c.scan_all.ensures ∙ (λ i. scanned (given a.cell a.solutes.now [] (l.0 i) (l.1 i)) a.cutoff a.clusters.now) in
    let dispersed = c.dispersion_of-dispersion.ensures ∙ (λ i. dispersion_of (given a.cell a.solutes.now [] (l.0 i) (l.1 i))) in
    let reports = c.in_ok-report.ensures.answer ∙ (λ i. core_answer (input (l.0 i) (l.1 i)) t.tree a.leaves.now) in record {
      answer = told f t p _ _ counted _ dispersed _ (c.fractions-fractions.ensures ∙ ap table_fractions scanned-is) _ reports;
      after = (λ i. record { starts = c.fill.ensures.starts_after i; picks = c.fill.ensures.picks_after i; clusters = c.scan_all.ensures i; tree = c.in_ok-report.ensures.after i; leaves = c.in_ok-report.ensures.reported i })
          ∙ left f t p _ _ l.0 l.1 _ (report-told _ _ _ reports);
    }
