-- One turn of the loop of `scan_row`: copy j is tested, and its contact added where it touches. Assumes nothing.
use mathlib.Core.Path.{◌≡◌, sym, subst, ◌∙◌}
use mathlib.Core.Bool.{Bool}
use mathlib.Core.List.{List, []}
use Prim.Native.Nat.{ℕ, ◌+◌, ◌-◌}
use lib.ListN.{length}
use Rattle.pick_lists.specs.Input.{given}
use Rattle.touch.specs.Touch.{copies_touch}
use Rattle.clusters.proofs.Passes.{Run, run-skip, run-touch}
use Rattle.clusters.proofs.scan_row.Goals.{After-outside-wide, then-copies_touch, else-copies_touch}

carry : {touch : ℕ → ℕ → Bool} {n i j : ℕ} {t₀ t t' : List ℕ} → t' ≡ t → Run touch n i t₀ t j → Run touch n i t₀ t' j
carry {touch} {n} {i} {j} {t₀} e r = subst (λ (x : List ℕ). Run touch n i t₀ x j) (sym e) r

-- copy j is done
pub done : (c : After-outside-wide) → Run (copies_touch (given c.args.cell c.args.solutes.now [] c.args.starts.now c.args.picks.now) c.args.cutoff) (length c.args.starts.now - 1) c.args.i c.args.table.now c.if-copies_touch.table (c.loop-j.j + 1)
done c =
    let a = c.loop-j in
    let l = c.loop-j-test.true in
    let touch = c.copies_touch.ensures in
    elim c.if-copies_touch.branch [
      | then-copies_touch w ↦ carry (w.table-is ∙ w.add_contact.ensures) (run-touch a.invariant l (sym touch ∙ w.if-copies_touch.true))
      | else-copies_touch w ↦ carry w.table-is (run-skip a.invariant l (sym touch ∙ w.if-copies_touch.false))
    ]
