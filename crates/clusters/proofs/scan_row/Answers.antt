-- What is left to prove of `scan_row`. Assumes nothing.
mod Turns
use mathlib.Core.Path.{◌≡◌, refl, ◌∙◌}
use mathlib.Core.Bool.{true, false}
use mathlib.Core.List.{[]}
use Prim.Native.Nat.{ℕ, ◌+◌, ◌-◌, ◌≤◌, ◌<◌}
use native.Mathlib.Omega.{arith}
use lib.Ieee.{Float}
use Rattle.cell.specs.Cell.{extent_of}
use Rattle.base.specs.Refusals.{first_refusal}
use Rattle.cell.specs.Reach.{sound_reach}
use Rattle.pick_lists.specs.Sound.{copies, pick_list}
use Rattle.pick_lists.specs.Input.{Input, given, input_refusals}
use Rattle.touch.specs.Touch.{copies_touch}
use Rattle.gates.specs.declared.AxisImages.{AxisImages}
use Rattle.gates.specs.declared.Gate.{Gate}
use Rattle.gates.specs.declared.PerAxis.{PerAxis}
use Rattle.gates.specs.Inner.{gates_of, far_of, images_of, by_images, tested}
use Rattle.spans.specs.declared.Span.{Span}
use Rattle.spans.specs.Inner.{span_of, apart_on, apart_from}
use Rattle.spans.proofs.Between.{apart-copies, gates-tests, images-tests}
use Rattle.spans.proofs.Past.{past-least}
use Rattle.cluster_table.proofs.Checks.{ready_of}
use Rattle.clusters.proofs.Accepted.{accepted-sound, accepted-lists, accepted-tested}
use Rattle.clusters.proofs.Passes.{run-first, run-over, run-last, run-asks}
use Rattle.clusters.proofs.scan_row.Answers.Turns.{done}
use Rattle.clusters.proofs.scan_row.Goals as goal

-- a copy that the tests of the axes keep apart from the box of copy i does not touch copy i
module _ (f : Input) (k : Float) (i : ℕ) (s : Span) (none : first_refusal (input_refusals f) ≡ 0) (sound : sound_reach k ≡ true) (below : i < copies f.starts)
    (box : s ≡ span_of f.solutes (pick_list f.starts f.picks i)) where
  h : tested f.cell k f.solutes ≡ true
  h = accepted-tested f none k sound

  over-gates : (g : PerAxis Gate) → g ≡ gates_of k (extent_of f.cell) → (m : ℕ) → m < copies f.starts → apart_from (apart_on far_of g) f.solutes f.starts f.picks s m ≡ true → copies_touch f k i m ≡ false
  over-gates g is m l e = apart-copies f _ _ _ _ _ _ _ _ (accepted-sound f none) h (gates-tests _ _ _ h g is) below l box refl e

  over-images : (g : PerAxis AxisImages) → g ≡ images_of k (extent_of f.cell) → (m : ℕ) → m < copies f.starts → apart_from (apart_on by_images g) f.solutes f.starts f.picks s m ≡ true → copies_touch f k i m ≡ false
  over-images g is m l e = apart-copies f _ _ _ _ _ _ _ _ (accepted-sound f none) h (images-tests _ _ _ h g is) below l box refl e

pub overflow_sub-n : goal.overflow_sub-n
overflow_sub-n c = omega (arith, (accepted-lists _ c.requires.picks_value.0).number)

pub copy_span-s-requires : goal.copy_span-s-requires
copy_span-s-requires c = record { picks_value = accepted-sound _ c.requires.picks_value.0; j_bound = c.requires.starts_in_bounds.2 }

pub overflow_add-i : goal.overflow_add-i
overflow_add-i c = omega (arith, (accepted-lists _ c.requires.picks_value.0).few, c.requires.starts_in_bounds.2)

pub next_close-j-requires : goal.next_close-j-requires
next_close-j-requires c = record { picks_value = accepted-sound _ c.requires.picks_value.0; j_bound = omega (arith, c.requires.starts_in_bounds.2) }

pub loop-j-init : goal.loop-j-init
loop-j-init c =
    let ls = accepted-lists _ c.requires.picks_value.0 in
    rw c.next_close-j.ensures
    (run-over _ (over-gates (given _ _ [] _ _) _ _ _ c.requires.picks_value.0 c.requires.picks_value.1 c.requires.starts_in_bounds.2 c.copy_span-s.ensures _ c.gates_of-g.ensures) _ _ (omega (arith, c.requires.starts_in_bounds.2)) (run-first ls.few c.requires.starts_in_bounds.0 c.requires.starts_in_bounds.2 (ready_of _ _ ls.few c.requires.starts_in_bounds.1)))

pub copy_span-c-requires : goal.copy_span-c-requires
copy_span-c-requires c = record { picks_value = accepted-sound _ c.requires.picks_value.0; j_bound = c.loop-j-test.true }

pub copies_touch-requires : goal.copies_touch-requires
copies_touch-requires c = record { picks_value = accepted-sound _ c.requires.picks_value.0; xs_value = accepted-tested _ c.requires.picks_value.0 _ c.requires.picks_value.1; i_bound = (c.requires.starts_in_bounds.2, c.loop-j-test.true); s_value = (c.copy_span-s.ensures, c.copy_span-c.ensures) }

pub add_contact-requires : goal.add_contact-requires
add_contact-requires c = let r = run-asks c.loop-j.invariant (accepted-lists _ c.requires.picks_value.0).few c.loop-j-test.true in record { n_le_max_copies = r.0; table_value = r.1.0; i_bound = r.1.1 }

pub overflow_add-j : goal.overflow_add-j
overflow_add-j c = omega (arith, (accepted-lists _ c.requires.picks_value.0).few)

pub next_close-j-requires-then-wide : goal.next_close-j-requires-then-wide
next_close-j-requires-then-wide c = record { picks_value = accepted-sound _ c.requires.picks_value.0; j_bound = omega (arith, c.loop-j-test.true) }

pub next_close-j-requires-else-wide : goal.next_close-j-requires-else-wide
next_close-j-requires-else-wide c = record { picks_value = accepted-sound _ c.requires.picks_value.0; j_bound = omega (arith, c.loop-j-test.true) }

pub loop-j-smaller-then-wide : goal.loop-j-smaller-then-wide
loop-j-smaller-then-wide c =
    let on : c.loop-j.j + 1 ≤ c.next_close-j-then-wide.result = rw c.next_close-j-then-wide.ensures (past-least _ _ _) in
    omega (arith, c.loop-j-test.true)

pub loop-j-smaller : goal.loop-j-smaller
loop-j-smaller c =
    let on : c.loop-j.j + 1 ≤ c.next_close-j-else-wide.result = rw c.next_close-j-else-wide.ensures (past-least _ _ _) in
    omega (arith, c.loop-j-test.true)

pub loop-j-preserved-then-wide : goal.loop-j-preserved-then-wide
loop-j-preserved-then-wide c =
    let l = c.loop-j-test.true in
    let images = rw c.extent-e.ensures at c.images_of.ensures in
    rw c.next_close-j-then-wide.ensures
    (run-over _ (over-images (given _ _ [] _ _) _ _ _ c.requires.picks_value.0 c.requires.picks_value.1 c.requires.starts_in_bounds.2 c.copy_span-s.ensures _ images) _ _ (omega (arith, l))
    (done (goal.at.loop-j-preserved-then-wide c).After-outside-wide))

pub loop-j-preserved : goal.loop-j-preserved
loop-j-preserved c =
    let l = c.loop-j-test.true in
    rw c.next_close-j-else-wide.ensures
    (run-over _ (over-gates (given _ _ [] _ _) _ _ _ c.requires.picks_value.0 c.requires.picks_value.1 c.requires.starts_in_bounds.2 c.copy_span-s.ensures _ c.gates_of-g.ensures) _ _ (omega (arith, l))
    (done (goal.at.loop-j-preserved c).After-outside-wide))

pub set_mark-requires : goal.set_mark-requires
set_mark-requires c = ((accepted-lists _ c.requires.picks_value.0).few, c.loop-j.invariant.long, c.requires.starts_in_bounds.2)

pub returns : goal.returns
returns c = c.set_mark.ensures ∙ run-last c.loop-j.invariant c.loop-j-test.false
