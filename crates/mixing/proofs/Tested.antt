-- What the tests of a frame establish for the cores that run after them, and what these then leave. Assumes nothing.
use mathlib.Core.Path.{◌≡◌, sym, ap, ◌∙◌}
use mathlib.Core.Bool.{true, false, not, ◌||◌}
use mathlib.Core.List.{List, [], ◌∷◌}
use Prim.Native.Nat.{ℕ, ◌+◌, ◌≤◌, ◌*◌}
use native.Mathlib.Omega.{arith}
use lib.Dec.{ltb}
use lib.ListN.{length, take, drop}
use lib.Seq.{take_at, take-append_seam}
use borrow.Author.Tests.{ltb-false, not-false}
use Rattle.base.specs.Limits.{max_atoms, max_indices, max_copies, max_picks}
use Rattle.cell.specs.Cell.{valid}
use Rattle.cell.specs.Reach.{reach, sound_reach}
use Rattle.base.specs.Refusals.{refuse, first_refusal}
use Rattle.frame_limits.specs.Limits.{long, long_indices}
use Rattle.base.specs.Tables.{over}
use Rattle.base.proofs.FirstRefusal.{first-none}
use Rattle.base.proofs.Tests.{neither}
use Rattle.frame_limits.proofs.FrameRefusals.{Within, limit-none, within-solutes}
use Rattle.std.proofs.Common.{Ok}
use Rattle.selection.specs.Selection.{starts_of}
use Rattle.pick_lists.specs.Sound.{copies, sound_lists}
use Rattle.pick_lists.specs.Input.{given, input_refusals}
use Rattle.selection.proofs.SelectRefusals.{Answers, selected, both-within}
use Rattle.selection.proofs.SoundSelect.{select-sound, starts-length, starts-copies}
use Rattle.pick_lists.proofs.InputRefusals.{input-sound, input-accepted}
use Rattle.cluster_table.specs.Table.{words, sound_table}
use Rattle.scan.specs.Scan.{scanned}
use Rattle.scan.proofs.Scans.{scanned-long, scanned-sound}
use Rattle.points.specs.Points.{finite_waters}
use Rattle.tree.specs.Tree.{input_after}
use Rattle.report.specs.Report.{leaves_by}
use Rattle.frame_tests.specs.Tests.{is_blank, size_refusals}
use Rattle.mixing.specs.Frame.{Frame, FrameTables, kept, start_list, pick_numbers, scan_input, sized, limited, blank_holds, worked, frame_after}
use Rattle.mixing.proofs.Outcomes.{Passed, room_number, tables-worked}

-- ---- what the limits establish
module _ (f : Frame) (none : first_refusal (limited f) ≡ 0) where
  pub within-limits : Within f.cell f.solutes f.waters f.indices
  unfolding limited
  within-limits = limit-none f.cell f.solutes f.waters f.indices none

  pub solutes-few : length f.solutes ≤ max_atoms * 3
  unfolding long
  solutes-few = ltb-false (max_atoms * 3) (length f.solutes) within-limits.solutes-few

  pub waters-few : length f.waters ≤ max_atoms * 3
  unfolding long
  waters-few = ltb-false (max_atoms * 3) (length f.waters) within-limits.waters-few

  pub indices-few : length f.indices ≤ max_indices
  unfolding long_indices
  indices-few = ltb-false max_indices (length f.indices) within-limits.indices-few

-- ---- what 5, 6, 16 and 7 establish
pub record Room (f : Frame) (t : FrameTables) : Type 0 where
  pub few : length (kept f) ≤ max_copies
  pub light : length (pick_numbers f) ≤ max_picks
  pub reaches : sound_reach f.cutoff ≡ true
  -- as the test has it
  pub lists-long : (ltb (length t.starts) (length (kept f) + 1) || ltb (length t.picks) (length (pick_numbers f))) ≡ false
  pub clusters-fit : words (length (kept f)) ≤ length t.clusters
  pub orders-fit : (length (kept f) ≤ length t.tree.center_order) × (finite_waters f.waters ≤ length t.tree.water_order)

-- what Select and then the cores leave: these read the pick lists given here, and Report's number is r
abbrev pub cores_leave : Frame → FrameTables → List ℕ → List ℕ → ℕ → FrameTables
cores_leave f t starts picks r =
    let g = given f.cell f.solutes f.waters starts picks in
    record {
      starts = over (start_list f) t.starts;
      picks = over (pick_numbers f) t.picks;
      clusters = scanned (given f.cell f.solutes [] starts picks) f.cutoff t.clusters;
      tree = input_after r g t.tree;
      leaves = leaves_by r g t.leaves;
    }

module _ (f : Frame) (t : FrameTables) (p : Passed f t) where
  pub room : Room f t
  unfolding sized size_refusals reach
  room =
      let lists = ltb (length t.starts) (length (kept f) + 1) || ltb (length t.picks) (length (pick_numbers f)) in
      let orders = ltb (length t.tree.center_order) (length (kept f)) || ltb (length t.tree.water_order) (finite_waters f.waters) in
      let seven = refuse 7 (lists || (ltb (length t.clusters) (words (length (kept f))) || orders)) in
      let n5 = first-none (refuse 5 (ltb max_copies (length (kept f)))) (refuse 6 (ltb max_picks (length (pick_numbers f))) ∷ reach f.cutoff ∷ seven ∷ []) (λ h. omega arith) p.fits in
      let n6 = first-none (refuse 6 (ltb max_picks (length (pick_numbers f)))) (reach f.cutoff ∷ seven ∷ []) (λ h. omega arith) n5.1 in
      let n16 = first-none (reach f.cutoff) (seven ∷ []) (λ h. omega arith) n6.1 in
      let n7 = first-none seven [] (λ h. omega arith) n16.1 in
      let e = neither lists _ n7.0 in
      let g = neither (ltb (length t.clusters) (words (length (kept f)))) orders e.1 in
      record {
        few = ltb-false max_copies (length (kept f)) n5.0;
        light = ltb-false max_picks (length (pick_numbers f)) n6.0;
        reaches = not-false (sound_reach f.cutoff) n16.0;
        lists-long = e.0;
        clusters-fit = ltb-false (length t.clusters) (words (length (kept f))) g.0;
        orders-fit = both-within (length t.tree.center_order) (length (kept f)) (length t.tree.water_order) (finite_waters f.waters) g.1;
      }

  pub lists-fit : (length (kept f) + 1 ≤ length t.starts) × (length (pick_numbers f) ≤ length t.picks)
  lists-fit = both-within (length t.starts) (length (kept f) + 1) (length t.picks) (length (pick_numbers f)) room.lists-long

  -- ---- the pick lists are sound, and what the cores ask of their tables
  pub valid-cell : valid f.cell ≡ true
  unfolding blank_holds is_blank
  valid-cell = not-false (valid f.cell) (neither (not (valid f.cell)) _ p.some).0

  pub fine : first_refusal (input_refusals (scan_input f)) ≡ 0
  unfolding start_list pick_numbers kept
  fine =
      input-sound (scan_input f)
      (within-solutes f.cell f.solutes f.waters f.indices (within-limits f p.within) valid-cell)
      (select-sound f.solutes f.per f.indices room.few room.light)

  copies-are : copies (start_list f) ≡ length (kept f)
  unfolding start_list
  copies-are = starts-copies (kept f)

  pub cores-fit : ((length f.waters ≤ max_atoms * 3) × (words (copies (start_list f)) ≤ length t.clusters))
      × ((copies (start_list f) ≤ length t.tree.center_order) × (finite_waters f.waters ≤ length t.tree.water_order))
  cores-fit = rw copies-are ((waters-few f p.within, room.clusters-fit), room.orders-fit)

  pub lists-sound : sound_lists f.solutes (start_list f) (pick_numbers f) ≡ true
  lists-sound = (input-accepted (scan_input f) fine).1

  -- the scanned table, for as many copies as there are
  pub table-sound : (n : ℕ) (table : List ℕ) → n ≡ length (kept f) → table ≡ scanned (scan_input f) f.cutoff t.clusters
      → ((n ≤ max_copies) × (words n ≤ length table)) × (sound_table n table ≡ true)
  table-sound n table e h =
      let table-long = scanned-long (scan_input f) f.cutoff t.clusters fine room.reaches cores-fit.0.1 in
      let table-fine = scanned-sound (scan_input f) f.cutoff t.clusters fine room.reaches cores-fit.0.1 in
      rw (e, h) ((room.few, rw copies-are at table-long), rw copies-are at table-fine)

  -- ---- what the cores leave is what the frame leaves
  -- Select's answer and tables
  pub selects : Answers f.solutes f.per f.indices t.starts t.picks (Ok (record { copies = length (kept f); picks = length (pick_numbers f) })) (over (start_list f) t.starts) (over (pick_numbers f) t.picks)
  unfolding kept pick_numbers start_list long_indices
  selects =
      let w = within-limits f p.within in
      selected f.solutes f.per f.indices t.starts t.picks w.solutes-whole (rw w.solutes-few w.indices-few) w.solutes-within room.few room.light room.lists-long

  pub worked-tables : cores_leave f t (start_list f) (pick_numbers f) (room_number f t) ≡ frame_after f t
  unfolding worked
  worked-tables = rw (selects.1.0, selects.1.1) (tables-worked f t p)

-- ---- the pick lists, as the frame lends them
pub starts-lent : (f : Frame) (starts : List ℕ) (n : ℕ) → n ≡ length (kept f) → take (n + 1) (over (start_list f) starts) ≡ start_list f
unfolding over start_list
starts-lent f starts n e = take_at (starts_of (kept f)) (drop (length (starts_of (kept f))) starts) (n + 1) (starts-length (kept f) ∙ ap (λ (k : ℕ). k + 1) (sym e))

pub picks-lent : (f : Frame) (picks : List ℕ) (n : ℕ) → n ≡ length (pick_numbers f) → take n (over (pick_numbers f) picks) ≡ pick_numbers f
unfolding over
picks-lent f picks n e = rw e (take-append_seam (pick_numbers f) (drop (length (pick_numbers f)) picks))

pub starts-taken : (f : Frame) (n : ℕ) (xs : List ℕ) → n ≡ length (kept f) → xs ≡ start_list f → n + 1 ≡ length xs
unfolding start_list
starts-taken f n xs e h = ap (λ (k : ℕ). k + 1) e ∙ sym (starts-length (kept f)) ∙ sym (ap length h)

pub picks-taken : (f : Frame) (n : ℕ) (xs : List ℕ) → n ≡ length (pick_numbers f) → xs ≡ pick_numbers f → n ≡ length xs
picks-taken f n xs e h = e ∙ sym (ap length h)
