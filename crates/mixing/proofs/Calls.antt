-- The answers of the whole frame are those of the calls that it stands for: a frame with an answer has passed every test, so that none of
-- the calls refuses. Assumes nothing.
use mathlib.Core.Path.{◌≡◌, sym, ◌∙◌}
use mathlib.Core.List.{[]}
use Rattle.base.specs.Refusals.{first_refusal}
use Rattle.base.proofs.FirstRefusal.{answer-none}
use Rattle.frame_limits.specs.Limits.{frame_refusals, limit_refusals}
use Rattle.frame_limits.proofs.FrameRefusals.{limit-chain, frame-chain}
use Rattle.pick_lists.proofs.InputRefusals.{input-sound}
use Rattle.scan.proofs.Scans.{scanned-closes}
use Rattle.dispersion.proofs.Answers.{dispersion-answered}
use Rattle.tree.proofs.TreeRefusals.{test-none, call-room}
use Rattle.report.specs.Report.{report_room, report_refusal, answer_by, report_answer}
use Rattle.mixing.specs.Frame.{Frame, FrameTables, scan_input, tree_input, mixture}
use Rattle.mixing.specs.Calls.{AnswersAsCalls}
use Rattle.mixing.proofs.Outcomes.{Passed, room_number}
use Rattle.mixing.proofs.Tested.{within-limits, room, valid-cell, fine, cores-fit, lists-sound, selects}
use Rattle.mixing.proofs.Answered.{answered}

module _ (f : Frame) (t : FrameTables) (p : Passed f t) where
  -- Report tests the waters too
  limits-hold : first_refusal (limit_refusals f.cell f.solutes f.waters []) ≡ 0
  limits-hold =
      let w = within-limits f p.within in
      limit-chain f.cell f.solutes f.waters []
      ∙ rw (w.solutes-whole, w.waters-whole, w.solutes-few, w.waters-few, w.bounds-within, w.solutes-within, w.waters-within)

  frame-fine : first_refusal (frame_refusals f.cell f.solutes f.waters) ≡ 0
  frame-fine = frame-chain f.cell f.solutes f.waters ∙ rw (limits-hold, valid-cell f t p)

  report-refuses : report_refusal (tree_input f) t.tree t.leaves ≡ room_number f t
  unfolding report_refusal
  report-refuses =
      let input = input-sound (tree_input f) frame-fine (lists-sound f t p) in
      call-room (report_room t.tree t.leaves) (tree_input f) t.tree
      (sym (test-none (tree_input f) t.tree.center_order t.tree.water_order input (cores-fit f t p).1.0 (cores-fit f t p).1.1))

pub as-calls : AnswersAsCalls
unfolding mixture report_answer answer_by
as-calls f t m h =
    let a = answered f t m (sym h) in
    let p = a.passed in
    rw a.is (record {
      select = sym (selects f t p).0;
      close = scanned-closes (scan_input f) f.cutoff t.clusters (fine f t p) (room f t p).reaches (cores-fit f t p).0.1;
      disperse = sym (dispersion-answered (scan_input f) (sym (answer-none _ (fine f t p))));
      report = rw (report-refuses f t p, a.unrefused);
    })
