-- What each step of `mixing::frame` knows, over what it was lent and what its tests answered. Assumes nothing.
use mathlib.Core.Path.{◌≡◌, sym, ap, ap₂, ◌∙◌}
use mathlib.Core.Bool.{Bool, false}
use mathlib.Core.List.{List}
use Prim.Native.Nat.{ℕ, ◌+◌, ◌≤◌}
use lib.ListN.{length, take}
use Rattle.std.proofs.Common.{Ok, Err, Some}
use Rattle.std.specs.Bool.{⊤}
use Rattle.base.specs.declared.Refused.{Refused}
use Rattle.base.specs.Refusals.{first_refusal, refused, answer_of}
use Rattle.base.specs.Tables.{over}
use Rattle.base.proofs.FirstRefusal.{accepted-zero, refused-alike, passed-alike, at_none}
use Rattle.frame_limits.specs.Limits.{limit_refusals}
use Rattle.selection.specs.declared.Counted.{Counted}
use Rattle.selection.specs.Selection.{kept_copies, picks_of}
use Rattle.points.specs.Points.{finite_waters}
use Rattle.cluster_table.specs.declared.ClusterFractions.{ClusterFractions}
use Rattle.cluster_table.specs.Fractions.{table_fractions}
use Rattle.scan.specs.Scan.{scanned}
use Rattle.dispersion.specs.Dispersion.{dispersion_of}
use Rattle.report.specs.declared.ReportCounts.{ReportCounts}
use Rattle.report.specs.Report.{answer_by}
use Rattle.report.specs.Inner.{core_answer}
use Rattle.frame_tests.specs.Tests.{is_blank, size_refusals}
use Rattle.mixing.specs.Frame.{Frame, FrameTables, kept, start_list, pick_numbers, scan_input, tree_input, sized, limited, blank_holds, mixture, mixed_answer, frame_answer, frame_after}
use Rattle.mixing.proofs.Outcomes.{Passed, room_number, answer-worked}
use Rattle.mixing.proofs.Tested.{starts-lent, picks-lent, lists-fit, cores_leave, worked-tables}
use lib.Ieee.{Float}

-- what was counted is what the definitions count
abbrev pub Counts : Frame → Counted → ℕ → Type 0
Counts f n finite =
    (n.copies ≡ length (kept_copies f.solutes f.per f.indices)) × (n.picks ≡ length (picks_of (kept_copies f.solutes f.per f.indices))) × (finite ≡ finite_waters f.waters)

module _ (f : Frame) where
  pub limits-hold : {u : ⊤} → Ok u ≡ answer_of (first_refusal (limit_refusals f.cell f.solutes f.waters f.indices)) → first_refusal (limited f) ≡ 0
  unfolding limited
  limits-hold h = accepted-zero (first_refusal (limit_refusals f.cell f.solutes f.waters f.indices)) h

  module _ (n : Counted) (finite : ℕ) (counted : Counts f n finite) where
    pub blank-is-tested : (b : Bool) → b ≡ is_blank f.cell f.solutes f.waters n.copies finite → b ≡ blank_holds f
    unfolding blank_holds kept
    blank-is-tested b e = e ∙ ap₂ (is_blank f.cell f.solutes f.waters) counted.0 counted.2

    pub size-is-tested : (t : FrameTables)
        → first_refusal (size_refusals n.copies n.picks finite f.cutoff (length t.starts) (length t.picks) (length t.clusters) (length t.tree.center_order) (length t.tree.water_order))
        ≡ first_refusal (sized f t)
    unfolding sized kept pick_numbers
    size-is-tested t = rw (counted.0, counted.1, counted.2)

    pub passed : {u v : ⊤} (t : FrameTables) (b : Bool)
        → Ok u ≡ answer_of (first_refusal (limit_refusals f.cell f.solutes f.waters f.indices))
        → b ≡ is_blank f.cell f.solutes f.waters n.copies finite → b ≡ false
        → Ok v ≡ answer_of (first_refusal (size_refusals n.copies n.picks finite f.cutoff (length t.starts) (length t.picks) (length t.clusters) (length t.tree.center_order) (length t.tree.water_order)))
        → Passed f t
    passed t b limits is not size =
        record { within = limits-hold limits; some = sym (blank-is-tested b is) ∙ not; fits = accepted-zero _ (size ∙ ap answer_of (size-is-tested t)) }

    -- the pick lists that Select wrote, at the start of both tables
    pub lists-are : (starts₀ picks₀ starts picks : List ℕ)
        → starts ≡ over (start_list f) starts₀ → picks ≡ over (pick_numbers f) picks₀
        → (take (n.copies + 1) starts ≡ start_list f) × (take n.picks picks ≡ pick_numbers f)
    unfolding kept pick_numbers
    lists-are starts₀ picks₀ starts picks s p =
        (ap (take (n.copies + 1)) s ∙ starts-lent f starts₀ n.copies counted.0, ap (take n.picks) p ∙ picks-lent f picks₀ n.picks counted.1)

    -- both tables have room for them
    pub lists-fitted : (t : FrameTables) → Passed f t → (n.copies + 1 ≤ length t.starts) × (n.picks ≤ length t.picks)
    unfolding kept pick_numbers
    lists-fitted t p = rw (counted.0, counted.1) (lists-fit f t p)

-- ---- Report's answer is the frame's
module _ (f : Frame) (t : FrameTables) (p : Passed f t) where
  -- a refusal
  pub told-refused : (e : Refused) → Err e ≡ core_answer (tree_input f) t.tree t.leaves → Err e ≡ frame_answer f t
  unfolding mixed_answer answer_by
  told-refused e h = refused-alike (room_number f t) _ (Some (mixture f t)) e h ∙ answer-worked f t p

  -- its counts
  pub told : (n : Counted) (finite : ℕ) → Counts f n finite → (d : Float) → d ≡ dispersion_of (scan_input f)
      → (fs : ClusterFractions) → fs ≡ table_fractions (scanned (scan_input f) f.cutoff t.clusters)
      → (r : ReportCounts) → Ok r ≡ core_answer (tree_input f) t.tree t.leaves
      → Ok (Some (record { counted = n; fractions = fs; dispersion = d; report = r })) ≡ frame_answer f t
  unfolding mixed_answer mixture answer_by kept pick_numbers
  told n finite counted d ds fs closed r h =
      let q = passed-alike (room_number f t) _ r h in
      (λ i. Ok (Some (record { counted = record { copies = counted.0 i; picks = counted.1 i }; fractions = closed i; dispersion = ds i; report = q.1 i })))
      ∙ sym (at_none (room_number f t) (mixed_answer f t) (refused (room_number f t)) q.0)
      ∙ answer-worked f t p

  -- the tables, by the number of Report's answer
  pub left : (starts picks : List ℕ) → starts ≡ start_list f → picks ≡ pick_numbers f → (r : ℕ) → r ≡ room_number f t → cores_leave f t starts picks r ≡ frame_after f t
  left starts picks s q r n = (λ i. cores_leave f t (s i) (q i) (n i)) ∙ worked-tables f t p
