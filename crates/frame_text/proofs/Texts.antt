-- The tables that the program lends, the text of the whole frame's answer, and that the leaf table holds every leaf that it lists.
-- Assumes nothing.
use mathlib.Core.Path.{◌≡◌}
use mathlib.Core.Bool.{false}
use mathlib.Core.List.{List}
use Prim.Native.Nat.{ℕ, ◌*◌, ◌+◌}
use lib.ListN.{length, replicate}
use lib.Ieee.{Float}
use borrow.Author.Tests.{le-ltb}
use Rattle.std.proofs.Common.{Result, Ok, Option, Some}
use Rattle.base.specs.declared.Refused.{Refused}
use Rattle.base.specs.Limits.{max_copies}
use Rattle.floats.specs.Constants.{zero32}
use Rattle.cluster_table.specs.Table.{words}
use Rattle.listing.specs.Listing.{leaves_missing}
use Rattle.mixing.specs.declared.Mixture.{Mixture}
use Rattle.mixing.specs.Frame.{Frame, FrameTables, frame_tables, frame_answer, frame_after}
use Rattle.mixing.proofs.Answered.{listed-leaves}
use Rattle.frame_text.specs.Texts.{program_tables, answer_text, frame_text}

-- tables that are zeros are those that the program lends
pub lent-zeros : {starts picks clusters center-order water-order records : List ℕ} {boxes : List Float} {leaves : List ℕ}
    → starts ≡ replicate (max_copies + 1) 0 → picks ≡ replicate 16384 0 → clusters ≡ replicate (words max_copies) 0 → center-order ≡ replicate max_copies 0 → water-order ≡ replicate 4996 0
    → records ≡ replicate 16384 0 → boxes ≡ replicate 12288 zero32 → leaves ≡ replicate 16384 0
    → frame_tables starts picks clusters center-order water-order records boxes leaves ≡ program_tables
unfolding program_tables
lent-zeros s p k c w r b l = rw (s, p, k, c, w, r, b, l)

module _ (f : Frame) (t : FrameTables) where
  pub answer-text : (r : Result (Option Mixture) Refused) (leaves : List ℕ) → r ≡ frame_answer f t → leaves ≡ (frame_after f t).leaves → answer_text r leaves ≡ frame_text f t
  unfolding frame_text
  answer-text r leaves e h = rw (e, h)

  pub none-missing : (m : Mixture) → Ok (Some m) ≡ frame_answer f t → (leaves : List ℕ) → length leaves ≡ length t.leaves → leaves_missing leaves m.report.leaves ≡ false
  none-missing m e leaves h = le-ltb (length leaves) (m.report.leaves * 8) (rw h (listed-leaves f t m e))
