-- What Row answers and leaves: the refusals of the input, then what the table is asked (`cluster_table`). Assumes nothing.
use mathlib.Core.Path.{◌≡◌, sym, ap, ◌∙◌}
use mathlib.Core.List.{List}
use Prim.Native.Nat.{ℕ}
use lib.Ieee.{Float}
use Rattle.std.proofs.Common.{Ok, Err}
use Rattle.base.specs.declared.Refused.{Refused}
use Rattle.base.specs.Refusals.{Refusal, first_refusal, answer_of}
use Rattle.base.proofs.FirstRefusal.{append-skip, append-refused, refused-number, at-refusal, at_none}
use Rattle.pick_lists.specs.Sound.{copies}
use Rattle.pick_lists.specs.Input.{Input, input_refusals}
use Rattle.pick_lists.proofs.InputRefusals.{input-numbered}
use Rattle.touch.specs.Touch.{copies_touch}
use Rattle.cluster_table.specs.Refusals.{row_table_refusals}
use Rattle.clusters.specs.Answers.{row_table, row_refusal, row_after}

module _ (f : Input) (k : Float) (t : List ℕ) (i : ℕ) where
  inputs : List Refusal
  inputs = input_refusals f

  abbrev asks : List Refusal
  asks = row_table_refusals (copies f.starts) k t i

  written : List ℕ
  written = row_table (copies_touch f k) (copies f.starts) i t

  -- a refusal leaves the table
  left : (e : Refused) → Err e ≡ answer_of (row_refusal f k t i) → (Err e ≡ answer_of (row_refusal f k t i)) × (t ≡ row_after f k t i)
  unfolding row_after written
  left e h = (h, sym (at-refusal (row_refusal f k t i) written t (refused-number e (row_refusal f k t i) h).0))

  -- 1, 2, 3, 4, 15 and 8
  pub row-input : (e : Refused) → Err e ≡ answer_of (first_refusal (input_refusals f)) → (Err e ≡ answer_of (row_refusal f k t i)) × (t ≡ row_after f k t i)
  unfolding row_refusal inputs
  row-input e h = left e (append-refused inputs asks (input-numbered f) e h)

  module _ (none : first_refusal (input_refusals f) ≡ 0) where
    -- the table decides
    decides : row_refusal f k t i ≡ first_refusal (row_table_refusals (copies f.starts) k t i)
    unfolding row_refusal inputs
    decides = append-skip inputs asks (input-numbered f) none

    -- 16, 7, 9, 17, 10 and 11
    pub row-table : (e : Refused) → Err e ≡ answer_of (first_refusal (row_table_refusals (copies f.starts) k t i))
        → (Err e ≡ answer_of (row_refusal f k t i)) × (t ≡ row_after f k t i)
    row-table e h = left e (h ∙ sym (ap answer_of decides))

    pub row-taken : first_refusal (row_table_refusals (copies f.starts) k t i) ≡ 0 → (x : List ℕ) → x ≡ row_table (copies_touch f k) (copies f.starts) i t
        → (Ok tt ≡ answer_of (row_refusal f k t i)) × (x ≡ row_after f k t i)
    unfolding row_after written
    row-taken z x e = (sym (ap answer_of (decides ∙ z)), e ∙ sym (at_none (row_refusal f k t i) written t (decides ∙ z)))
