-- docs/RULES.md, 'Answers by operation': Open, Row and Close, by what they answer and the table that they leave.
-- Definitions only. Assumes nothing.
use Rattle.std.specs.Prelude.{Bool, cond, not, List, [], ◌∷◌, ◌++◌, ℕ, zero, suc, ◌-◌, length, set, eqb, ltb, Float, Result, Ok, Err, ⊤}
use Rattle.std.specs.Float.{binary32}
use Rattle.std.specs.Float.Ieee.{to_bits}
use Rattle.base.specs.declared.Refused.{Refused}
use Rattle.base.specs.Refusals.{Refusal, refuse, first_refusal, refused, answer_of}
use Rattle.base.specs.Limits.{max_copies}
use Rattle.base.specs.Tables.{unless_refused}
use Rattle.cell.specs.Reach.{reach}
use Rattle.pick_lists.specs.Sound.{copies}
use Rattle.pick_lists.specs.Input.{Input, input_refusals}
use Rattle.touch.specs.Touch.{copies_touch}
use Rattle.base.specs.Range.{all_below}
use Rattle.cluster_table.specs.declared.ClusterFractions.{ClusterFractions}
use Rattle.cluster_table.specs.Table.{header, table_copies, mark, mark_at, words, opened, contact, sound_table}
use Rattle.cluster_table.specs.Refusals.{row_table_refusals}
use Rattle.cluster_table.specs.Fractions.{table_fractions}

-- largest, contacted and pair fraction, as Close answers them; none with a refusal
abbrev pub close_values : {E : Type 0} → Result ClusterFractions E → List Float
close_values (Ok f) = f.largest ∷ f.contacted ∷ f.pair ∷ []
close_values (Err e) = []

-- ---- Open
unfoldable pub open_refusals : ℕ → Float → List ℕ → List Refusal
unfolding reach
open_refusals n k t = refuse 5 (ltb max_copies n) ∷ reach k ∷ refuse 7 (ltb (length t) (words n)) ∷ []

unfoldable pub open_refusal : ℕ → Float → List ℕ → ℕ
unfolding open_refusals first_refusal
open_refusal n k t = first_refusal (open_refusals n k t)

-- what Open for n copies with the cutoff k answers on a table
abbrev pub open_answer : ℕ → Float → List ℕ → Result ⊤ Refused
open_answer n k t = answer_of (open_refusal n k t)

unfoldable pub open_after : ℕ → Float → List ℕ → List ℕ
unfolding open_refusal opened
open_after n k t = unless_refused (open_refusal n k t) (opened n (to_bits binary32 k) t) t

-- ---- Row
-- k copies from j on are tested against i, in order
unfoldable pub pass : (ℕ → ℕ → Bool) → ℕ → ℕ → ℕ → ℕ → List ℕ → List ℕ
unfolding contact
pass touch n i zero j t = t
pass touch n i (suc k) j t = pass touch n i k (suc j) (cond (touch i j) (contact n t i j) t)

-- row i: j = i + 1 .. n - 1 are tested, and mark i becomes 1
unfoldable pub row_table : (ℕ → ℕ → Bool) → ℕ → ℕ → List ℕ → List ℕ
unfolding pass
row_table touch n i t = set (pass touch n i (n - suc i) (suc i) t) (mark_at n i) 1

unfoldable pub row_refusal : Input → Float → List ℕ → ℕ → ℕ
unfolding input_refusals row_table_refusals first_refusal
row_refusal f k t i = first_refusal (input_refusals f ++ row_table_refusals (copies f.starts) k t i)

-- what Row i with the cutoff k answers on a table
abbrev pub row_answer : Input → Float → List ℕ → ℕ → Result ⊤ Refused
row_answer f k t i = answer_of (row_refusal f k t i)

unfoldable pub row_after : Input → Float → List ℕ → ℕ → List ℕ
unfolding row_refusal row_table copies_touch
row_after f k t i = unless_refused (row_refusal f k t i) (row_table (copies_touch f k) (copies f.starts) i t) t

-- ---- Close: the table alone, with its own n
unfoldable pub close_refusals : List ℕ → List Refusal
unfolding sound_table
close_refusals t =
    refuse 7 (ltb (length t) header)
    ∷ refuse 7 (ltb (length t) (words (table_copies t)))
    ∷ refuse 9 (ltb max_copies (table_copies t))
    ∷ refuse 9 (not (sound_table (table_copies t) t))
    ∷ refuse 12 (not (all_below (table_copies t) (λ i. eqb (mark (table_copies t) t i) 1)))
    ∷ []

unfoldable pub close_refusal : List ℕ → ℕ
unfolding close_refusals first_refusal
close_refusal t = first_refusal (close_refusals t)

-- what Close answers
unfoldable pub close_answer : List ℕ → Result ClusterFractions Refused
unfolding close_refusal table_fractions
close_answer t = unless_refused (close_refusal t) (Ok (table_fractions t)) (refused (close_refusal t))
