-- docs/RULES.md, 'Whole frame': the condition of blank, and 5, 6, 16, 7, for what a frame was counted to have. In which order they are asked is in crate
-- `mixing` (`frame_refusal`, `frame_answer`). Definitions only. Assumes nothing.
use Rattle.std.specs.Prelude.{ℕ, ◌+◌, Bool, not, ◌||◌, List, [], ◌∷◌, ltb, eqb, length, Float}
use Rattle.cell.specs.declared.Cell.{Cell}
use Rattle.cell.specs.Cell.{valid}
use Rattle.cell.specs.Reach.{reach}
use Rattle.base.specs.Refusals.{Refusal, refuse}
use Rattle.base.specs.Limits.{max_copies, max_picks}
use Rattle.cluster_table.specs.Table.{words}

-- the cell is not valid, a coordinate list is empty, no copy is kept or no water is finite
unfoldable pub is_blank : Cell → List Float → List Float → ℕ → ℕ → Bool
is_blank c solutes waters copies finite =
    not (valid c) || (eqb (length solutes) 0 || (eqb (length waters) 0 || (eqb copies 0 || eqb finite 0)))

-- 5, 6, 16 and 7 for so many copies, picks and finite waters, the cutoff k, and tables of these lengths: the pick lists, the cluster table, the order lists
unfoldable pub size_refusals : ℕ → ℕ → ℕ → Float → ℕ → ℕ → ℕ → ℕ → ℕ → List Refusal
size_refusals copies picked finite k starts picks clusters center_order water_order =
    refuse 5 (ltb max_copies copies)
    ∷ refuse 6 (ltb max_picks picked)
    ∷ reach k
    ∷ refuse 7 ((ltb starts (copies + 1) || ltb picks picked) || (ltb clusters (words copies) || (ltb center_order copies || ltb water_order finite)))
    ∷ []
