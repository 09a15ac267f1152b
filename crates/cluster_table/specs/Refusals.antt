-- docs/RULES.md, Row: what Row asks of its cutoff and of a cluster table, in its order. Definitions only. Assumes nothing.
use Rattle.std.specs.Prelude.{not, List, [], ◌∷◌, ℕ, length, eqb, leb, ltb, Float}
use Rattle.std.specs.Float.{binary32}
use Rattle.std.specs.Float.Ieee.{to_bits}
use Rattle.base.specs.Refusals.{Refusal, refuse}
use Rattle.cell.specs.Reach.{reach}
use Rattle.cluster_table.specs.Table.{table_cutoff, mark, words, sound_table}

-- 17: the cutoff k has other bits than b
unfoldable pub other_cutoff : Float → ℕ → Refusal
other_cutoff k b = refuse 17 (not (eqb (to_bits binary32 k) b))

-- 16, 7, 9, 17, 10 and 11: what Row i with the cutoff k asks of a table of n copies
unfoldable pub row_table_refusals : ℕ → Float → List ℕ → ℕ → List Refusal
unfolding reach sound_table other_cutoff
row_table_refusals n k t i =
    reach k
    ∷ refuse 7 (ltb (length t) (words n))
    ∷ refuse 9 (not (sound_table n t))
    ∷ other_cutoff k (table_cutoff t)
    ∷ refuse 10 (leb n i)
    ∷ refuse 11 (eqb (mark n t i) 1)
    ∷ []
