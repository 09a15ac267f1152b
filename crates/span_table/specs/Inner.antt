-- The span table of pick lists, and the flags of the copies that are kept apart from one of them. Lengths are in angstrom.
-- Definitions only. Assumes nothing.
use Rattle.std.specs.Prelude.{◌≡◌, Bool, cond, List, [], ◌∷◌, ℕ, zero, suc, ◌+◌, ◌-◌, ◌*◌, ◌<◌, get_or, Float}
use Rattle.std.specs.Float.{nan}
use Rattle.base.specs.Tables.{placed}
use Rattle.pick_lists.specs.Sound.{copies, pick_list}
use Rattle.cell.specs.declared.Vec3.{Vec3}
use Rattle.gates.specs.Inner.{gates_of, SureTurns}
use Rattle.spans.specs.declared.Span.{Span}
use Rattle.spans.specs.Inner.{span_of, apart_of, apart_turns}
use Rattle.span_table.specs.declared.Marks.{Marks}
use Rattle.span_table.specs.declared.Marks.TheVariants.{Gates, Turns}

-- the box of copy i in the table of n copies
unfoldable pub span_at : List Float → ℕ → ℕ → Span
span_at t n i =
    record {
      low = record { x = get_or t i nan; y = get_or t (2 * n + i) nan; z = get_or t (4 * n + i) nan };
      high = record { x = get_or t (n + i) nan; y = get_or t (3 * n + i) nan; z = get_or t (5 * n + i) nan };
    }

-- the span table of pick lists: the least x of each copy, then the greatest, and the same for y and z
abbrev pub Spans : List Float → List ℕ → List ℕ → List Float → Type 0
Spans xs starts picks t = (i : ℕ) → i < copies starts → span_at t (copies starts) i ≡ span_of xs (pick_list starts picks i)

-- ---- flags, for copy i of a table of n copies
-- the gates are the cell's, at the cutoff k
abbrev pub SureMarks : Float → Vec3 → Marks → Type 0
SureMarks k e (Gates g) = g ≡ gates_of k e
SureMarks k e (Turns g) = SureTurns k e g

-- the boxes are kept apart: by gates, or by the gates of many turns
unfoldable pub apart_marks : Marks → Span → Span → Bool
apart_marks (Gates g) = apart_of g
apart_marks (Turns g) = apart_turns g

-- 1 where a test keeps the boxes of copies i and j apart, or 0
abbrev pub apart_flag : (Span → Span → Bool) → List Float → ℕ → ℕ → ℕ → ℕ
apart_flag f t n i j = cond (f (span_at t n i) (span_at t n j)) 1 0

-- the flags of k copies, from copy j on
unfoldable pub flags_from : (Span → Span → Bool) → List Float → ℕ → ℕ → ℕ → ℕ → List ℕ
flags_from f t n i zero j = []
flags_from f t n i (suc k) j = apart_flag f t n i j ∷ flags_from f t n i k (suc j)

-- a list of flags after `mark_apart`: each copy after i has its own, and all else keeps its value
unfoldable pub flags_after : (Span → Span → Bool) → List Float → ℕ → ℕ → List ℕ → List ℕ
unfolding flags_from placed
flags_after f t n i flags = placed (i + 1) (flags_from f t n i (n - (i + 1)) (i + 1)) flags
