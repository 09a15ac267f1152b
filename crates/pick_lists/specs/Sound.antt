-- docs/RULES.md, 'Selection' and Row's refusal 8: the pick lists, and when they are sound. Definitions only. Assumes nothing.
use Rattle.std.specs.Prelude.{ℕ, ◌+◌, ◌-◌, ◌*◌, Bool, true, not, ◌&&◌, List, [], ◌∷◌, ltb, leb, eqb, length, get_or, take, drop, Float}
use Rattle.base.specs.Limits.{max_copies, max_picks}
use Rattle.cell.specs.Cell.{point_at, finite_point}
use Rattle.base.specs.Refusals.{Refusal, refuse}

-- atom k of the solutes is finite
unfoldable pub finite_atom : List Float → ℕ → Bool
finite_atom xs k = finite_point (point_at xs k)

-- each number is below the next
unfoldable pub rises : List ℕ → Bool
rises [] = true
rises (a ∷ []) = true
rises (a ∷ b ∷ xs) = ltb a b && rises (b ∷ xs)

-- each pick names a finite atom
unfoldable pub all_finite : List Float → List ℕ → Bool
unfolding finite_atom
all_finite xs [] = true
all_finite xs (p ∷ ps) = (ltb (p * 3 + 2) (length xs) && finite_atom xs p) && all_finite xs ps

-- the number of copies in the pick lists
abbrev pub copies : List ℕ → ℕ
copies starts = length starts - 1

-- the picks of copy i
unfoldable pub pick_list : List ℕ → List ℕ → ℕ → List ℕ
pick_list starts picks i = take (get_or starts (i + 1) 0 - get_or starts i 0) (drop (get_or starts i 0) picks)

-- starts begin at 0, rise strictly, number n + 1 with n at most 4,096, and end at the picks' number, at most 65,536
unfoldable pub sound_starts : List ℕ → ℕ → Bool
unfolding rises
sound_starts starts picks =
    ltb 0 (length starts) && (leb (length starts) (max_copies + 1) && (eqb (get_or starts 0 0) 0 && (rises starts && (eqb (get_or starts (copies starts) 0) picks && leb picks max_picks))))

unfoldable pub sound_lists : List Float → List ℕ → List ℕ → Bool
unfolding sound_starts all_finite
sound_lists xs starts picks = sound_starts starts (length picks) && all_finite xs picks

unfoldable pub soundness : List Float → List ℕ → List ℕ → Refusal
unfolding sound_lists
soundness xs starts picks = refuse 8 (not (sound_lists xs starts picks))
