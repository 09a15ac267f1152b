-- The C interface: a cell is six numbers, and the values of a call's answer are words in a lent table. Which values an answer has is each
-- call's own definition. Definitions only. Assumes nothing.
use Rattle.std.specs.Prelude.{List, [], ◌∷◌, ℕ, ◌^◌, ◌<◌, length, get_or, take, replicate, Float, Result, Ok, Err, Option, Some, None}
use Rattle.std.specs.Float.{binary32}
use Rattle.std.specs.Float.Ieee.{to_bits}
use Rattle.cell.specs.declared.Cell.{Cell}
use Rattle.base.specs.Tables.{over}
use Rattle.mixing.specs.declared.Mixture.{Mixture}

-- low x y z, high x y z
abbrev pub cell_of : Float → Float → Float → Float → Float → Float → Cell
cell_of lx ly lz hx hy hz = record { low = record { x = lx; y = ly; z = lz }; high = record { x = hx; y = hy; z = hz } }

-- floats as bits
unfoldable pub bits_of : List Float → List ℕ
bits_of [] = []
bits_of (x ∷ xs) = to_bits binary32 x ∷ bits_of xs

-- each number fits a word
abbrev pub Small : List ℕ → Type 0
Small vs = (k : ℕ) → get_or vs k 0 < 2 ^ 32

-- the answers table afterwards: as many of the values as it holds, from its start; what is past them keeps its values. A refusal has no
-- values, so that it changes nothing
unfoldable pub answers_after : List ℕ → List ℕ → List ℕ
unfolding over
answers_after values answers = over (take (length answers) values) answers

-- a frame's counts: copies, picks, nodes, greatest depth, reported leaves, dry leaves; none of a blank one
abbrev pub mixed_counts : Option Mixture → List ℕ
mixed_counts None = []
mixed_counts (Some m) = m.counted.copies ∷ m.counted.picks ∷ m.report.nodes ∷ m.report.depth ∷ m.report.leaves ∷ m.report.dry ∷ []

-- the whole frame's: none with a refusal
abbrev pub frame_counts : {E : Type 0} → Result (Option Mixture) E → List ℕ
frame_counts (Err e) = []
frame_counts (Ok m) = mixed_counts m

-- a frame's words: blank (1 or 0), copies, picks, the largest, contacted and pair fractions and the dispersion as bits, nodes, greatest depth,
-- reported leaves, dry leaves; zeros after the 1 of a blank one
unfoldable pub mixed_words : Option Mixture → List ℕ
mixed_words None = 1 ∷ replicate 10 0
mixed_words (Some m) =
    0
    ∷ m.counted.copies
    ∷ m.counted.picks
    ∷ to_bits binary32 m.fractions.largest
    ∷ to_bits binary32 m.fractions.contacted
    ∷ to_bits binary32 m.fractions.pair
    ∷ to_bits binary32 m.dispersion
    ∷ m.report.nodes
    ∷ m.report.depth
    ∷ m.report.leaves
    ∷ m.report.dry
    ∷ []

-- the whole frame's: none with a refusal
unfoldable pub frame_words : {E : Type 0} → Result (Option Mixture) E → List ℕ
unfolding mixed_words
frame_words (Err e) = []
frame_words (Ok m) = mixed_words m
