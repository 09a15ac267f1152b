-- docs/RULES.md, program `frame`: the block of bytes that holds a frame, and what its reader answers and leaves in the lent tables.
-- A byte past the end counts as 0 in a word; no such word is read of a block. Definitions only. Assumes nothing.
use Rattle.std.specs.Prelude.{ℕ, zero, suc, ◌+◌, ◌*◌, Bool, not, ◌&&◌, ◌||◌, List, [], ◌∷◌, ltb, leb, eqb, length, get_or, Float, Result, Ok}
use Rattle.std.specs.Float.{binary32}
use Rattle.std.specs.Float.Ieee.{of_bits}
use Rattle.cell.specs.declared.Cell.{Cell}
use Rattle.base.specs.declared.Refused.{Refused}
use Rattle.base.specs.Refusals.{refuse, first_refusal, refused}
use Rattle.base.specs.Tables.{over, unless_refused}
use Rattle.block.specs.declared.BlockFrame.{BlockFrame}

-- ---- little-endian numbers, at position p of the bytes b
-- u16
unfoldable pub half_at : List ℕ → ℕ → ℕ
half_at b p = get_or b p 0 + get_or b (p + 1) 0 * 256

-- u32, its lower half first
unfoldable pub word_at : List ℕ → ℕ → ℕ
word_at b p = half_at b p + half_at b (p + 2) * 65536

-- f32; every NaN's pattern is a NaN
unfoldable pub float_at : List ℕ → ℕ → Float
float_at b p = of_bits binary32 (word_at b p)

-- n values of four bytes each from position p on, where `at` says what stands at a position
unfoldable pub values_from : {A : Type 0} → (ℕ → A) → ℕ → ℕ → List A
values_from at zero p = []
values_from at (suc n) p = at p ∷ values_from at n (p + 4)

abbrev pub words_from : List ℕ → ℕ → ℕ → List ℕ
words_from b n p = values_from (word_at b) n p

abbrev pub floats_from : List ℕ → ℕ → ℕ → List Float
floats_from b n p = values_from (float_at b) n p

-- ---- the header: length of what follows, kind, and four counts
abbrev pub length_word : List ℕ → ℕ
length_word b = word_at b 0

abbrev pub kind : List ℕ → ℕ
kind b = half_at b 4

-- atoms per copy
abbrev pub per_copy : List ℕ → ℕ
per_copy b = word_at b 6

-- solute atoms, s
abbrev pub solute_atoms : List ℕ → ℕ
solute_atoms b = word_at b 10

-- indices, k
abbrev pub index_count : List ℕ → ℕ
index_count b = word_at b 14

-- waters, w
abbrev pub water_count : List ℕ → ℕ
water_count b = word_at b 18

-- a block is at most 60,000 bytes, with its length word; its kind is 1; its length is 42 + 4k + 12(s + w) and ends the input
abbrev pub max_block : ℕ
max_block = 60000

unfoldable pub is_block : List ℕ → Bool
is_block b =
    leb (length b) max_block
    && (eqb (kind b) 1
    && (eqb (length_word b) (42 + 4 * index_count b + 12 * (solute_atoms b + water_count b))
    && eqb (4 + length_word b) (length b)))

-- ---- what follows the header: the cell, the indices, and the coordinates, x y z in turn
unfoldable pub block_cell : List ℕ → Cell
block_cell b =
    record {
      low = record { x = float_at b 22; y = float_at b 26; z = float_at b 30 };
      high = record { x = float_at b 34; y = float_at b 38; z = float_at b 42 };
    }

unfoldable pub indices_of : List ℕ → List ℕ
indices_of b = words_from b (index_count b) 46

unfoldable pub solutes_of : List ℕ → List Float
solutes_of b = floats_from b (solute_atoms b * 3) (46 + index_count b * 4)

unfoldable pub waters_of : List ℕ → List Float
waters_of b = floats_from b (water_count b * 3) (46 + index_count b * 4 + solute_atoms b * 12)

-- ---- what read_block answers, of the bytes b and the lent tables for indices, solutes and waters
-- 14, no block; 7, a lent table is too short for its part
unfoldable pub block_refusal : List ℕ → List ℕ → List Float → List Float → ℕ
block_refusal b is ss ws =
    first_refusal
    (refuse 14 (not (is_block b))
    ∷ refuse 7 (ltb (length is) (index_count b) || (ltb (length ss) (solute_atoms b * 3) || ltb (length ws) (water_count b * 3)))
    ∷ [])

-- the frame's atoms per copy, solute atoms, indices, waters and cell, or the refusal
unfoldable pub block_answer : List ℕ → List ℕ → List Float → List Float → Result BlockFrame Refused
block_answer b is ss ws =
    unless_refused (block_refusal b is ss ws)
    (Ok (record { per = per_copy b; solutes = solute_atoms b; indices = index_count b; waters = water_count b; cell = block_cell b }))
    (refused (block_refusal b is ss ws))

-- the three tables afterwards
unfoldable pub indices_after : List ℕ → List ℕ → List Float → List Float → List ℕ
indices_after b is ss ws = unless_refused (block_refusal b is ss ws) (over (indices_of b) is) is

unfoldable pub solutes_after : List ℕ → List ℕ → List Float → List Float → List Float
solutes_after b is ss ws = unless_refused (block_refusal b is ss ws) (over (solutes_of b) ss) ss

unfoldable pub waters_after : List ℕ → List ℕ → List Float → List Float → List Float
waters_after b is ss ws = unless_refused (block_refusal b is ss ws) (over (waters_of b) ws) ws
