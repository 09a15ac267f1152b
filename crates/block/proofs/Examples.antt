-- The listed frame (docs/RULES.md) as a block, read by the definitions, and blocks that are none: `checked`, one statement for the lot.
-- Assumes nothing.
use mathlib.Core.Path.{◌≡◌, refl}
use mathlib.Core.Bool.{true, false}
use mathlib.Core.List.{List, [], ◌∷◌, ◌++◌}
use Prim.Native.Nat.{ℕ}
use lib.ListN.{take, replicate}
use lib.Ieee.{Float, nan, binary32, of_bits}
use Rattle.cell.specs.declared.Vec3.{Vec3}
use Rattle.base.specs.Refusals.{first_refusal, refused}
use Rattle.base.specs.Tables.{over}
use Rattle.std.proofs.Common.{Ok}
use Rattle.block.specs.Block.{half_at, word_at, float_at, values_from, length_word, is_block, block_cell, indices_of, solutes_of, waters_of, block_refusal, block_answer, indices_after, solutes_after, waters_after}

-- a word's four bytes, and those of the floats 2, 4, 6 and 16
abbrev small : ℕ → List ℕ
small n = n ∷ 0 ∷ 0 ∷ 0 ∷ []

abbrev two : List ℕ
two = 0 ∷ 0 ∷ 0 ∷ 64 ∷ []

abbrev four : List ℕ
four = 0 ∷ 0 ∷ 128 ∷ 64 ∷ []

abbrev six : List ℕ
six = 0 ∷ 0 ∷ 192 ∷ 64 ∷ []

abbrev sixteen : List ℕ
sixteen = 0 ∷ 0 ∷ 128 ∷ 65 ∷ []

-- a header of this length word, kind, and counts per copy, solutes, indices and waters; the cell 0..16
abbrev headed : List ℕ → ℕ → List ℕ → List ℕ → List ℕ → List ℕ → List ℕ
headed n kind per s k w = n ++ (kind ∷ 0 ∷ []) ++ per ++ s ++ k ++ w ++ replicate 12 0 ++ sixteen ++ sixteen ++ sixteen

abbrev coordinates : List ℕ
coordinates = two ++ two ++ two ++ four ++ two ++ two ++ six ++ six ++ six

-- 1 per copy, s 2, k 0, w 1, length 78, solutes (2,2,2) and (4,2,2), water (6,6,6)
abbrev pub listed : List ℕ
listed = headed (small 78) 1 (small 1) (small 2) (small 0) (small 1) ++ coordinates

abbrev f : ℕ → Float
f b = of_bits binary32 b

abbrev alike : ℕ → Vec3
alike b = record { x = f b; y = f b; z = f b }

-- lent tables with an entry to spare, and a table of solutes that is too short
abbrev ones : ℕ → List Float
ones n = replicate n (f 0x3f80_0000)

pub record Checked : Type 0 where
  pub length-word : length_word listed ≡ 78
  pub is-block : is_block listed ≡ true
  pub answer : block_answer listed (9 ∷ []) (ones 7) (ones 4) ≡ Ok (record { per = 1; solutes = 2; indices = 0; waters = 1; cell = record { low = alike 0; high = alike 0x4180_0000 } })
  -- each table begins with its part, and keeps the rest
  pub indices : indices_after listed (9 ∷ []) (ones 7) (ones 4) ≡ 9 ∷ []
  pub solutes : solutes_after listed (9 ∷ []) (ones 7) (ones 4) ≡ f 0x4000_0000 ∷ f 0x4000_0000 ∷ f 0x4000_0000 ∷ f 0x4080_0000 ∷ f 0x4000_0000 ∷ f 0x4000_0000 ∷ f 0x3f80_0000 ∷ []
  pub waters : waters_after listed (9 ∷ []) (ones 7) (ones 4) ≡ f 0x40c0_0000 ∷ f 0x40c0_0000 ∷ f 0x40c0_0000 ∷ f 0x3f80_0000 ∷ []
  -- a table too short for its part is 7, and nothing is written
  pub short-table : block_answer listed [] (ones 5) (ones 4) ≡ refused 7
  pub unchanged : waters_after listed [] (ones 5) (ones 4) ≡ ones 4
  -- one byte less, one more, another kind, and no byte at all
  pub cut : block_answer (take 81 listed) [] (ones 6) (ones 3) ≡ refused 14
  pub longer : block_answer (listed ++ (0 ∷ [])) [] (ones 6) (ones 3) ≡ refused 14
  pub other-kind : block_answer (headed (small 78) 2 (small 1) (small 2) (small 0) (small 1) ++ coordinates) [] (ones 6) (ones 3) ≡ refused 14
  pub empty : block_answer [] [] [] [] ≡ refused 14
  -- 2 ^ 30 indices: four times that comes round to 0 in 32 bits, and the length would be 42
  pub comes-round : is_block (headed (small 42) 1 (small 1) (small 0) two (small 0)) ≡ false
  -- the same with none is a block
  pub bare : is_block (headed (small 42) 1 (small 1) (small 0) (small 0) (small 0)) ≡ true
  -- a NaN's pattern arrives as a NaN
  pub a-nan : float_at (1 ∷ 0 ∷ 128 ∷ 255 ∷ []) 0 ≡ nan

pub checked : Checked
unfolding
    half_at
    word_at
    float_at
    values_from
    is_block
    block_cell
    indices_of
    solutes_of
    waters_of
    block_refusal
    block_answer
    indices_after
    solutes_after
    waters_after
    first_refusal
    over
    of_bits
checked =
    record {
      length-word = refl;
      is-block = refl;
      answer = refl;
      indices = refl;
      solutes = refl;
      waters = refl;
      short-table = refl;
      unchanged = refl;
      cut = refl;
      longer = refl;
      other-kind = refl;
      empty = refl;
      comes-round = refl;
      bare = refl;
      a-nan = refl;
    }
