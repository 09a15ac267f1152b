-- Two runs worked out by the definitions: four copies of one atom in the cell 0..16. At 4.2 copies 0 and 1, and 1 and 2, touch; the rows come in falling
-- order, with refused calls between. At 6 copies 0 and 2, and 0 and 3, touch too; the rows come with cutoffs of every kind. Assumes nothing.
use mathlib.Core.Path.{◌≡◌, refl}
use mathlib.Core.List.{List, [], ◌∷◌}
use Prim.Native.Nat.{ℕ}
use lib.ListN.{replicate}
use lib.Ieee.{Float, binary32, of_bits, to_bits, of_int, add, sub, mul, div, lt, le, neg}
use Rattle.floats.specs.Whole.{round_of}
use Rattle.cell.specs.Reach.{sound_reach, reach}
use Rattle.cell.specs.Cell.{extent_of, valid_axis, valid, min_image, image_axis, squared, minus, distance2, point_at, finite_point}
use Rattle.frame_limits.specs.Limits.{exceeds, any_over, ragged, long, long_indices, bound_over, lengths, counts, bounds, coordinates, validity, limit_refusals, frame_refusals}
use Rattle.std.proofs.Common.{Result, Ok}
use Rattle.std.specs.Bool.{⊤}
use Rattle.base.specs.declared.Refused.{Refused}
use Rattle.base.specs.Tables.{over, first_numbers}
use Rattle.base.specs.Refusals.{first_refusal, refused}
use Rattle.cell.proofs.Examples.{up_to}
use Rattle.pick_lists.specs.Sound.{finite_atom, rises, all_finite, pick_list, sound_starts, sound_lists, soundness}
use Rattle.pick_lists.specs.Input.{Input, input_refusals}
use Rattle.touch.specs.Touch.{rust_cutoff, cutoff2, near, any_in, any_pair, copies_touch}
use Rattle.base.specs.Range.{all_below, count, greatest}
use Rattle.union_find.specs.Parents.{walk, root_of, shortened, compressed, joined, reaches_root, sound_parents, set_size, largest_set}
use Rattle.cluster_table.specs.Table.{opened, counted, contact, sound_words, sound_table}
use Rattle.cluster_table.specs.Refusals.{other_cutoff, row_table_refusals}
use Rattle.cluster_table.specs.Fractions.{ratio, three_fractions, table_fractions}
use Rattle.cluster_table.specs.declared.ClusterFractions.{ClusterFractions}
use Rattle.clusters.specs.Answers.{pass, row_table, open_refusals, open_refusal, open_after, row_refusal, row_after, close_refusals, close_refusal, close_answer, open_answer, row_answer}
use Rattle.clusters.specs.Order.{Call, row, close, reopen, call_after, after}

-- the copies stand at (2, 2, 2), (4, 2, 2), (8, 2, 2) and (2, 8, 2)
abbrev pub two : Float
two = of_bits binary32 0x4000_0000

abbrev pub four : Float
four = of_bits binary32 0x4080_0000

abbrev pub eight : Float
eight = of_bits binary32 0x4100_0000

pub input : Input
input =
    record {
      cell = up_to 0x4180_0000;
      solutes = two ∷ two ∷ two ∷ four ∷ two ∷ two ∷ eight ∷ two ∷ two ∷ two ∷ eight ∷ two ∷ [];
      waters = [];
      starts = 0 ∷ 1 ∷ 2 ∷ 3 ∷ 4 ∷ [];
      picks = 0 ∷ 1 ∷ 2 ∷ 3 ∷ [];
    }

-- a table of 16 words, one more than four copies need, opened for four copies
abbrev pub lent : List ℕ
lent = replicate 16 9

abbrev pub opening : Float → List ℕ
opening k = open_after 4 k lent

-- what a call answers: Row and Open acceptance or a refusal, Close the fractions or a refusal
pub data Answered : Type 0 where
  took : Result ⊤ Refused → Answered
  gave : Result ClusterFractions Refused → Answered

pub answer_to : Input → List ℕ → Call → Answered
answer_to f t (row k i) = took (row_answer f k t i)
answer_to f t close = gave (close_answer t)
answer_to f t (reopen n k) = took (open_answer n k t)

-- what each call of a list answers
pub answers_of : Input → List ℕ → List Call → List Answered
answers_of f t [] = []
answers_of f t (c ∷ cs) = answer_to f t c ∷ answers_of f (call_after f t c) cs

abbrev yes : Answered
yes = took (Ok tt)

abbrev no : ℕ → Answered
no r = took (refused r)

-- by the bits of the fractions
abbrev gives : ℕ → ℕ → ℕ → Answered
gives l c p = gave (Ok (record { largest = of_bits binary32 l; contacted = of_bits binary32 c; pair = of_bits binary32 p }))

abbrev at : ℕ → Call
at i = row rust_cutoff i

abbrev pub calls : List Call
calls = at 3 ∷ at 2 ∷ at 1 ∷ at 7 ∷ at 1 ∷ close ∷ reopen 4097 rust_cutoff ∷ reopen 5 rust_cutoff ∷ at 0 ∷ close ∷ []

-- 6
abbrev pub six : Float
six = of_bits binary32 0x40c0_0000

-- rows at 6, and others at 4.2, a NaN, 0, -0, the number above 16, infinity and 16; Opens that 5, 16 and 7 refuse
abbrev pub mixed : List Call
mixed =
    row six 3
    ∷ at 1
    ∷ row (of_bits binary32 0x7fc0_0000) 1
    ∷ row (of_bits binary32 0) 1
    ∷ row (of_bits binary32 0x8000_0000) 1
    ∷ row (of_bits binary32 0x4180_0001) 1
    ∷ row (of_bits binary32 0x7f80_0000) 99
    ∷ row (of_bits binary32 0x4180_0000) 99
    ∷ row six 99
    ∷ row six 1
    ∷ row six 1
    ∷ close
    ∷ reopen 4097 (of_bits binary32 0x7fc0_0000)
    ∷ reopen 5 (of_bits binary32 0x7fc0_0000)
    ∷ reopen 5 six
    ∷ row six 2
    ∷ row six 0
    ∷ close
    ∷ []

pub record Worked : Type 0 where
  -- rows 3, 2 and 1 are accepted, row 7 is not below 4, row 1 came before, row 0 is still to come, 4,097 copies are too many, and
  -- five need 18 words; the fractions are 2 of 3, 3 of 4 and 2 of 6
  pub answers : answers_of input (opening rust_cutoff) calls
      ≡ yes ∷ yes ∷ yes ∷ no 10 ∷ no 11 ∷ gave (refused 12) ∷ no 5 ∷ no 7 ∷ yes
      ∷ gives 0x3f2a_aaab 0x3f40_0000 0x3eaa_aaab ∷ []
  -- n, the contacts and the cutoff's bits, the parents (0 over 1, 1 over 2), the degrees, the marks, and the word past the table
  pub table : after input (opening rust_cutoff) calls ≡ 4 ∷ 2 ∷ 0x4086_6666 ∷ 0 ∷ 0 ∷ 1 ∷ 3 ∷ 1 ∷ 2 ∷ 1 ∷ 0 ∷ 1 ∷ 1 ∷ 1 ∷ 1 ∷ 9 ∷ []
  -- at 6: 17 for another cutoff comes after 16 and before 10; the fractions are 3 of 3, 4 of 4 and 4 of 6
  pub answers-at-six : answers_of input (opening six) mixed
      ≡ yes ∷ no 17 ∷ no 16 ∷ no 16 ∷ no 16 ∷ no 16 ∷ no 16 ∷ no 17 ∷ no 10 ∷ yes ∷ no 11 ∷ gave (refused 12) ∷ no 5 ∷ no 16 ∷ no 7 ∷ yes ∷ yes
      ∷ gives 0x3f80_0000 0x3f80_0000 0x3f2a_aaab ∷ []
  pub table-at-six : after input (opening six) mixed ≡ 4 ∷ 4 ∷ 0x40c0_0000 ∷ 0 ∷ 0 ∷ 0 ∷ 0 ∷ 3 ∷ 2 ∷ 2 ∷ 1 ∷ 1 ∷ 1 ∷ 1 ∷ 1 ∷ 9 ∷ []

pub worked : Worked
unfolding input answer_to answers_of first_refusal input_refusals frame_refusals limit_refusals lengths counts bounds coordinates validity soundness ragged long long_indices
    bound_over any_over exceeds valid valid_axis extent_of sound_lists sound_starts rises all_finite finite_atom finite_point point_at copies_touch
    pick_list any_pair any_in near cutoff2 distance2 squared min_image image_axis minus round_of all_below count greatest walk root_of shortened
    compressed joined reaches_root sound_parents set_size largest_set first_numbers over opened counted contact pass row_table sound_words sound_table
    sound_reach reach other_cutoff open_refusals open_refusal open_after row_table_refusals row_refusal row_after close_refusals close_refusal ratio three_fractions
    table_fractions close_answer call_after after of_bits to_bits of_int add sub mul div lt le neg
worked = record { answers = refl; table = refl; answers-at-six = refl; table-at-six = refl }
