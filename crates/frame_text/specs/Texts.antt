-- docs/RULES.md, program `frame`: what it prints for a frame that was read, `refused` and the number, or `blank`, or the listing.
-- Definitions only. Assumes nothing.
use Rattle.std.specs.Prelude.{ℕ, ◌+◌, List, replicate, Result, Ok, Err, Option, Some, None}
use Rattle.base.specs.declared.Refused.{Refused}
use Rattle.base.specs.Refusals.{refusal_number}
use Rattle.base.specs.Limits.{max_copies}
use Rattle.floats.specs.Constants.{zero32}
use Rattle.cluster_table.specs.Table.{words}
use Rattle.listing.specs.Listing.{refused_text, blank_text, listing_text}
use Rattle.mixing.specs.declared.Mixture.{Mixture}
use Rattle.mixing.specs.Frame.{Frame, FrameTables, frame_tables, frame_answer, frame_after}

-- what the program lends, all zeros: 16,384 picks, 2,048 records in each node table, and elsewhere all that a block of 60,000 bytes
-- can need: 4,996 atoms or waters, 4,096 copies
unfoldable pub program_tables : FrameTables
program_tables =
    frame_tables (replicate (max_copies + 1) 0) (replicate 16384 0) (replicate (words max_copies) 0) (replicate max_copies 0) (replicate 4996 0)
    (replicate 16384 0) (replicate 12288 zero32) (replicate 16384 0)

-- the text of each case of the whole frame's answer, with the leaf table that it left
abbrev pub answer_text : Result (Option Mixture) Refused → List ℕ → List ℕ
answer_text (Ok (Some m)) leaves = listing_text m leaves
answer_text (Ok None) leaves = blank_text
answer_text (Err e) leaves = refused_text (refusal_number e)

unfoldable pub frame_text : Frame → FrameTables → List ℕ
frame_text f t = answer_text (frame_answer f t) (frame_after f t).leaves
