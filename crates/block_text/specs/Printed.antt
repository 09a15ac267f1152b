-- docs/RULES.md, program `frame`: what it prints for the bytes that it read, `refused` and the number, or `blank`, or the listing.
-- Definitions only. Assumes nothing.
use Rattle.std.specs.Prelude.{ℕ, ◌+◌, ◌*◌, cond, List}
use Rattle.block.specs.Block.{is_block, block_cell, per_copy, solutes_of, indices_of, waters_of}
use Rattle.touch.specs.Touch.{rust_cutoff}
use Rattle.listing.specs.Listing.{refused_text}
use Rattle.mixing.specs.Frame.{Frame, frame_of}
use Rattle.frame_text.specs.Texts.{program_tables, frame_text}

-- the frame that a block holds; its contacts are at the Rust's cutoff, 4.2
unfoldable pub frame_in : List ℕ → Frame
frame_in b = frame_of (block_cell b) rust_cutoff (solutes_of b) (per_copy b) (indices_of b) (waters_of b)

-- what is printed for the bytes b
unfoldable pub printed : List ℕ → List ℕ
printed b = cond (is_block b) (frame_text (frame_in b) program_tables) (refused_text 14)

-- the bytes that a text has at most: a listing's lines besides the leaves have 162, and each of 2,048 leaves has 116, where every number
-- has twenty digits
abbrev pub text_room : ℕ
text_room = 162 + 2048 * 116
