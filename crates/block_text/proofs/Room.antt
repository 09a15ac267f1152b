-- Every text that is printed has at most `text_room` bytes; and input that is longer than a block may be has the text of its start.
-- Assumes nothing.
use mathlib.Core.Path.{◌≡◌, refl, sym, ap, ◌∙◌}
use mathlib.Core.Bool.{Bool, true, false, cond}
use mathlib.Core.List.{List}
use Prim.Native.Nat.{ℕ, ◌≤◌, ◌<◌}
use native.Mathlib.Decide.{dec_le}
use native.Mathlib.Omega.{arith}
use lib.ListN.{length, take, length-replicate}
use lib.Seq.{length-take-le, take_all}
use Rattle.std.proofs.Common.{Result, Ok, Err, Option, Some, None}
use Rattle.base.specs.declared.Refused.{Refused}
use Rattle.base.specs.Refusals.{refusal_number}
use Rattle.block.specs.Block.{max_block, is_block}
use Rattle.block.proofs.Header.{long-no-block}
use Rattle.listing.specs.Listing.{refused_text}
use Rattle.listing.proofs.Lengths.{refused-few, listing-few}
use Rattle.mixing.specs.declared.Mixture.{Mixture}
use Rattle.mixing.specs.Frame.{Frame, FrameTables, frame_answer, frame_after}
use Rattle.mixing.proofs.Answered.{listed-leaves}
use Rattle.frame_text.specs.Texts.{program_tables, answer_text, frame_text}
use Rattle.block_text.specs.Printed.{frame_in, printed, text_room}

-- ---- the text fits
frame-fits : (f : Frame) (t : FrameTables) → length t.leaves ≡ 16384 → length (frame_text f t) ≤ text_room
unfolding frame_text
frame-fits f t e = by_answer (frame_answer f t) refl
  where
    by_answer : (r : Result (Option Mixture) Refused) → r ≡ frame_answer f t → length (answer_text r (frame_after f t).leaves) ≤ text_room
    by_answer (Ok (Some m)) h = omega (arith, listing-few m (frame_after f t).leaves, listed-leaves f t m h, e)
    by_answer (Ok None) h = omega arith
    by_answer (Err x) h = omega (arith, refused-few (refusal_number x))

pub printed-fits : (b : List ℕ) → length (printed b) ≤ text_room
unfolding printed program_tables
printed-fits b = by-block (is_block b)
  where
    by-block : (x : Bool) → length (cond x (frame_text (frame_in b) program_tables) (refused_text 14)) ≤ text_room
    by-block true = frame-fits (frame_in b) program_tables (length-replicate {A = ℕ} 16384 0)
    by-block false = omega (arith, refused-few 14)

-- ---- bytes past the limit change nothing: with them or without, the input is no block
too_long : (b : List ℕ) → max_block < length b → printed b ≡ refused_text 14
unfolding printed
too_long b h = rw (long-no-block b h)

pub printed-start : (k : ℕ) (s : List ℕ) → max_block < k → printed (take k s) ≡ printed s
printed-start k s h = by_length (dec_le (length s) k)
  where
    by_length : Dec (length s ≤ k) → printed (take k s) ≡ printed s
    by_length (yes l) = ap printed (take_all k s l)
    by_length (no l) = too_long (take k s) (omega (arith, length-take-le k s (omega arith))) ∙ sym (too_long s (omega arith))
