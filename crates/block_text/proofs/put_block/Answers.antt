-- `block_text::put_block` meets its contract: a refusal of the reader is 14, and a frame that was read is the block's (Fits).
-- Assumes nothing.
use mathlib.Core.Path.{sym, ◌∙◌}
use native.Mathlib.Omega.{arith}
use lib.Seq.{length-take-le}
use Rattle.block_text.proofs.Fits.{Read, refused-14, read-frame, text-read, counts-fit}
use borrow.Author.Rules.{rules}
use Rattle.block_text.proofs.put_block.Goals as goal
use Rattle.block_text.proofs.put_block.Goals.{In-Ok}

-- what was read is the block's frame
got : (c : In-Ok) → let f = c.in-Ok.f in let r = c.read_block in
    Read c.args.bytes.now c.room-indices.result c.room-solutes.result c.room-waters.result f r.new.indices r.new.solutes r.new.waters
got c =
    let e = c.read_block.ensures in
    read-frame _ _ _ _ (search rules) (search rules) (search rules) _ _ _ _
    (record { answer = sym c.in-Ok.is ∙ e.answer; indices_after = e.indices_after; solutes_after = e.solutes_after; waters_after = e.waters_after })

pub overflow_mul-solutes : goal.overflow_mul-solutes
overflow_mul-solutes c = omega (arith, counts-fit (got (goal.at.overflow_mul-solutes c).In-Ok))

pub slice_bounds-solutes-end : goal.slice_bounds-solutes-end
slice_bounds-solutes-end c = search (rules, counts-fit (got (goal.at.slice_bounds-solutes-end c).In-Ok))

pub slice_bounds-put_frame-end : goal.slice_bounds-put_frame-end
slice_bounds-put_frame-end c = sym (length-take-le _ _ (search (rules, counts-fit (got (goal.at.slice_bounds-put_frame-end c).In-Ok))))

pub slice_bounds-indices-end : goal.slice_bounds-indices-end
slice_bounds-indices-end c = search (rules, counts-fit (got (goal.at.slice_bounds-indices-end c).In-Ok))

pub slice_bounds-put_frame-end-in-Ok : goal.slice_bounds-put_frame-end-in-Ok
slice_bounds-put_frame-end-in-Ok c = sym (length-take-le _ _ (search (rules, counts-fit (got (goal.at.slice_bounds-put_frame-end-in-Ok c).In-Ok))))

pub overflow_mul-waters : goal.overflow_mul-waters
overflow_mul-waters c = omega (arith, counts-fit (got (goal.at.overflow_mul-waters c).In-Ok))

pub slice_bounds-waters-end : goal.slice_bounds-waters-end
slice_bounds-waters-end c = search (rules, counts-fit (got (goal.at.slice_bounds-waters-end c).In-Ok))

pub slice_bounds-put_frame-end-in-Ok-2 : goal.slice_bounds-put_frame-end-in-Ok-2
slice_bounds-put_frame-end-in-Ok-2 c = sym (length-take-le _ _ (search (rules, counts-fit (got (goal.at.slice_bounds-put_frame-end-in-Ok-2 c).In-Ok))))

pub returns-in-Err : goal.returns-in-Err
returns-in-Err c =
    let e = c.read_block.ensures in
    let told =
    refused-14 _ _ _ _ (search rules) (search rules) (search rules) c.in-Err.e _ _ _
    (record { answer = sym c.in-Err.is ∙ e.answer; indices_after = e.indices_after; solutes_after = e.solutes_after; waters_after = e.waters_after }) in
    record { answer = rw (← told) (rw c.number.ensures at c.put_refused.ensures.answer); after = rw (← told) (rw c.number.ensures at c.put_refused.ensures.after) }

pub returns-in-Ok : goal.returns-in-Ok
returns-in-Ok c =
    let read = text-read (got (goal.at.returns-in-Ok c).In-Ok) in
    record { answer = rw read at c.put_frame.ensures.answer; after = rw read at c.put_frame.ensures.after }
