-- `frame_text::put_frame` meets its contract: each case of the whole frame's answer has the frame's text (`text`). Assumes nothing.
use mathlib.Core.Path.{◌≡◌, sym, ap, ◌∙◌}
use mathlib.Core.List.{List}
use Prim.Native.Nat.{ℕ}
use lib.ListN.{length-replicate}
use Rattle.std.proofs.Common.{Result, Option}
use Rattle.base.specs.declared.Refused.{Refused}
use Rattle.mixing.specs.declared.Mixture.{Mixture}
use Rattle.mixing.specs.Frame.{Frame, FrameTables, frame_of, frame_answer, frame_after}
use Rattle.frame_text.specs.Texts.{program_tables, answer_text, frame_text}
use Rattle.frame_text.proofs.Texts.{lent-zeros, none-missing, answer-text}
use borrow.Author.Rules.{rules}
use Rattle.frame_text.proofs.put_frame.Goals as goal
use Rattle.frame_text.proofs.put_frame.Goals.{After-frame}

-- what the whole frame answers and leaves, over tables that are the program's
answered : (h : Frame) (t u : FrameTables) (a : Result (Option Mixture) Refused) → t ≡ program_tables → a ≡ frame_answer h t → u ≡ frame_after h t
    → (a ≡ frame_answer h program_tables) × (u.leaves ≡ (frame_after h program_tables).leaves)
answered h t u a e p q =
    (p ∙ ap (λ (v : FrameTables). frame_answer h v) e, ap (λ (v : FrameTables). v.leaves) q ∙ ap (λ (v : FrameTables). (frame_after h v).leaves) e)

-- the case r of the answer a has the frame's text
text : (h : Frame) (a r : Result (Option Mixture) Refused) (l : List ℕ) → (a ≡ frame_answer h program_tables) × (l ≡ (frame_after h program_tables).leaves) → a ≡ r
    → answer_text r l ≡ frame_text h program_tables
text h a r l k e = answer-text h program_tables r l (sym e ∙ k.0) k.1

-- what the whole frame answered and left, over the program's tables
known : (c : After-frame) → let a = c.args in let f = frame_of a.cell a.cutoff a.solutes.now a.per a.indices.now a.waters.now in
    (c.frame.result ≡ frame_answer f program_tables) × (c.frame.new.leaves ≡ (frame_after f program_tables).leaves)
known c =
    let a = c.args in
    let f : Frame = frame_of a.cell a.cutoff a.solutes.now a.per a.indices.now a.waters.now in
    let tables =
    lent-zeros
    c.room-starts.ensures
    c.room-picks.ensures
    c.room-clusters.ensures
    c.room-center_order.ensures
    c.room-water_order.ensures
    c.room-records.ensures
    c.room-boxes.ensures
    c.room-leaves.ensures in
    answered f _ _ c.frame.result tables c.frame.ensures.answer c.frame.ensures.after

pub returns-in-Ok-Some : goal.returns-in-Ok-Some
unfolding program_tables
returns-in-Ok-Some c =
    let whole = known (goal.at.returns-in-Ok-Some c).After-frame in
    let is = rw c.in-Ok-Some.field-0-is at c.in-Ok-Some.is in
    let told = text _ c.frame.result _ c.frame.new.leaves whole is in
    let there = none-missing _ program_tables c.in-Ok-Some.m (sym is ∙ whole.0) c.frame.new.leaves (search (rules, length-replicate {A = ℕ} 16384 0)) in
    record { answer = rw (← told) (rw there at c.put_listing.ensures.answer); after = rw (← told) (rw there at c.put_listing.ensures.after) }

pub returns-in-Ok-None : goal.returns-in-Ok-None
returns-in-Ok-None c =
    let is = rw c.in-Ok-None.field-0-is at c.in-Ok-None.is in
    let told = text _ c.frame.result _ c.frame.new.leaves (known (goal.at.returns-in-Ok-None c).After-frame) is in
    record { answer = rw (← told) c.put_blank.ensures.answer; after = rw (← told) c.put_blank.ensures.after }

pub returns-in-Err : goal.returns-in-Err
returns-in-Err c =
    let told = text _ c.frame.result _ c.frame.new.leaves (known (goal.at.returns-in-Err c).After-frame) c.in-Err.is in
    let number = c.number.ensures in
    record { answer = rw (← told) (rw number at c.put_refused.ensures.answer); after = rw (← told) (rw number at c.put_refused.ensures.after) }
