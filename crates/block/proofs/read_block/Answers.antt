-- `block::read_block` meets its contract. `whole`: past the first test the bytes are a block, so its parts fill them; `room`: past the
-- second each table has room for its part. Then each part is read where the definition reads it. Assumes nothing.
use mathlib.Core.Path.{◌≡◌, sym, ◌∙◌}
use mathlib.Core.Bool.{Bool, ◌||◌}
use mathlib.Core.List.{List}
use Prim.Native.Nat.{ℕ, ◌*◌}
use native.Mathlib.Omega.{arith}
use lib.Dec.{ltb}
use lib.ListN.{length}
use lib.Ieee.{Float}
use Rattle.block.specs.Block.{solute_atoms, index_count, water_count, block_cell, indices_of, solutes_of, waters_of, word_at, float_at}
use Rattle.block.proofs.Answers.{cramped, no_block, no_room, read, room, owed-refused, taken}
use Rattle.block.proofs.Reading.{values-over}
use Rattle.block.proofs.read_block.Goals as goal

-- the code's second test is the definition's
tested : (b is : List ℕ) (ss ws : List Float) {s k w : ℕ} {t : Bool} → s ≡ solute_atoms b → k ≡ index_count b → w ≡ water_count b →
    (ltb (length is) k || (ltb (length ss) (s * 3) || ltb (length ws) (w * 3))) ≡ t → cramped b is ss ws ≡ t
tested b is ss ws es ek ew h = rw (es, ek, ew) at h

pub returns-then-not-is_block : goal.returns-then-not-is_block
returns-then-not-is_block c = owed-refused _ _ _ _ 13 (no_block _ _ _ _ (sym c.is_block.ensures ∙ c.if-not-is_block.true))

pub returns-then-indices-k : goal.returns-then-indices-k
returns-then-indices-k c =
    let a = c.args in
    let whole = sym c.is_block.ensures ∙ c.if-not-is_block.false in
    let cramped = tested a.bytes.now a.indices.now a.solutes.now a.waters.now c.count-s.ensures.0 c.count-k.ensures.0 c.count-w.ensures.0 c.if-indices-k.true in
    owed-refused _ _ _ _ 6 (no_room _ _ _ _ whole cramped)

pub returns : goal.returns
unfolding block_cell indices_of solutes_of waters_of
returns c =
    let a = c.args in
    let b = a.bytes.now in
    let whole = sym c.is_block.ensures ∙ c.if-not-is_block.false in
    let s = c.count-s.ensures.0 in
    let k = c.count-k.ensures.0 in
    let w = c.count-w.ensures.0 in
    let roomy = tested b a.indices.now a.solutes.now a.waters.now s k w c.if-indices-k.false in
    let room = room _ _ _ _ roomy in
    let t = taken b a.indices.now a.solutes.now a.waters.now (read _ _ _ _ whole roomy) in
    let indices = values-over (word_at b) c.count-k.result _ a.indices.now _ (omega (arith, room, k)) c.read_all.ensures in
    let solutes = values-over (float_at b) (c.count-s.result * 3) _ a.solutes.now _ (omega (arith, room, s)) c.read_all-2.ensures in
    let waters = values-over (float_at b) (c.count-w.result * 3) _ a.waters.now _ (omega (arith, room, w)) c.read_all-3.ensures in
    record {
      answer = rw (c.count.ensures.0, s, k, w, c.read_corner.ensures, c.read_corner-2.ensures) t.answer;
      indices_after = indices ∙ rw k t.indices_after;
      solutes_after = solutes ∙ rw (s, k) t.solutes_after;
      waters_after = waters ∙ rw (w, k, s) t.waters_after;
    }
