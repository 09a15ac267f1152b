-- What read_block owes, by its refusal: 14, 7 or none, and then the answer and the three tables.
-- Assumes nothing.
use mathlib.Core.Path.{◌≡◌}
use mathlib.Core.Bool.{Bool, true, false, ◌||◌}
use mathlib.Core.List.{List}
use Prim.Native.Nat.{ℕ, suc, ◌*◌, ◌≤◌}
use lib.Dec.{ltb}
use lib.ListN.{length}
use lib.Ieee.{Float}
use borrow.Author.Tests.{ltb-false}
use Rattle.base.specs.Refusals.{first_refusal, refused}
use Rattle.base.specs.Tables.{over}
use Rattle.base.proofs.Tests.{neither}
use Rattle.std.proofs.Common.{Result, Ok}
use Rattle.base.specs.declared.Refused.{Refused}
use Rattle.block.specs.declared.BlockFrame.{BlockFrame}
use Rattle.block.specs.Block.{per_copy, solute_atoms, index_count, water_count, is_block, block_cell, indices_of, solutes_of, waters_of, block_refusal, block_answer, indices_after, solutes_after, waters_after}

-- the bytes, and the lent tables for indices, solutes and waters
module _ (b is : List ℕ) (ss ws : List Float) where
  -- whether a lent table is too short for its part
  abbrev pub cramped : Bool
  cramped = ltb (length is) (index_count b) || (ltb (length ss) (solute_atoms b * 3) || ltb (length ws) (water_count b * 3))

  pub no_block : is_block b ≡ false → block_refusal b is ss ws ≡ 14
  unfolding block_refusal first_refusal
  no_block h = rw h

  pub no_room : is_block b ≡ true → cramped ≡ true → block_refusal b is ss ws ≡ 7
  unfolding block_refusal first_refusal
  no_room h t = rw (h, t)

  pub read : is_block b ≡ true → cramped ≡ false → block_refusal b is ss ws ≡ 0
  unfolding block_refusal first_refusal
  read h t = rw (h, t)

  -- each table has room
  pub record Room : Type 0 where
    pub for-indices : index_count b ≤ length is
    pub for-solutes : solute_atoms b * 3 ≤ length ss
    pub for-waters : water_count b * 3 ≤ length ws

  pub room : cramped ≡ false → Room
  room h =
      let i = neither (ltb (length is) (index_count b)) _ h in
      let sw = neither (ltb (length ss) (solute_atoms b * 3)) (ltb (length ws) (water_count b * 3)) i.1 in
      record {
        for-indices = ltb-false (length is) (index_count b) i.0;
        for-solutes = ltb-false (length ss) (solute_atoms b * 3) sw.0;
        for-waters = ltb-false (length ws) (water_count b * 3) sw.1;
      }

  -- the four promises, of an answer and of the tables afterwards
  abbrev pub Owed : Result BlockFrame Refused → List ℕ → List Float → List Float → Type 0
  Owed r is₁ ss₁ ws₁ =
      record {
        answer : r ≡ block_answer b is ss ws;
        indices_after : is₁ ≡ indices_after b is ss ws;
        solutes_after : ss₁ ≡ solutes_after b is ss ws;
        waters_after : ws₁ ≡ waters_after b is ss ws;
      }

  pub owed-refused : (m : ℕ) → block_refusal b is ss ws ≡ suc m → Owed (refused (suc m)) is ss ws
  unfolding block_answer indices_after solutes_after waters_after
  owed-refused m e = record { answer = rw e; indices_after = rw e; solutes_after = rw e; waters_after = rw e }

  pub taken : block_refusal b is ss ws ≡ 0 → Owed (Ok (record { per = per_copy b; solutes = solute_atoms b; indices = index_count b; waters = water_count b; cell = block_cell b })) (over (indices_of b) is) (over (solutes_of b) ss) (over (waters_of b) ws)
  unfolding block_answer indices_after solutes_after waters_after
  taken e = record { answer = rw e; indices_after = rw e; solutes_after = rw e; waters_after = rw e }
