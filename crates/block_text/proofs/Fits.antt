-- A block's parts fit the tables that the program lends, so that only 14 refuses its bytes, and what is read is the block's frame.
-- Assumes nothing.
use mathlib.Core.Path.{◌≡◌, refl, ap}
use mathlib.Core.Bool.{Bool, true, false, cond, and-eq-true_iff}
use mathlib.Core.List.{List}
use Prim.Native.Nat.{ℕ, ◌+◌, ◌*◌, ◌≤◌}
use native.Mathlib.Omega.{arith}
use lib.Dec.{leb}
use lib.ListN.{length, take, drop}
use lib.Seq.{take_at}
use lib.Ieee.{Float}
use borrow.Author.Tests.{leb-true, le-ltb}
use Rattle.std.proofs.Common.{Ok, Err}
use Rattle.base.specs.declared.Refused.{Refused}
use Rattle.base.specs.declared.Refused.TheVariants.{Block}
use Rattle.base.specs.Refusals.{refusal_number}
use Rattle.base.specs.Tables.{over}
use Rattle.block.specs.declared.BlockFrame.{BlockFrame}
use Rattle.block.specs.Block.{max_block, is_block, per_copy, solute_atoms, index_count, water_count, block_cell, indices_of, solutes_of, waters_of, word_at, float_at, block_refusal}
use Rattle.block.proofs.Header.{block-length}
use Rattle.block.proofs.Reading.{length-values}
use Rattle.block.proofs.Answers.{Owed, cramped, no_block, read, owed-refused, taken}
use Rattle.listing.specs.Listing.{refused_text}
use Rattle.touch.specs.Touch.{rust_cutoff}
use Rattle.mixing.specs.Frame.{frame_of}
use Rattle.frame_text.specs.Texts.{program_tables, frame_text}
use Rattle.block_text.specs.Printed.{frame_in, printed}

-- what a block holds has at most so many bytes
small : (b : List ℕ) → is_block b ≡ true → 46 + 4 * index_count b + 12 * (solute_atoms b + water_count b) ≤ max_block
unfolding is_block
small b e = omega (arith, block-length b e, leb-true (length b) max_block ((and-eq-true_iff (leb (length b) max_block) _).0 e).0)

-- what was read of a block: its frame, and its parts at the start of the tables
pub record Read (b is : List ℕ) (ss ws : List Float) (f : BlockFrame) (is₁ : List ℕ) (ss₁ ws₁ : List Float) : Type 0 where
  pub block : is_block b ≡ true
  pub per-is : f.per ≡ per_copy b
  pub s-is : f.solutes ≡ solute_atoms b
  pub k-is : f.indices ≡ index_count b
  pub w-is : f.waters ≡ water_count b
  pub cell-is : f.cell ≡ block_cell b
  pub indices-are : is₁ ≡ over (indices_of b) is
  pub solutes-are : ss₁ ≡ over (solutes_of b) ss
  pub waters-are : ws₁ ≡ over (waters_of b) ws

module _ (b is : List ℕ) (ss ws : List Float) (li : length is ≡ 14988) (ls : length ss ≡ 14988) (lw : length ws ≡ 14988) where
  roomy : is_block b ≡ true → cramped b is ss ws ≡ false
  roomy e =
      let s = small b e in
      rw (
        le-ltb (length is) (index_count b) (omega (arith, s, li)),
        le-ltb (length ss) (solute_atoms b * 3) (omega (arith, s, ls)),
        le-ltb (length ws) (water_count b * 3) (omega (arith, s, lw)),
      )

  none : is_block b ≡ true → block_refusal b is ss ws ≡ 0
  none e = read b is ss ws e (roomy e)

  -- a refusal is 14
  pub refused-14 : (e : Refused) (is₁ : List ℕ) (ss₁ ws₁ : List Float) → Owed b is ss ws (Err e) is₁ ss₁ ws₁ → refused_text (refusal_number e) ≡ printed b
  unfolding printed
  refused-14 e is₁ ss₁ ws₁ o = by-block (is_block b) refl
    where
      by-block : (x : Bool) → is_block b ≡ x → refused_text (refusal_number e) ≡ cond x (frame_text (frame_in b) program_tables) (refused_text 14)
      by-block true h = let t = (taken b is ss ws (none h)).answer in let z : ◌≡◌ {A = ℕ} 0 1 = cc in absurd (omega arith)
      by-block false h = let t = (owed-refused b is ss ws 13 (no_block b is ss ws h)).answer in let z : e ≡ Block = cc in ap (λ (x : Refused). refused_text (refusal_number x)) z

  -- a frame is the block's
  pub read-frame : (f : BlockFrame) (is₁ : List ℕ) (ss₁ ws₁ : List Float) → Owed b is ss ws (Ok f) is₁ ss₁ ws₁ → Read b is ss ws f is₁ ss₁ ws₁
  read-frame f is₁ ss₁ ws₁ o = by-block (is_block b) refl
    where
      by-block : (x : Bool) → is_block b ≡ x → Read b is ss ws f is₁ ss₁ ws₁
      by-block true e =
          let t = taken b is ss ws (none e) in
          let frame : f ≡ record { per = per_copy b; solutes = solute_atoms b; indices = index_count b; waters = water_count b; cell = block_cell b } = cc in
          record {
            block = e;
            per-is = ap (λ (x : BlockFrame). x.per) frame;
            s-is = ap (λ (x : BlockFrame). x.solutes) frame;
            k-is = ap (λ (x : BlockFrame). x.indices) frame;
            w-is = ap (λ (x : BlockFrame). x.waters) frame;
            cell-is = ap (λ (x : BlockFrame). x.cell) frame;
            indices-are = cc;
            solutes-are = cc;
            waters-are = cc;
          }
      by-block false e = let t = (owed-refused b is ss ws 13 (no_block b is ss ws e)).answer in let z : ◌≡◌ {A = ℕ} 0 1 = cc in absurd (omega arith)

-- ---- the parts, as they are handed on
module _ {b is : List ℕ} {ss ws : List Float} {f : BlockFrame} {is₁ : List ℕ} {ss₁ ws₁ : List Float} (r : Read b is ss ws f is₁ ss₁ ws₁) where
  pub indices-read : take f.indices is₁ ≡ indices_of b
  unfolding over indices_of
  indices-read = rw (r.indices-are, r.k-is) (take_at (indices_of b) (drop (length (indices_of b)) is) (index_count b) (length-values (word_at b) (index_count b) _))

  pub solutes-read : take (f.solutes * 3) ss₁ ≡ solutes_of b
  unfolding over solutes_of
  solutes-read = rw (r.solutes-are, r.s-is) (take_at (solutes_of b) (drop (length (solutes_of b)) ss) (solute_atoms b * 3) (length-values (float_at b) (solute_atoms b * 3) _))

  pub waters-read : take (f.waters * 3) ws₁ ≡ waters_of b
  unfolding over waters_of
  waters-read = rw (r.waters-are, r.w-is) (take_at (waters_of b) (drop (length (waters_of b)) ws) (water_count b * 3) (length-values (float_at b) (water_count b * 3) _))

  pub frame-read : frame_of f.cell rust_cutoff (take (f.solutes * 3) ss₁) f.per (take f.indices is₁) (take (f.waters * 3) ws₁) ≡ frame_in b
  unfolding frame_in
  frame-read = rw (solutes-read, indices-read, waters-read, r.per-is, r.cell-is)

  pub text-read : frame_text (frame_of f.cell rust_cutoff (take (f.solutes * 3) ss₁) f.per (take f.indices is₁) (take (f.waters * 3) ws₁)) program_tables ≡ printed b
  unfolding printed
  text-read = rw (frame-read, r.block)

  -- the numbers fit their tables
  pub counts-fit : (f.indices ≤ 14988) × ((f.solutes * 3 ≤ 14988) × (f.waters * 3 ≤ 14988))
  counts-fit = let m = small b r.block in omega (arith, m, r.k-is, r.s-is, r.w-is)
