-- What a call that writes a text owes: 7 and the buffer as it was, or the text.
-- Assumes nothing.
use mathlib.Core.Path.{◌≡◌, ◌∙◌}
use mathlib.Core.Bool.{Bool, true, false, ◌||◌, or-true}
use mathlib.Core.List.{List}
use Prim.Native.Nat.{ℕ, ◌≤◌, ◌<◌}
use native.Mathlib.Nat.{zero-add}
use lib.Dec.{ltb}
use lib.ListN.{length}
use borrow.Author.Tests.{lt-ltb, le-ltb}
use Rattle.base.specs.Refusals.{first_refusal, refused}
use Rattle.base.specs.Tables.{over}
use Rattle.std.proofs.Common.{Result, Ok}
use Rattle.base.specs.declared.Refused.{Refused}
use Rattle.listing.specs.Listing.{text_refusal, text_answer, text_after}
use Rattle.base.proofs.Placing.{placed-zero}
use Rattle.listing.proofs.Pieces.{Put}

module _ (missing : Bool) (text out : List ℕ) where
  -- the two promises, of an answer and of the buffer afterwards
  abbrev pub Owed : Result ℕ Refused → List ℕ → Type 0
  Owed r out₁ = record { answer : r ≡ text_answer missing text out; after : out₁ ≡ text_after missing text out }

  pub cramped : (missing || ltb (length out) (length text)) ≡ true → Owed (refused 7) out
  unfolding text_refusal text_answer text_after first_refusal
  cramped h = record { answer = rw h; after = rw h }

  -- a text that is longer than the buffer
  pub cramped-room : length out < length text → Owed (refused 7) out
  cramped-room h = cramped (rw (lt-ltb (length out) (length text) h, or-true))

  pub written : (missing || ltb (length out) (length text)) ≡ false → {r : ℕ} {out₁ : List ℕ} → Put 0 text out r out₁ → Owed (Ok r) out₁
  unfolding text_refusal text_answer text_after first_refusal
  written h e = record { answer = rw (h, e.0, zero-add); after = rw h (e.1 ∙ placed-zero text out) }

  pub written-room : missing ≡ false → length text ≤ length out → {r : ℕ} {out₁ : List ℕ} → Put 0 text out r out₁ → Owed (Ok r) out₁
  written-room m h e = written (rw (m, le-ltb (length out) (length text) h)) e

-- with room for it the text is written
pub whole : (text out : List ℕ) → length text ≤ length out → {r : Result ℕ Refused} {out₁ : List ℕ} → Owed false text out r out₁ → (r ≡ Ok (length text)) × (out₁ ≡ over text out)
unfolding text_refusal text_answer text_after first_refusal
whole text out h o =
    let room = le-ltb (length out) (length text) h in
    (rw room at o.answer, rw room at o.after)
