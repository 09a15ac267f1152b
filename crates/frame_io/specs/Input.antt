-- docs/RULES.md, program `frame`: the input that a buffer holds, and its text. Definitions only. Assumes nothing.
use Rattle.std.specs.Prelude.{◌≡◌, List, ℕ, length, take}
use Rattle.base.specs.Tables.{over}
use Rattle.block_text.specs.Printed.{printed}

-- the buffer's first n bytes are the input s, or of a longer one as many as the buffer has
abbrev pub Holds : List ℕ → ℕ → List ℕ → Type 0
Holds buffer n s = take n buffer ≡ take (length buffer) s

-- whatever the input is, r bytes of its text are written over `out`, and that is all of it
abbrev pub WholeText : List ℕ → ℕ → List ℕ → ℕ → List ℕ → Type 0
WholeText buffer n out r out₁ = (s : List ℕ) → Holds buffer n s → (r ≡ length (printed s)) × (out₁ ≡ over (printed s) out)

-- r is the length of the text of some input
pub record TextLength (r : ℕ) : Type 0 where
  pub input : List ℕ
  pub all : r ≡ length (printed input)
