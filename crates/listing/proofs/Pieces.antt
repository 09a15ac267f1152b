-- Pieces of text written one after the other.
-- Assumes nothing.
use mathlib.Core.Path.{◌≡◌, ◌∙◌}
use mathlib.Core.List.{List, ◌++◌}
use Prim.Native.Nat.{ℕ, ◌+◌, ◌≤◌}
use native.Mathlib.Omega.{arith}
use lib.ListN.{length, length-append}
use Rattle.base.specs.Tables.{placed}
use Rattle.base.proofs.Filling.{Filling, filling-append}

-- the piece ys is written into the table t at entry `at`: the table is then t₁, and the piece ends before entry r
abbrev pub Put : ℕ → List ℕ → List ℕ → ℕ → List ℕ → Type 0
Put at ys t r t₁ = (r ≡ at + length ys) × (t₁ ≡ placed at ys t)

module _ {at : ℕ} {all t₀ : List ℕ} {end : ℕ} where
  pub piece-fits : (ys rest : List ℕ) {t : List ℕ} → Filling at all t₀ end (ys ++ rest) t → end + length ys ≤ length t
  piece-fits ys rest z = omega (arith, z.room, length-append ys rest)

  -- after a piece the rest is still to be written
  pub piece : (ys rest : List ℕ) {t : List ℕ} → Filling at all t₀ end (ys ++ rest) t → {r : ℕ} {t₁ : List ℕ} → Put end ys t r t₁ → Filling at all t₀ r rest t₁
  piece ys rest z e = rw (e.0, e.1) (filling-append ys z)

  -- with the last piece all is written
  pub last-piece : {rest t : List ℕ} → Filling at all t₀ end rest t → {r : ℕ} {t₁ : List ℕ} → Put end rest t r t₁ → Put at all t₀ r t₁
  last-piece z e = (e.0 ∙ z.left, e.1 ∙ z.table)

-- how long pieces are, one after the other
pub ruleset lengths = (length-append)
