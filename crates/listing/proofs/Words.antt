-- A line written a word at a time: k words are written, and the line of the others is still to be written.
-- Assumes nothing.
use mathlib.Core.Path.{◌≡◌, refl}
use mathlib.Core.List.{List, [], ◌∷◌, ◌++◌}
use Prim.Native.Nat.{ℕ, zero, suc, ◌+◌, ◌≤◌, ◌<◌}
use native.Mathlib.Omega.{arith}
use lib.ListN.{length, get_or, drop}
use Rattle.text.specs.Text.{followed, line}
use Rattle.base.proofs.Filling.{Filling, filling-first}
use Rattle.listing.proofs.Pieces.{Put, piece, last-piece}

-- the words from the k-th on begin with it
line-next : (ws : List (List ℕ)) (k : ℕ) → suc k < length ws → line (drop k ws) ≡ followed (get_or ws k []) 32 ++ line (drop (suc k) ws)
line-next [] k h = absurd (omega arith)
line-next (w ∷ []) k h = absurd (omega arith)
line-next (w ∷ v ∷ ws) zero h = refl
line-next (w ∷ v ∷ ws) (suc k) h = line-next (v ∷ ws) k (omega arith)

line-last : (ws : List (List ℕ)) (k : ℕ) → suc k ≡ length ws → line (drop k ws) ≡ followed (get_or ws k []) 10
line-last [] k h = absurd (omega arith)
line-last (w ∷ []) zero h = refl
line-last (w ∷ []) (suc k) h = absurd (omega arith)
line-last (w ∷ v ∷ ws) zero h = absurd (omega arith)
line-last (w ∷ v ∷ ws) (suc k) h = line-last (v ∷ ws) k (omega arith)

-- k words of the line `ws` are written into the table t₀ from entry `at` on; now the table is t, and the next word comes at entry `end`
pub record Words (at : ℕ) (ws : List (List ℕ)) (t₀ : List ℕ) (k end : ℕ) (t : List ℕ) : Type 0 where
  pub fill : Filling at (line ws) t₀ end (line (drop k ws)) t

pub words-first : {at : ℕ} (ws : List (List ℕ)) (t : List ℕ) → at + length (line ws) ≤ length t → Words at ws t 0 at t
words-first ws t h = record { fill = filling-first h }

module _ {at : ℕ} {ws : List (List ℕ)} {t₀ : List ℕ} {k end : ℕ} {t : List ℕ} where
  next : suc k < length ws → Words at ws t₀ k end t → Filling at (line ws) t₀ end (followed (get_or ws k []) 32 ++ line (drop (suc k) ws)) t
  next h z = rw (line-next ws k h) at z.fill

  last : suc k ≡ length ws → Words at ws t₀ k end t → Filling at (line ws) t₀ end (followed (get_or ws k []) 10) t
  last h z = rw (line-last ws k h) at z.fill

  pub words-next : suc k < length ws → Words at ws t₀ k end t → {r : ℕ} {t₁ : List ℕ} → Put end (followed (get_or ws k []) 32) t r t₁ → Words at ws t₀ (suc k) r t₁
  words-next h z e = record { fill = piece (followed (get_or ws k []) 32) (line (drop (suc k) ws)) (next h z) e }

  pub words_last : suc k ≡ length ws → Words at ws t₀ k end t → {r : ℕ} {t₁ : List ℕ} → Put end (followed (get_or ws k []) 10) t r t₁ → Put at (line ws) t₀ r t₁
  words_last h z e = last-piece (last h z) e
