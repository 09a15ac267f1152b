-- docs/RULES.md, Row, Centers, Dispersion, Tree and Report: a call's input, and what every call asks of it: 1, 2, 3, 4, 15, 8.
-- Definitions only. Assumes nothing.
use Rattle.std.specs.Prelude.{ℕ, List, [], ◌∷◌, ◌++◌, Float}
use Rattle.cell.specs.declared.Cell.{Cell}
use Rattle.base.specs.Refusals.{Refusal}
use Rattle.frame_limits.specs.Limits.{frame_refusals}
use Rattle.pick_lists.specs.Sound.{soundness}

-- what stays fixed while a call works; a call that takes no waters has none
pub record Input : Type 0 where
  pub cell : Cell
  pub solutes : List Float
  pub waters : List Float
  pub starts : List ℕ
  pub picks : List ℕ

abbrev pub given : Cell → List Float → List Float → List ℕ → List ℕ → Input
given c solutes waters starts picks = record { cell = c; solutes = solutes; waters = waters; starts = starts; picks = picks }

unfoldable pub input_refusals : Input → List Refusal
unfolding frame_refusals soundness
input_refusals f = frame_refusals f.cell f.solutes f.waters ++ (soundness f.solutes f.starts f.picks ∷ [])
