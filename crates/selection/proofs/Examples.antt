-- docs/RULES.md, 'Checked frames', on this layer: which atoms are picked, worked out from the definitions. Every atom is at (1, 1, 1).
-- Assumes nothing.
use mathlib.Core.Path.{◌≡◌, refl}
use mathlib.Core.List.{List, [], ◌∷◌}
use Prim.Native.Nat.{ℕ, ◌*◌}
use lib.ListN.{replicate}
use lib.Ieee.{Float, binary32, of_bits}
use Rattle.cell.specs.Cell.{finite_point, point_at}
use Rattle.pick_lists.specs.Sound.{finite_atom}
use Rattle.selection.specs.Selection.{finite_atoms, indexed, picked, copies_from, chunks, kept_copies}

abbrev pub atoms : ℕ → List Float
atoms n = replicate (n * 3) (of_bits binary32 0x3F80_0000)

pub record Checked : Type 0 where
  -- three atoms per copy, five atoms: one copy
  pub short-chunk : kept_copies (atoms 5) 3 [] ≡ (0 ∷ 1 ∷ 2 ∷ []) ∷ []
  -- zero per copy: none
  pub zero-per-copy : kept_copies (atoms 5) 0 [] ≡ []
  -- indices 0, 0 pick atom 0 twice
  pub repeated : kept_copies (atoms 3) 3 (0 ∷ 0 ∷ []) ≡ (0 ∷ 0 ∷ []) ∷ []
  -- index 9 alone picks all three
  pub past-the-copy : kept_copies (atoms 3) 3 (9 ∷ []) ≡ (0 ∷ 1 ∷ 2 ∷ []) ∷ []

pub checked : Checked
unfolding kept_copies copies_from chunks picked indexed finite_atoms finite_atom finite_point point_at of_bits
checked = record { short-chunk = refl; zero-per-copy = refl; repeated = refl; past-the-copy = refl }
