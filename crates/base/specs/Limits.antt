-- docs/RULES.md, 'Limits': how many atoms, indices, copies and picks there may be. Definitions only. Assumes nothing.
use Rattle.std.specs.Prelude.{ℕ}

-- solute atoms, and waters
abbrev pub max_atoms : ℕ
max_atoms = 65536

abbrev pub max_indices : ℕ
max_indices = 256

abbrev pub max_copies : ℕ
max_copies = 4096

abbrev pub max_picks : ℕ
max_picks = 65536
