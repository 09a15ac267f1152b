-- docs/RULES.md, 'Numbers': the square root, correctly rounded. In units of the format's smallest value 2 ^ -low, the root of x is
-- the plain root of a natural number, so the definition has no cases on the exponent.
-- Definitions only. Assumes nothing.
use Rattle.std.specs.Prelude.{ℕ, zero, suc, ◌+◌, ◌-◌, ◌*◌, ◌/◌, ◌^◌, true, false, cond, leb, Float}
use Rattle.std.specs.Float.{nan, inf, fin, Format}
use Rattle.std.specs.Float.Ieee.{prec, low, up, down, size, units}

-- The whole root of an n below 4 ^ d, a binary digit at a time: the largest r with r * r ≤ n.
unfoldable pub root_by : ℕ → ℕ → ℕ
root_by zero n = 0
root_by (suc d) n = let r = root_by d (n / 4) in 2 * r + cond (leb ((2 * r + 1) * (2 * r + 1)) n) 1 0

unfoldable pub whole_root : ℕ → ℕ
unfolding root_by size
whole_root n = root_by (size n) n

-- The root of n rounded to p binary digits: root_digits p n * 2 ^ suc (root_drop p n). Of the whole root r, (r / 2 ^ root_drop p n) has p + 1 digits, and the last of them says whether to go up:
-- the root lies above the mean of two neighbours exactly where that digit is 1, for it never lies at the mean (`proofs/RootCore.antt`).
unfoldable pub root_drop : ℕ → ℕ → ℕ
unfolding whole_root size
root_drop p n = size (whole_root n) - suc p

unfoldable pub root_digits : ℕ → ℕ → ℕ
unfolding whole_root root_drop
root_digits p n = (whole_root n / 2 ^ root_drop p n + 1) / 2

-- The root of n squared units, in the format's units of 2 ^ -low.
unfoldable pub root_units : Format → ℕ → Float
unfolding root_drop root_digits units
root_units f n = units f false (root_digits (prec f) n) (suc (root_drop (prec f) n))

-- x is num / den, and num / den * 4 ^ low squared units.
unfoldable pub sqrt_of : Format → Float → Float
unfolding root_units
sqrt_of f nan = nan
sqrt_of f (inf true) = nan
sqrt_of f (inf false) = inf false
sqrt_of f (fin s zero e) = fin s zero e
sqrt_of f (fin true (suc m) e) = nan
sqrt_of f (fin false (suc m) e) = root_units f (suc m * up e * (2 ^ low f * 2 ^ low f) / down e)
