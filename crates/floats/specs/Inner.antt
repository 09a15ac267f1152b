-- What only contracts of inner functions cite. Definitions only. Assumes nothing.
use Rattle.std.specs.Prelude.{◌≡◌, ℕ, suc, ◌+◌, ◌*◌, ◌%◌, ◌^◌, ◌≤◌, ◌<◌}
use Rattle.std.specs.Float.{Format}
use Rattle.std.specs.Float.Ieee.{hid, top, of_bits, to_bits}
use Rattle.floats.specs.Root.{sqrt_of}

-- r is the whole root of n
abbrev pub Rooted : ℕ → ℕ → Type 0
Rooted n r = (r * r ≤ n) × (n < suc r * suc r)

-- the pattern of the root of the float whose pattern is b
abbrev pub rooted : Format → ℕ → ℕ
rooted f b = to_bits f (sqrt_of f (of_bits f b))

-- that pattern from the root's exponent E and digits D, put together in 64 bits
abbrev pub Packed : Format → ℕ → ℕ → ℕ → Type 0
Packed f b E D = (E * hid f % 2 ^ 64 + D ≡ rooted f b) × (E * hid f % 2 ^ 64 + D < 2 * top f)
