-- Text as a list of bytes: words in ASCII, numbers by their digits, floats by their bits, and lines. Definitions only. Assumes nothing.
use Rattle.std.specs.Prelude.{ℕ, zero, suc, ◌+◌, ◌/◌, ◌%◌, cond, List, [], ◌∷◌, ◌++◌, ltb, eqb, Float}
use Prim.Native.Char.{code}
use Prim.Native.String.{String, [] as no_more, ◌∷◌ as ◌before◌}
use Rattle.std.specs.Float.{binary32}
use Rattle.std.specs.Float.Ieee.{to_bits}

-- the bytes of a quoted text
abbrev pub ascii : String → List ℕ
ascii no_more = []
ascii (c before s) = code c ∷ ascii s

-- ---- numbers
-- the digit that counts d, in capitals: 0 .. 9, A .. F
unfoldable pub glyph : ℕ → ℕ
glyph d = cond (ltb d 10) (48 + d) (55 + d)

-- the last k digits of n in base b
unfoldable pub digits : ℕ → ℕ → ℕ → List ℕ
digits b zero n = []
digits b (suc k) n = digits b k (n / b) ++ (glyph (n % b) ∷ [])

-- how many decimal digits n has, where it has no more than f + 1
unfoldable pub places_in : ℕ → ℕ → ℕ
places_in zero n = 1
places_in (suc f) n = cond (ltb n 10) 1 (places_in f (n / 10) + 1)

-- a usize, below 2 ^ 64, has no more than twenty; 0 has one
unfoldable pub places : ℕ → ℕ
places n = places_in 19 n

-- n in decimal, with no leading zero; 0 is `0`
unfoldable pub decimal : ℕ → List ℕ
decimal n = digits 10 (places n) n

-- a word of 32 bits in eight hexadecimal digits, leading zeros kept
unfoldable pub hex : ℕ → List ℕ
hex w = digits 16 8 w

-- a float as its bits
unfoldable pub hex_bits : Float → List ℕ
hex_bits x = hex (to_bits binary32 x)

-- an occupancy's word in the leaf table: `dry` where it is 0, else the ratio's bits
unfoldable pub occupancy : ℕ → List ℕ
occupancy w = cond (eqb w 0) (ascii "dry") (hex w)

-- ---- lines
-- a word and the byte after it
abbrev pub followed : List ℕ → ℕ → List ℕ
followed w b = w ++ (b ∷ [])

-- words with a blank between each two, and a newline after the last
abbrev pub line : List (List ℕ) → List ℕ
line [] = []
line (w ∷ []) = followed w 10
line (w ∷ v ∷ ws) = followed w 32 ++ line (v ∷ ws)
