-- Which bit patterns are NaNs, by the test that the code makes: the pattern without its sign, compared with infinity's.
-- For any format. Assumes nothing.
use mathlib.Core.Path.{◌≡◌, refl, sym, ◌∙◌, subst}
use Prim.Native.Nat.{ℕ, ◌-◌, ◌*◌, ◌%◌, ◌<◌}
use mathlib.Core.Bool.{true}
use lib.Dec.{T, lt→ltb}
use lib.Bits.{bit_and, and_mask}
use lib.Ieee.{Float, nan, inf, fin, Format, binary32, binary64, hid, ones, top, is_nan, nan_bits, of_bits, to_bits}
use lib.Ieee.Bits.{nan_bits_above, nan_bits_is}

-- the pattern that every NaN gives
pub nan32 : 0x7fc0_0000 ≡ to_bits binary32 nan
unfolding to_bits
nan32 = refl

pub nan64 : 0x7ff8_0000_0000_0000 ≡ to_bits binary64 nan
unfolding to_bits
nan64 = refl

pub nan-of : (x : Float) → T (is_nan x) → x ≡ nan
unfolding is_nan
nan-of nan t = refl
nan-of (inf s) t = absurd t
nan-of (fin s m e) t = absurd t

-- the mask takes the sign away
pub unsigned_is : (f : Format) (b : ℕ) → bit_and b (top f - 1) ≡ b % top f
unsigned_is binary32 b = and_mask b 31
unsigned_is binary64 b = and_mask b 63

above-inf : (f : Format) (b : ℕ) → ones f * hid f < bit_and b (top f - 1) → T (nan_bits f b)
above-inf f b h = subst T (sym (nan_bits_above f b)) (lt→ltb (ones f * hid f) (b % top f) (subst (λ (k : ℕ). ones f * hid f < k) (unsigned_is f b) h))

pub nan_pattern : (f : Format) (b : ℕ) → ones f * hid f < bit_and b (top f - 1) → of_bits f b ≡ nan
nan_pattern f b h = nan-of (of_bits f b) (subst T (nan_bits_is f b) (above-inf f b h))

-- the same, from the answer of a test on the pattern
pub nan-tested : (f : Format) (b : ℕ) → nan_bits f b ≡ true → of_bits f b ≡ nan
nan-tested f b h = nan-of (of_bits f b) (subst T (sym h ∙ nan_bits_is f b) tt)
