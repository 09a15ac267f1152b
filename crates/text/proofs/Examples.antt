-- Small texts, as the definitions give them: `checked`, one statement for the lot. Assumes nothing.
use mathlib.Core.Path.{◌≡◌, refl}
use Rattle.text.specs.Text.{ascii, glyph, digits, places_in, places, decimal, hex, occupancy}

pub record Checked : Type 0 where
  pub zero-decimal : decimal 0 ≡ ascii "0"
  pub ten-decimal : decimal 10 ≡ ascii "10"
  pub most-decimal : decimal 18446744073709551615 ≡ ascii "18446744073709551615"
  pub zero-hex : hex 0 ≡ ascii "00000000"
  pub most-hex : hex 0xffff_ffff ≡ ascii "FFFFFFFF"
  pub ratio : occupancy 0x89a_bcde ≡ ascii "089ABCDE"

pub checked : Checked
unfolding glyph digits places_in places decimal hex occupancy
checked =
    record {
      zero-decimal = refl;
      ten-decimal = refl;
      most-decimal = refl;
      zero-hex = refl;
      most-hex = refl;
      ratio = refl;
    }
