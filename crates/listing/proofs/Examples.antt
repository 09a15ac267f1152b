-- The listing (docs/RULES.md), and the other texts, as the definitions give them: `checked`, one statement for the lot. Assumes nothing.
use mathlib.Core.Path.{◌≡◌, refl}
use mathlib.Core.Bool.{false}
use mathlib.Core.List.{List, [], ◌∷◌}
use Prim.Native.Nat.{ℕ}
use lib.ListN.{replicate}
use lib.Ieee.{Float, binary32, of_bits, to_bits}
use Rattle.base.specs.Refusals.{first_refusal, refused}
use Rattle.base.specs.Tables.{over}
use Rattle.text.specs.Text.{ascii, glyph, digits, places_in, places, decimal, hex, hex_bits, occupancy}
use Rattle.std.proofs.Common.{Ok}
use Rattle.mixing.specs.declared.Mixture.{Mixture}
use Rattle.listing.specs.Listing.{
  refused_text,
  blank_text,
  clusters_line,
  dispersion_line,
  nodes_line,
  leaf_line,
  leaf_lines,
  dry_line,
  listing_text,
  leaves_missing,
  text_refusal,
  text_answer,
  text_after,
}

abbrev one : Float
one = of_bits binary32 0x3f80_0000

abbrev quarter : Float
quarter = of_bits binary32 0x3e80_0000

-- the leaf table of the listed frame (docs/RULES.md)
abbrev pub leaves : List ℕ
leaves =
    3 ∷ 1 ∷ 0 ∷ 0 ∷ 1 ∷ 0x3faa_aaab ∷ 0x3e00_0000 ∷ 0
    ∷ 4 ∷ 1 ∷ 0 ∷ 0 ∷ 1 ∷ 0x3faa_aaab ∷ 0x3e00_0000 ∷ 0
    ∷ []

abbrev pub listed : List ℕ
listed = ascii "clusters 2 3F800000 3F800000 3F800000\ndispersion 3E800000\nnodes 6 depth 3\nleaf 3 1 0 dry 1 3FAAAAAB 3E000000\nleaf 4 1 0 dry 1 3FAAAAAB 3E000000\ndryleaves 2\n"

abbrev mixture : Mixture
mixture =
    record {
      counted = record { copies = 2; picks = 2 };
      fractions = record { largest = one; contacted = one; pair = one };
      dispersion = quarter;
      report = record { nodes = 6; depth = 3; leaves = 2; dry = 2 };
    }

pub record Checked : Type 0 where
  pub listing : listing_text mixture leaves ≡ listed
  pub bytes : text_answer (leaves_missing leaves 2) listed (replicate 200 0) ≡ Ok 156
  -- more leaves than the table has
  pub missing : text_answer (leaves_missing leaves 3) listed (replicate 200 0) ≡ refused 7
  -- the other two texts; a buffer keeps what stands past the text, and all of it where the text has no room
  pub refusal : refused_text 14 ≡ ascii "refused 14\n"
  pub blank : text_after false blank_text (replicate 8 7) ≡ ascii "blank\n\u{7}\u{7}"
  pub no_room : text_after false blank_text (replicate 5 7) ≡ replicate 5 7

pub checked : Checked
unfolding
    glyph
    digits
    places_in
    places
    decimal
    hex
    hex_bits
    occupancy
    refused_text
    clusters_line
    dispersion_line
    nodes_line
    leaf_line
    leaf_lines
    dry_line
    listing_text
    text_refusal
    text_answer
    text_after
    first_refusal
    over
    of_bits
    to_bits
checked =
    record {
      listing = refl;
      bytes = refl;
      missing = refl;
      refusal = refl;
      blank = refl;
      no_room = refl;
    }
