-- `listing::lines::put_dispersion` meets its contract: the line's words, one after the other (Words). Assumes nothing.
use mathlib.Core.Path.{refl}
use mathlib.Core.List.{List, [], ◌∷◌}
use Prim.Native.Nat.{ℕ}
use native.Mathlib.Omega.{arith}
use lib.Ieee.{Float}
use Rattle.text.specs.Text.{ascii, hex_bits}
use Rattle.listing.specs.Listing.{dispersion_line}
use Rattle.listing.proofs.Words.{words-first, words-next, words_last}
use Rattle.listing.proofs.lines.put_dispersion.Goals as goal

abbrev words : Float → List (List ℕ)
words x = ascii "dispersion" ∷ hex_bits x ∷ []

pub returns : goal.returns
unfolding dispersion_line
returns c =
    let a = c.args in
    let zero = words-first (words a.dispersion) _ c.requires in
    let one = words-next (omega arith) zero c.put_text-word.ensures in
    words_last refl one c.put_bits.ensures
