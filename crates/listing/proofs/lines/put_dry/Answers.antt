-- `listing::lines::put_dry` meets its contract: the line's words, one after the other (Words). Assumes nothing.
use mathlib.Core.Path.{refl}
use mathlib.Core.List.{List, [], ◌∷◌}
use Prim.Native.Nat.{ℕ}
use native.Mathlib.Omega.{arith}
use Rattle.text.specs.Text.{ascii, decimal}
use Rattle.listing.specs.Listing.{dry_line}
use Rattle.listing.proofs.Words.{words-first, words-next, words_last}
use Rattle.listing.proofs.lines.put_dry.Goals as goal

abbrev words : ℕ → List (List ℕ)
words x = ascii "dryleaves" ∷ decimal x ∷ []

pub returns : goal.returns
unfolding dry_line
returns c =
    let a = c.args in
    let zero = words-first (words a.dry) _ c.requires in
    let one = words-next (omega arith) zero c.put_text-word.ensures in
    words_last refl one c.put_number.ensures
