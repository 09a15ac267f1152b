-- `listing::lines::put_nodes` meets its contract: the line's words, one after the other (Words). Assumes nothing.
use mathlib.Core.Path.{refl}
use mathlib.Core.List.{List, [], ◌∷◌}
use Prim.Native.Nat.{ℕ}
use native.Mathlib.Omega.{arith}
use Rattle.text.specs.Text.{ascii, decimal}
use Rattle.listing.specs.Listing.{nodes_line}
use Rattle.listing.proofs.Words.{words-first, words-next, words_last}
use Rattle.listing.proofs.lines.put_nodes.Goals as goal

abbrev words : ℕ → ℕ → List (List ℕ)
words n d = ascii "nodes" ∷ decimal n ∷ ascii "depth" ∷ decimal d ∷ []

pub returns : goal.returns
unfolding nodes_line
returns c =
    let a = c.args in
    let zero = words-first (words a.nodes a.depth) _ c.requires in
    let one = words-next (omega arith) zero c.put_text-word.ensures in
    let two = words-next (omega arith) one c.put_number-first.ensures in
    let three = words-next (omega arith) two c.put_text-second.ensures in
    words_last refl three c.put_number.ensures
