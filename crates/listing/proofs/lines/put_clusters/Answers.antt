-- `listing::lines::put_clusters` meets its contract: the line's words, one after the other (Words). Assumes nothing.
use mathlib.Core.Path.{refl}
use native.Mathlib.Omega.{arith}
use Rattle.listing.specs.Listing.{clusters_words, clusters_line}
use Rattle.listing.proofs.Words.{words-first, words-next, words_last}
use Rattle.listing.proofs.lines.put_clusters.Goals as goal

pub returns : goal.returns
unfolding clusters_line
returns c =
    let a = c.args in
    let zero = words-first (clusters_words a.copies a.fractions.largest a.fractions.contacted a.fractions.pair) _ c.requires in
    let one = words-next (omega arith) zero c.put_text-word.ensures in
    let two = words-next (omega arith) one c.put_number-first.ensures in
    let three = words-next (omega arith) two c.put_bits-second.ensures in
    let four = words-next (omega arith) three c.put_bits-third.ensures in
    words_last refl four c.put_bits.ensures
