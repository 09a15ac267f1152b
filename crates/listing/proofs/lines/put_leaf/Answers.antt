-- `listing::lines::put_leaf` meets its contract: the line's eight words, one after the other (Words). Assumes nothing.
use Rattle.std.proofs.Common.{refl, arith}
use Rattle.listing.specs.Listing.{leaf_records, leaf_line}
use Rattle.listing.proofs.Words.{words-first, words-next, words_last}
use Rattle.listing.proofs.lines.put_leaf.Goals as goal

pub returns : goal.returns
unfolding leaf_line
returns c =
    let zero = words-first (leaf_records c.args.leaf.now 0) _ c.requires in
    let one = words-next (omega arith) zero c.put_text-word.ensures in
    let two = words-next (omega arith) one c.put_number-first.ensures in
    let three = words-next (omega arith) two c.put_number-second.ensures in
    let four = words-next (omega arith) three c.put_number-third.ensures in
    let five = words-next (omega arith) four c.put_occupancy-fourth.ensures in
    let six = words-next (omega arith) five c.put_number-fifth.ensures in
    let seven = words-next (omega arith) six c.put_occupancy-sixth.ensures in
    words_last refl seven c.put_word.ensures
