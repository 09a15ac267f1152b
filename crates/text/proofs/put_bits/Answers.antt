-- `text::put_bits` meets its contract: the word of the float's bits. Assumes nothing.
use Rattle.text.specs.Text.{hex_bits}
use Rattle.text.proofs.put_bits.Goals as goal

pub put_word-requires : goal.put_word-requires
unfolding hex_bits
put_word-requires c = rw c.to_bits.ensures c.requires

pub returns : goal.returns
unfolding hex_bits
returns c = rw c.to_bits.ensures at c.put_word.ensures
