-- `sound_parents::all_below` meets its contract. The loop's invariant: `all` says whether each word so far is below n. Assumes nothing.
use Rattle.std.proofs.Common.{◌≡◌, get_or, ltb}
use Rattle.base.specs.Range.{all_below}
use Rattle.sound_parents.proofs.all_below.Given as goal

abbrev pub invariant-loop-word : goal.invariant-loop-word
invariant-loop-word l = l.all ≡ all_below l.word-index (λ i. ltb (get_or l.words i 0) l.n)
