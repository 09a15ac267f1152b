-- `union_find::greatest_size` meets its contract. The loop's invariant is `Tally`: the chains may be shorter but the roots are those at entry, each
-- size counts the copies before i, and `most` is the greatest size. Assumes nothing.
use Rattle.union_find.proofs.Sizes.{Tally}
use Rattle.union_find.proofs.greatest_size.Given as goal

abbrev pub invariant-loop-i : goal.invariant-loop-i
invariant-loop-i l = Tally l.initial.p l.i l.p l.sizes l.most
