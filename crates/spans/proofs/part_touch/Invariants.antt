-- `spans::part_touch` meets its contract. Invariant: what is left of b decides; a part of b that is searched has a pair or is skipped. Assumes nothing.
use mathlib.Core.Path.{◌≡◌}
use Rattle.cell.specs.Cell.{extent_of}
use Rattle.touch.specs.Touch.{near, any_pair}
use Rattle.std.specs.Slice.Iter.{chunks_rest}
use Rattle.spans.specs.Inner.{FinitePicks}
use Rattle.spans.proofs.part_touch.Given as goal

abbrev pub invariant-loop-q : goal.invariant-loop-q
invariant-loop-q l = (any_pair (near l.cutoff (extent_of l.cell) l.xs) l.a (chunks_rest l.q-iterator) ≡ any_pair (near l.cutoff (extent_of l.cell) l.xs) l.a l.b) × FinitePicks l.xs (chunks_rest l.q-iterator)
