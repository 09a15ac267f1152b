-- `spans::parts_touch` meets its contract. Invariant: what is left of a decides; a part of a that is searched has a pair or is skipped. Assumes nothing.
use mathlib.Core.Path.{◌≡◌}
use Rattle.cell.specs.Cell.{extent_of}
use Rattle.touch.specs.Touch.{near, any_pair}
use Rattle.std.specs.Slice.Iter.{chunks_rest}
use Rattle.spans.specs.Inner.{FinitePicks}
use Rattle.spans.proofs.parts_touch.Given as goal

abbrev pub invariant-loop-p : goal.invariant-loop-p
invariant-loop-p l = (any_pair (near l.cutoff (extent_of l.cell) l.xs) (chunks_rest l.p-iterator) l.b ≡ any_pair (near l.cutoff (extent_of l.cell) l.xs) l.a l.b) × FinitePicks l.xs (chunks_rest l.p-iterator)
