-- `spans::next_close` meets its contract. Invariant: the first copy from k on that no axis keeps apart is the first from j on. Assumes nothing.
use mathlib.Core.Path.{◌≡◌}
use Prim.Native.Nat.{◌-◌}
use Rattle.spans.specs.Inner.{apart_on, apart_from, first_past}
use Rattle.spans.proofs.next_close.Given as goal

abbrev pub invariant-loop-k : goal.invariant-loop-k
invariant-loop-k g l = first_past (apart_from (apart_on g.T.AxisTest.rejects l.g) l.xs l.starts l.picks l.s) (l.n - l.k) l.k ≡ first_past (apart_from (apart_on g.T.AxisTest.rejects l.g) l.xs l.starts l.picks l.s) (l.n - l.j) l.j
