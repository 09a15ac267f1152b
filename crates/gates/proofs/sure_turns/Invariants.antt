-- `gates::sure_turns` meets its contract. Invariant: the gates of the turns below t hold. Assumes nothing.
use mathlib.Core.Path.{◌≡◌}
use mathlib.Core.Bool.{true}
use Prim.Native.Nat.{ℕ, ◌<◌}
use Rattle.gates.specs.Inner.{certified}
use Rattle.gates.proofs.sure_turns.Given as goal

abbrev pub invariant-loop-t : goal.invariant-loop-t
invariant-loop-t l = (t : ℕ) → t < l.t → certified l.cutoff t l.e ≡ true
