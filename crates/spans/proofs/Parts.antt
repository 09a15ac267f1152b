-- What is left of a list from a pick on, or after a part: its picks are picks of the list. Assumes nothing.
use mathlib.Core.Path.{◌≡◌}
use mathlib.Core.List.{List, ◌++◌}
use Prim.Native.Nat.{ℕ, ◌+◌, ◌-◌, ◌<◌}
use native.Mathlib.Omega.{arith}
use lib.ListN.{length, get_or, take, drop, length-drop, length-append}
use lib.Seq.{get_or-drop, get_or-append-add}
use Rattle.std.proofs.lemmas.List.{take_rest}
use lib.Ieee.{Float}
use Rattle.spans.specs.Inner.{FinitePicks}

-- pick i of what is left from pick k on
pub rest-at : (ps : List ℕ) (k i : ℕ) → i < length (take (length ps - k) (drop k ps)) → (k + i < length ps) × (get_or (take (length ps - k) (drop k ps)) i 0 ≡ get_or ps (k + i) 0)
rest-at ps k i =
    rw take_rest (λ h. (omega (arith, length-drop k ps), get_or-drop k ps i 0))

-- what is left of a list after a part of it
pub finite-rest : (xs : List Float) {all : List ℕ} (ps rest : List ℕ) → all ≡ ps ++ rest → FinitePicks xs all → FinitePicks xs rest
finite-rest xs {all} ps rest is finite k h =
    let n : length all ≡ length ps + length rest = rw is (length-append ps rest) in
    rw (is, get_or-append-add ps rest k 0) at (finite (length ps + k) (omega arith))
