-- What is left to prove of `find_root`. Assumes nothing.
use mathlib.Core.Path.{◌≡◌, refl, sym, ◌∙◌}
use mathlib.Core.List.{List}
use Prim.Native.Nat.{ℕ, zero-le}
use native.Mathlib.Omega.{arith}
use borrow.Author.Rules.{rules}
use lib.ListN.{get_or}
use Rattle.union_find.specs.Parents.{root_of}
use Rattle.union_find.proofs.Forest.{depth-up, root-up, root_is, here, sound-parents}
use Rattle.union_find.proofs.Shortening.{turn-first, turn-next, turn-less, turn_last}
use Rattle.union_find.proofs.find_root.Goals as goal

-- a root with the root of i is i's
found : (p : List ℕ) (r i : ℕ) → root_of p r ≡ root_of p i → get_or p r 0 ≡ r → r ≡ root_of p i
found p r i same e = sym (root_is (here e) zero-le) ∙ same

pub loop-root-init : goal.loop-root-init
loop-root-init c = (search rules, refl)

pub loop-root-smaller : goal.loop-root-smaller
loop-root-smaller c = omega (arith, depth-up _ _ ((sound-parents _).0 c.requires.0) c.loop-root.invariant.0 c.loop-root-test.true)

pub loop-root-preserved : goal.loop-root-preserved
loop-root-preserved c =
    let sound = (sound-parents c.args.parent.now).0 c.requires.0 in
    (sound.closed.at _ c.loop-root.invariant.0, root-up _ _ sound c.loop-root.invariant.0 ∙ c.loop-root.invariant.1)

pub loop-parent-init : goal.loop-parent-init
loop-parent-init c =
    rw (found _ _ _ c.loop-root.invariant.1 c.loop-root-test.false) (turn-first _ _ ((sound-parents _).0 c.requires.0) c.requires.1)

pub loop-parent-smaller : goal.loop-parent-smaller
loop-parent-smaller c = turn-less c.loop-parent.invariant c.loop-parent-test.true

pub loop-parent-preserved : goal.loop-parent-preserved
loop-parent-preserved c = turn-next ((sound-parents _).0 c.requires.0) c.loop-parent.invariant c.loop-parent-test.true

pub returns : goal.returns
returns c =
    record { value = found _ _ _ c.loop-root.invariant.1 c.loop-root-test.false; parent_after = turn_last c.loop-parent.invariant c.loop-parent-test.false }
