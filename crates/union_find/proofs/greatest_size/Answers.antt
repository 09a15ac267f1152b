-- What is left to prove of `greatest_size`. Assumes nothing.
use mathlib.Core.Path.{refl, ◌∙◌}
use native.Mathlib.Omega.{arith}
use Rattle.union_find.proofs.Forest.{sound-parents}
use Rattle.union_find.proofs.Sizes.{tally-first, tally-sound, tally-below, tally-few, tally-next, tally-last}
use Rattle.union_find.proofs.greatest_size.Goals as goal

pub loop-i-init : goal.loop-i-init
loop-i-init c = tally-first ((sound-parents _).0 c.requires.p_value.0) c.requires.by_index

pub find_root-requires : goal.find_root-requires
find_root-requires c =
    ((sound-parents _).1 (tally-sound ((sound-parents _).0 c.requires.p_value.0) c.loop-i.invariant), omega arith)

pub bounds-sizes-find_root : goal.bounds-sizes-find_root
bounds-sizes-find_root c =
    omega (arith, tally-below ((sound-parents _).0 c.requires.p_value.0) (omega arith) c.loop-i.invariant _ c.find_root.ensures.value)

pub overflow_add-size : goal.overflow_add-size
overflow_add-size c =
    omega (arith, tally-few ((sound-parents _).0 c.requires.p_value.0) (omega arith) c.loop-i.invariant _ c.find_root.ensures.value)

pub loop-i-preserved : goal.loop-i-preserved
loop-i-preserved c =
    rw c.find_root.ensures.parent_after
    (tally-next ((sound-parents _).0 c.requires.p_value.0) (omega arith) c.loop-i.invariant _ c.find_root.ensures.value _ refl (omega arith) _ cc)

pub returns : goal.returns
returns c = c.from.ensures ∙ tally-last (omega arith) c.loop-i.invariant
