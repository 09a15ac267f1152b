-- What is left to prove of `count`. Assumes nothing.
use mathlib.Core.Path.{ap}
use Prim.Native.Nat.{◌*◌, ◌/◌, ◌<◌}
use native.Mathlib.Omega.{arith}
use lib.ListN.{length}
use Rattle.selection.specs.Selection.{chunks, picks_of}
use Rattle.selection.proofs.Picked.{picked-few}
use Rattle.selection.proofs.Copies.{chunk-within, left-all, left-none, left-joined, left-kept, left-vanished}
use Rattle.selection.proofs.count.Goals as goal
use Rattle.selection.proofs.count.Goals.{then-n-gt0, else-n-gt0}

pub loop-chunk-init : goal.loop-chunk-init
loop-chunk-init c =
    let a = c.args in
    rw (left-all a.xs.now a.per a.indices.now) (omega arith)

pub overflow_mul-chunk : goal.overflow_mul-chunk
overflow_mul-chunk c =
    let a = c.args in
    omega (arith, chunk-within a.per (length a.xs.now / 3) c.loop-chunk.chunk (rw c.chunks-chunk-end.ensures at c.loop-chunk-test.true))

pub count_copy-n-requires : goal.count_copy-n-requires
count_copy-n-requires c =
    let a = c.args in
    omega (arith, chunk-within a.per (length a.xs.now / 3) c.loop-chunk.chunk (rw c.chunks-chunk-end.ensures at c.loop-chunk-test.true))

pub overflow_add-picks : goal.overflow_add-picks
overflow_add-picks c =
    let a = c.args in
    let w = chunk-within a.per (length a.xs.now / 3) c.loop-chunk.chunk (rw c.chunks-chunk-end.ensures at c.loop-chunk-test.true) in
    omega (arith, w.1, picked-few a.xs.now a.per (c.loop-chunk.chunk * a.per) a.indices.now w.0 c.requires.1)

pub loop-chunk-preserved : goal.loop-chunk-preserved
loop-chunk-preserved c =
    let a = c.args in
    let k = c.loop-chunk.chunk in
    let there : k < chunks a.per (length a.xs.now / 3) = rw c.chunks-chunk-end.ensures at c.loop-chunk-test.true in
    let few = picked-few a.xs.now a.per (k * a.per) a.indices.now (chunk-within a.per (length a.xs.now / 3) k there).0 c.requires.1 in
    let picks = left-joined a.xs.now a.per a.indices.now k there in
    elim c.if-n-gt0.branch [
      | then-n-gt0 w ↦ omega (arith, ap length (left-kept a.xs.now a.per a.indices.now k there (omega arith)))
      | else-n-gt0 w ↦ omega (arith, ap length (left-vanished a.xs.now a.per a.indices.now k there (omega arith)))
    ]

pub returns : goal.returns
unfolding picks_of
returns c =
    let a = c.args in
    let z = rw (left-none a.xs.now a.per a.indices.now c.loop-chunk.chunk (rw c.chunks-chunk-end.ensures at c.loop-chunk-test.false)) at c.loop-chunk.invariant in
    omega (arith, z)
