-- What is left to prove of `fill`. Assumes nothing.
use mathlib.Core.Path.{◌∙◌}
use Prim.Native.Nat.{◌≤◌, ◌*◌, ◌/◌, ◌<◌}
use native.Mathlib.Omega.{arith}
use lib.ListN.{length}
use Rattle.base.proofs.Placing.{placed-empty}
use Rattle.selection.specs.Selection.{chunks, kept_copies, picked}
use Rattle.selection.proofs.Copies.{chunk-within, left-all, left-none, left-joined, left-kept, left-vanished}
use Rattle.selection.proofs.Writing.{writing-first, writing-next, writing-room, writing-last}
use Rattle.selection.proofs.fill.Goals as goal
use Rattle.selection.proofs.fill.Goals.{then-at-end, else-at-end}

pub loop-chunk-init : goal.loop-chunk-init
loop-chunk-init c =
    let a = c.args in
    rw (left-all a.xs.now a.per a.indices.now) (writing-first (kept_copies a.xs.now a.per a.indices.now) a.starts.now a.picks.now c.requires.indices_in_bounds.0 c.requires.indices_in_bounds.1)

pub overflow_mul-chunk : goal.overflow_mul-chunk
overflow_mul-chunk c =
    let a = c.args in
    omega (arith, chunk-within a.per (length a.xs.now / 3) c.loop-chunk.chunk (rw c.chunks-chunk-end.ensures at c.loop-chunk-test.true))

pub put_copy-end-requires : goal.put_copy-end-requires
put_copy-end-requires c =
    let a = c.args in
    let there : c.loop-chunk.chunk < chunks a.per (length a.xs.now / 3) = rw c.chunks-chunk-end.ensures at c.loop-chunk-test.true in
    let whole = chunk-within a.per (length a.xs.now / 3) c.loop-chunk.chunk there in
    record { per_in_bounds = omega (arith, whole.1); base_in_bounds = omega (arith, left-joined a.xs.now a.per a.indices.now c.loop-chunk.chunk there) }

pub overflow_cast-starts : goal.overflow_cast-starts
overflow_cast-starts c =
    let a = c.args in
    omega (arith, left-joined a.xs.now a.per a.indices.now c.loop-chunk.chunk (rw c.chunks-chunk-end.ensures at c.loop-chunk-test.true))

pub bounds-starts-copies : goal.bounds-starts-copies
bounds-starts-copies c =
    let a = c.args in
    omega (arith, writing-room a.xs.now a.per a.indices.now c.loop-chunk.chunk c.loop-chunk.invariant (rw c.chunks-chunk-end.ensures at c.loop-chunk-test.true) c.put_copy-end.ensures.value c.if-at-end.true)

pub loop-chunk-preserved : goal.loop-chunk-preserved
loop-chunk-preserved c =
    let a = c.args in
    let k = c.loop-chunk.chunk in
    let put = c.put_copy-end.ensures in
    let there : k < chunks a.per (length a.xs.now / 3) = rw c.chunks-chunk-end.ensures at c.loop-chunk-test.true in
    elim c.if-at-end.branch [
      | then-at-end w ↦ rw (w.copies-is, w.at-is, w.starts-is, put.value, put.picks_after) (writing-next (rw (left-kept a.xs.now a.per a.indices.now k there (omega arith)) at c.loop-chunk.invariant))
      | else-at-end w ↦ let none : length (picked a.xs.now a.per a.indices.now (k * a.per)) ≤ 0 = omega arith in
          rw (w.copies-is, w.at-is, w.starts-is, put.picks_after ∙ placed-empty c.loop-chunk.at (picked a.xs.now a.per a.indices.now (k * a.per)) c.loop-chunk.picks none) (rw (left-vanished a.xs.now a.per a.indices.now k there none) at c.loop-chunk.invariant)
    ]

pub returns : goal.returns
returns c =
    let a = c.args in
    let p = writing-last a.starts.now (rw (left-none a.xs.now a.per a.indices.now c.loop-chunk.chunk (rw c.chunks-chunk-end.ensures at c.loop-chunk-test.false)) at c.loop-chunk.invariant) in
    record { starts_after = p.0; picks_after = p.1 }
