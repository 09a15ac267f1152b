-- What is left to prove of `contacted`: the degree that a turn takes is the copy's. Assumes nothing.
use Rattle.std.proofs.Common.{◌≡◌, ◌<◌, ◌≤◌, ◌+◌, ◌∙◌, ap, ℕ, List, length, get_or, arith}
use Prim.Native.Nat.{zero-le}
use lib.ListN.{length-take, length-drop}
use borrow.Author.Tests.{lt-ltb, le-ltb}
use Rattle.base.proofs.Ranges.{count_none, count-hit, count-miss}
use Rattle.cluster_table.specs.Table.{degrees, degree, header, words}
use Rattle.cluster_table.proofs.Lists.{part-at}
use Rattle.cluster_table.proofs.contacted.Goals as goal
use Rattle.cluster_table.proofs.contacted.Goals.{then-degree-gt0, else-degree-gt0}

taken : (n : ℕ) (t xs : List ℕ) (k : ℕ) → words n ≤ length t → xs ≡ degrees n t → k < length xs → get_or xs k 0 ≡ degree n t k
taken n t xs k h e l = ap (λ (ys : List ℕ). get_or ys k 0) e ∙ part-at t (header + n) n k (omega (arith, ap length e, size))
  where
    size : length (degrees n t) ≡ n
    size = simp (length-take, length-drop) (omega arith)

pub loop-degree-init : goal.loop-degree-init
loop-degree-init c = (zero-le, count_none _)

pub loop-degree-preserved : goal.loop-degree-preserved
loop-degree-preserved c =
    let d = taken c.args.n c.args.table.now c.degrees-degree-items.result.now c.loop-degree.degree-index (omega (arith, c.requires)) c.degrees-degree-items.ensures c.loop-degree-test.true in
    elim c.if-degree-gt0.branch [
      | then-degree-gt0 w ↦ (omega arith, count-hit _ _ _ _ c.loop-degree.invariant.1 (lt-ltb _ _ (omega (arith, d, w.if-degree-gt0.true))) w.k-is)
      | else-degree-gt0 w ↦ (omega arith, count-miss _ _ _ _ c.loop-degree.invariant.1 (le-ltb _ _ (omega (arith, d, w.if-degree-gt0.false))) w.k-is)
    ]
