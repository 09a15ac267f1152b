-- `block::is_block` meets its contract: each test that fails is a condition of a block that fails; with all met but the last, the
-- last decides. A sum of counts below 2 ^ 32 fits a usize. Assumes nothing.
use mathlib.Core.Path.{sym, ◌∙◌}
use native.Mathlib.Omega.{arith}
use Rattle.block.proofs.Header.{short-no-block, long-no-block, other-kind-no-block, other-length-no-block, end-decides}
use Rattle.block.proofs.is_block.Goals as goal

pub returns-then-bytes-lt-HEADER : goal.returns-then-bytes-lt-HEADER
returns-then-bytes-lt-HEADER c = sym (short-no-block _ c.if-bytes-lt-HEADER.true)

pub returns-then-bytes-gt-MAX_BLOCK : goal.returns-then-bytes-gt-MAX_BLOCK
returns-then-bytes-gt-MAX_BLOCK c = sym (long-no-block _ c.if-bytes-gt-MAX_BLOCK.true)

pub returns-then-half-ne1 : goal.returns-then-half-ne1
returns-then-half-ne1 c = sym (other-kind-no-block _ (λ e. c.if-half-ne1.true (c.half.ensures ∙ e)))

pub returns-then-length-count : goal.returns-then-length-count
returns-then-length-count c = sym (other-length-no-block _ (λ e. c.if-length-count.true (omega arith)))

pub returns : goal.returns
returns c =
    rw c.count-length.ensures.0
    (sym (end-decides _ c.if-bytes-gt-MAX_BLOCK.false (sym c.half.ensures ∙ c.if-half-ne1.false) (omega arith)))
