-- `clusters::open` meets its contract: each return knows the tests before it, and the first that holds decides (Refusals).
-- Assumes nothing.
use mathlib.Core.Path.{sym, ap, ◌∙◌}
use Prim.Native.Nat.{ℕ}
use native.Mathlib.Omega.{arith}
use Rattle.cluster_table.specs.Table.{opened}
use Rattle.clusters.proofs.Refusals.{open-many, open-unreached, open-short, open-taken}
use Rattle.clusters.proofs.open.Goals as goal

pub returns-then-n-gt-MAX_COPIES : goal.returns-then-n-gt-MAX_COPIES
returns-then-n-gt-MAX_COPIES c = let r = open-many _ _ _ (omega arith) in record { answer = r.0; after = r.1 }

pub returns-then-not-sound_reach : goal.returns-then-not-sound_reach
returns-then-not-sound_reach c = let r = open-unreached _ _ _ (omega arith) (sym c.sound_reach.ensures ∙ c.if-not-sound_reach.true) in record { answer = r.0; after = r.1 }

pub returns-then-table-n : goal.returns-then-table-n
returns-then-table-n c = let r = open-short _ _ _ (omega arith) (sym c.sound_reach.ensures ∙ c.if-not-sound_reach.false) c.if-table-n.true in record { answer = r.0; after = r.1 }

pub returns : goal.returns
returns c =
    let a = c.args in
    let r =
    open-taken _ _ _ (omega arith) (sym c.sound_reach.ensures ∙ c.if-not-sound_reach.false) c.if-table-n.false _
    (c.open_table.ensures ∙ ap (λ (b : ℕ). opened a.n b a.table.now) c.to_bits.ensures) in
    record { answer = r.0; after = r.1 }
