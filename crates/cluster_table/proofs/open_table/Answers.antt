-- What is left to prove of `open_table`: the parents are the first numbers, and `fill` writes the zeros after them (Fills). Assumes nothing.
use Rattle.std.proofs.Common.{◌≡◌, rules, arith}
use Rattle.base.proofs.Filling.{numbers-none, numbers_more, written, all-written}
use Rattle.base.specs.Tables.{first_numbers}
use Rattle.cluster_table.proofs.Fills.{parents-room, opens}
use Rattle.cluster_table.proofs.open_table.Goals as goal

pub loop-i-init : goal.loop-i-init
loop-i-init c = numbers-none

pub loop-i-preserved : goal.loop-i-preserved
loop-i-preserved c = written first_numbers (λ i. i) numbers_more _ _ (omega arith) c.loop-i.invariant

pub returns : goal.returns
returns c =
    let a = c.args in
    let m = parents-room a.n a.bits a.table.now (omega arith) in
    let first : c.loop-i.parent-items ≡ first_numbers a.n = all-written first_numbers (λ i. i) numbers_more _ a.n c.loop-i.i (omega arith) (omega arith) (omega arith) c.loop-i.invariant in
    opens a.n a.bits a.table.now (omega arith) _ first _ (c.fill.ensures.after (λ y h. search rules))
