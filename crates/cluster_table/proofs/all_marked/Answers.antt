-- `cluster_table::all_marked` meets its contract: what `all` answers on the marks. Assumes nothing.
use Rattle.std.proofs.Common.{◌+◌, ◌∙◌, arith, rules, tests, eqb}
use Rattle.std.proofs.lemmas.Iterator.{YieldsList-from_slice}
use Rattle.std.proofs.lemmas.Iterator.Search.{all_from_yields_List}
use Rattle.cluster_table.specs.Table.{header, marks}
use Rattle.cluster_table.proofs.Lists.{all_list, part-all}
use Rattle.cluster_table.proofs.all_marked.Goals as goal

pub returns : goal.returns
returns c =
    let t = c.args.table.now in
    let n = c.args.n in
    all_from_yields_List (λ x. eqb x 1) _ _ _ c.all.ensures.ran (YieldsList-from_slice (marks n t) cc) (λ x b q k. search (rules, tests))
    ∙ all_list (λ x. eqb x 1) (marks n t)
    ∙ part-all t (header + n + n) n (omega arith) (λ x. eqb x 1)
