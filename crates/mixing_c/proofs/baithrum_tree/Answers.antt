-- `baithrum_tree` meets its contract: the number, the values and every table are Tree's, in the cell of the six numbers, and the counts
-- fit a word. Assumes nothing.
use mathlib.Core.Path.{ap, ◌∙◌}
use Rattle.std.proofs.Common.{Result}
use Rattle.base.specs.declared.Refused.{Refused}
use Rattle.base.specs.Refusals.{answer_number}
use Rattle.octree.specs.declared.TreeSize.{TreeSize}
use Rattle.tree.specs.Tree.{tree_values}
use Rattle.answers.specs.Interface.{answers_after}
use Rattle.mixing_c.proofs.Small.{tree-small}
use Rattle.mixing_c.proofs.Numbers.{tree-number}
use Rattle.mixing_c.proofs.baithrum_tree.Goals as goal

pub tree-requires-2 : goal.tree-requires-2
tree-requires-2 c = let got = c.tree in λ k. rw got.ensures.answer (tree-small _ _ k)

pub returns : goal.returns
returns c =
    let got = rw c.cell.ensures at c.tree.ensures in
    let told = c.tree-2.ensures in
    record { number = told.number ∙ ap answer_number got.answer ∙ tree-number _ _; after = got.after; answers_after = told.answers_after ∙ ap (λ (a : Result TreeSize Refused). answers_after (tree_values a) c.args.answers.now) got.answer }
