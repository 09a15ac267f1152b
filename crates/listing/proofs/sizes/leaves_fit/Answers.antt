-- `listing::sizes::leaves_fit` meets its contract: a line that fits takes its bytes of the room. Assumes nothing.
use Rattle.std.proofs.Common.{◌≤◌, sym, ap, ◌∙◌, arith, length, leb}
use borrow.Author.Tests.{le-leb, lt-leb}
use Rattle.listing.proofs.Leaves.{leaves-longer, leaves-none, fits-less}
use Rattle.listing.proofs.sizes.leaves_fit.Goals as goal

pub returns-in_default : goal.returns-in_default
returns-in_default c =
    let runs = c.as_chunks.ensures in
    let next = leaves-longer c.args.leaves.now c.args.count _ runs.front runs.front_len c.requires c.loop-leaf.leaf-index c.loop-leaf-test.true in
    let long : c.leaf_size.result ≤ c.loop-leaf.left → ⊥ = c.in_default.ensures in
    sym (lt-leb _ c.loop-leaf.left (omega (arith, next, c.leaf_size.ensures))) ∙ c.loop-leaf.invariant

pub loop-leaf-preserved : goal.loop-leaf-preserved
loop-leaf-preserved c =
    let runs = c.as_chunks.ensures in
    let next = leaves-longer c.args.leaves.now c.args.count _ runs.front runs.front_len c.requires c.loop-leaf.leaf-index c.loop-leaf-test.true in
    let size = c.leaf_size.ensures in
    let fits = c.in-Some.ensures in
    rw (fits.1, size) (sym (fits-less _ _ c.loop-leaf.left (omega (arith, size, fits))) ∙ ap (λ m. leb m c.loop-leaf.left) (sym next) ∙ c.loop-leaf.invariant)

pub returns : goal.returns
returns c =
    let runs = c.as_chunks.ensures in
    let n = ap length (leaves-none c.args.leaves.now c.args.count _ runs.front runs.front_len c.requires c.loop-leaf.leaf-index c.loop-leaf-test.false) in
    sym (le-leb _ c.loop-leaf.left (omega (arith, n))) ∙ c.loop-leaf.invariant
