-- The leaf table, node by node: its length, and the loop that has seen the nodes before i. Assumes nothing.
use mathlib.Core.Path.{◌≡◌, refl, ap, ◌∙◌}
use mathlib.Core.Bool.{Bool, true, false, cond}
use mathlib.Core.List.{List, [], ◌∷◌, ◌++◌}
use Prim.Native.Nat.{ℕ, zero, suc, ◌+◌, ◌-◌, ◌*◌, ◌≤◌, ◌<◌}
use native.Mathlib.Nat.{sub-zero, zero-add}
use native.Mathlib.Omega.{arith}
use lib.Dec.{eqb}
use lib.ListN.{length, length-append}
use lib.Ieee.{Float}
use Rattle.cell.specs.declared.Cell.{Cell}
use Rattle.base.specs.Tables.{placed, over}
use Rattle.base.proofs.Tests.{bit_le}
use Rattle.base.proofs.Filling.{Filling, filling-first, filling-append, filling-last}
use Rattle.base.proofs.Placing.{placed-zero}
use Rattle.nodes.specs.Nodes.{Node}
use Rattle.leaf_table.specs.LeafTable.{is_reported, leaf_words, node_words, leaves_from, reported_leaves, dry_leaves}
use Rattle.leaf_table.specs.Inner.{node_at, nodes_from}

-- ---- how many
pub reported-few : (vs : List Node) → reported_leaves vs ≤ length vs
unfolding reported_leaves
reported-few [] = omega arith
reported-few (v ∷ vs) = omega (arith, reported-few vs, bit_le (is_reported v))

pub nodes-length : (R : List ℕ) (X : List Float) (n i : ℕ) → length (nodes_from R X n i) ≡ n
unfolding nodes_from
nodes-length R X zero i = refl
nodes-length R X (suc n) i = ap suc (nodes-length R X n (i + 1))

-- the next node
next : (R : List ℕ) (X : List Float) (n i : ℕ) → i < n → nodes_from R X (n - i) i ≡ node_at R X i ∷ nodes_from R X (n - (i + 1)) (i + 1)
unfolding nodes_from
next R X n i h =
    let more : n - i ≡ suc (n - (i + 1)) = omega arith in
    rw more

-- a frame: cell, density, reference, and its m wrapped finite waters
module _ (c : Cell) (density reference : Float) (ws : List Float) (m : ℕ) where
  pub leaves-length : (i : ℕ) (vs : List Node) → length (leaves_from c density reference ws m i vs) ≡ reported_leaves vs * 8
  unfolding leaves_from reported_leaves leaf_words
  leaves-length i [] = refl
  leaves-length i (v ∷ vs) = by-test (is_reported v) (leaves-length (i + 1) vs)
    where
      rest : List ℕ
      rest = leaves_from c density reference ws m (i + 1) vs

      by-test : (b : Bool) → length rest ≡ reported_leaves vs * 8 → length (cond b (node_words c density reference ws m i v ++ rest) rest) ≡ (cond b 1 0 + reported_leaves vs) * 8
      by-test true h = omega (arith, length-append (node_words c density reference ws m i v) rest)
      by-test false h = omega arith

  -- what the nodes from i on of n give
  pub later : List ℕ → List Float → ℕ → ℕ → List ℕ
  later R X n i = leaves_from c density reference ws m i (nodes_from R X (n - i) i)

-- of the nodes before i, `reported` are reported, `dry` of them dry, and their leaves stand at the start of the table L₀, now L
pub record Reporting (c : Cell) (density reference : Float) (ws : List Float) (m : ℕ) (R : List ℕ) (X : List Float) (n : ℕ) (L₀ : List ℕ) (i reported dry : ℕ) (L : List ℕ) : Type 0 where
  pub few : reported ≤ i
  pub fewer : dry ≤ reported
  pub leaves : reported + reported_leaves (nodes_from R X (n - i) i) ≡ reported_leaves (nodes_from R X n 0)
  pub dries : dry + dry_leaves (nodes_from R X (n - i) i) ≡ dry_leaves (nodes_from R X n 0)
  pub filling : Filling 0 (leaves_from c density reference ws m 0 (nodes_from R X n 0)) L₀ (reported * 8) (later c density reference ws m R X n i) L

module _ {c : Cell} {density reference : Float} {ws : List Float} {m : ℕ} {R : List ℕ} {X : List Float} {n : ℕ} {L₀ : List ℕ} where
  pub reporting-first : n * 8 ≤ length L₀ → Reporting c density reference ws m R X n L₀ 0 0 0 L₀
  unfolding later
  reporting-first h =
      let size = leaves-length c density reference ws m 0 (nodes_from R X n 0) in
      let few = reported-few (nodes_from R X n 0) in
      let all = nodes-length R X n 0 in
      record {
        few = omega arith;
        fewer = omega arith;
        leaves = rw (sub-zero, zero-add);
        dries = rw (sub-zero, zero-add);
        filling = rw sub-zero (filling-first (omega arith));
      }

  pub reporting-leaf :
      {i reported dry : ℕ} {L : List ℕ} → i < n → is_reported (node_at R X i) ≡ true → Reporting c density reference ws m R X n L₀ i reported dry L →
      Reporting c density reference ws m R X n L₀ (i + 1) (reported + 1) (dry + cond (eqb (node_at R X i).waters 0) 1 0)
      (placed (reported * 8) (node_words c density reference ws m i (node_at R X i)) L)
  unfolding later leaves_from leaf_words reported_leaves dry_leaves
  reporting-leaf {i} {reported} {dry} {L} h t z =
      let v = node_at R X i in
      let rest = nodes_from R X (n - (i + 1)) (i + 1) in
      let leaves : reported + (1 + reported_leaves rest) ≡ reported_leaves (nodes_from R X n 0) = rw (next R X n i h, t) at z.leaves in
      let dries : dry + (cond (eqb v.waters 0) 1 0 + dry_leaves rest) ≡ dry_leaves (nodes_from R X n 0) = rw (next R X n i h, t) at z.dries in
      let one = bit_le (eqb v.waters 0) in
      let row = node_words c density reference ws m i v in
      let filling : Filling 0 (leaves_from c density reference ws m 0 (nodes_from R X n 0)) L₀ (reported * 8) (row ++ later c density reference ws m R X n (i + 1)) L =
      rw (next R X n i h, t) at z.filling in
      let at : (reported + 1) * 8 ≡ reported * 8 + 8 = omega arith in
      record {
        few = omega (arith, z.few);
        fewer = omega (arith, z.fewer);
        leaves = omega arith;
        dries = omega arith;
        filling = rw at (filling-append row filling);
      }

  pub reporting-skip :
      {i reported dry : ℕ} {L : List ℕ} → i < n → is_reported (node_at R X i) ≡ false → Reporting c density reference ws m R X n L₀ i reported dry L →
      Reporting c density reference ws m R X n L₀ (i + 1) reported dry L
  unfolding later leaves_from leaf_words reported_leaves dry_leaves
  reporting-skip {i} {reported} {dry} {L} h t z =
      let rest = nodes_from R X (n - (i + 1)) (i + 1) in
      let leaves : reported + (0 + reported_leaves rest) ≡ reported_leaves (nodes_from R X n 0) = rw (next R X n i h, t) at z.leaves in
      let dries : dry + (0 + dry_leaves rest) ≡ dry_leaves (nodes_from R X n 0) = rw (next R X n i h, t) at z.dries in
      record {
        few = omega (arith, z.few);
        fewer = z.fewer;
        leaves = omega arith;
        dries = omega arith;
        filling = rw (next R X n i h, t) at z.filling;
      }

  pub reporting-last :
      {i reported dry : ℕ} {L : List ℕ} → n ≤ i → Reporting c density reference ws m R X n L₀ i reported dry L →
      (reported ≡ reported_leaves (nodes_from R X n 0)) × ((dry ≡ dry_leaves (nodes_from R X n 0)) × (L ≡ over (leaves_from c density reference ws m 0 (nodes_from R X n 0)) L₀))
  unfolding later leaves_from nodes_from reported_leaves dry_leaves
  reporting-last {i} {reported} {dry} {L} h z =
      let none : n - i ≡ 0 = omega arith in
      let leaves : reported + 0 ≡ reported_leaves (nodes_from R X n 0) = rw none at z.leaves in
      let dries : dry + 0 ≡ dry_leaves (nodes_from R X n 0) = rw none at z.dries in
      let all = leaves_from c density reference ws m 0 (nodes_from R X n 0) in
      let done : Filling 0 all L₀ (reported * 8) [] L = rw none at z.filling in
      (omega arith, (omega arith, filling-last done ∙ placed-zero all L₀))
