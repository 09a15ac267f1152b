-- docs/RULES.md, 'Leaf report': the eight words of a leaf, and the leaves of a list of nodes. Definitions only. Assumes nothing.
use Rattle.std.specs.Prelude.{Bool, cond, ◌&&◌, List, [], ◌∷◌, ◌++◌, ℕ, ◌+◌, ltb, eqb, Float}
use Rattle.std.specs.Float.{binary32}
use Rattle.std.specs.Float.Ieee.{mul, to_bits}
use Rattle.cell.specs.declared.Cell.{Cell}
use Rattle.cell.specs.Cell.{volume_of}
use Rattle.bounds.specs.declared.OctreeBounds.{OctreeBounds}
use Rattle.nodes.specs.Nodes.{Node}
use Rattle.leaf.specs.Leaf.{expanded, shell_from, occupancy_of, occupancy_word, partition_score}

-- only leaves with centers are reported
abbrev pub is_reported : Node → Bool
is_reported v = eqb v.children 0 && ltb 0 v.centers

-- eight words: node i, its centers, its waters, box occupancy, shell waters, shell occupancy, partition score, 0; by the density, the
-- reference and the m wrapped finite waters ws of the frame
unfoldable pub leaf_words : Cell → Float → Float → List Float → ℕ → ℕ → ℕ → ℕ → OctreeBounds → List ℕ
unfolding expanded shell_from occupancy_of partition_score
leaf_words c density reference ws m i centers waters b =
    let volume = volume_of b.extent in
    let shell = shell_from c b ws m 0 in
    i
    ∷ centers
    ∷ waters
    ∷ occupancy_word (occupancy_of waters (mul binary32 density volume))
    ∷ shell
    ∷ occupancy_word (occupancy_of shell (mul binary32 density (volume_of (expanded c b))))
    ∷ to_bits binary32 (partition_score volume reference centers)
    ∷ 0
    ∷ []

abbrev pub node_words : Cell → Float → Float → List Float → ℕ → ℕ → Node → List ℕ
node_words c density reference ws m i v = leaf_words c density reference ws m i v.centers v.waters v.box

-- the reported leaves among nodes numbered from i on, in node order
unfoldable pub leaves_from : Cell → Float → Float → List Float → ℕ → ℕ → List Node → List ℕ
unfolding leaf_words
leaves_from c density reference ws m i [] = []
leaves_from c density reference ws m i (v ∷ vs) =
    let rest = leaves_from c density reference ws m (i + 1) vs in
    cond (is_reported v) (node_words c density reference ws m i v ++ rest) rest

unfoldable pub reported_leaves : List Node → ℕ
reported_leaves [] = 0
reported_leaves (v ∷ vs) = cond (is_reported v) 1 0 + reported_leaves vs

-- the reported leaves with no water in their own box
unfoldable pub dry_leaves : List Node → ℕ
dry_leaves [] = 0
dry_leaves (v ∷ vs) = cond (is_reported v && eqb v.waters 0) 1 0 + dry_leaves vs
