-- The listed frame (docs/RULES.md), worked out by the definitions: cell 0..16, centers (2,2,2) and (4,2,2), water (6,6,6). It has six nodes and
-- depth 3; the leaves with centers are nodes 3 and 4. Assumes nothing.
use mathlib.Core.Path.{◌≡◌, refl}
use mathlib.Core.List.{List, [], ◌∷◌}
use Prim.Native.Nat.{ℕ}
use lib.ListN.{take, drop}
use lib.Ieee.{Float, binary32, of_bits, of_fields, odd, units, round, span, climb, size, sum, add, sub, mul, neg, lt}
use Rattle.cell.specs.Cell.{point_at}
use Rattle.cell.specs.declared.Vec3.{Vec3}
use Rattle.std.specs.Prelude.{Some, None}
use Rattle.bounds.specs.Bounds.{cell_box, child_of, wide_box, octant_at}
use Rattle.octants.specs.Octants.{passing}
use Rattle.octree.specs.Tree.{Subtrees, where_some, children_from, subtree, tree_of}
use Rattle.octree.specs.Inner.{built_answer}
use Rattle.base.specs.Tables.{first_numbers}
use Rattle.nodes.specs.Nodes.{deepest, records_of, boxes_of}

-- 0, 2, 4, 6 and 16
abbrev f0 : Float
f0 = of_bits binary32 0

abbrev f2 : Float
f2 = of_bits binary32 0x4000_0000

abbrev f4 : Float
f4 = of_bits binary32 0x4080_0000

abbrev f6 : Float
f6 = of_bits binary32 0x40c0_0000

abbrev f16 : Float
f16 = of_bits binary32 0x4180_0000

abbrev alike : Float → Vec3
alike a = record { x = a; y = a; z = a }

abbrev frame : Subtrees
frame = tree_of (cell_box (record { low = alike f0; high = alike f16 })) (f2 ∷ f2 ∷ f2 ∷ f4 ∷ f2 ∷ f2 ∷ []) (f6 ∷ f6 ∷ f6 ∷ [])

-- eight words of a record
abbrev words : ℕ → ℕ → ℕ → ℕ → ℕ → ℕ → ℕ → List ℕ → List ℕ
words d fc nc fw nw kids after rest = d ∷ fc ∷ nc ∷ fw ∷ nw ∷ kids ∷ after ∷ 0 ∷ rest

pub record Listed : Type 0 where
  -- six nodes and depth 3 where there is room for six; 13 where there is not
  pub answer : built_answer 6 frame ≡ Some (record { nodes = 6; depth = 3 })
  pub refused : built_answer 5 frame ≡ None
  pub records : records_of frame.nodes
      ≡ words 0 0 2 0 1 1 6 (words 1 0 2 0 1 2 6 (words 2 0 2 0 0 2 5 (words 3 0 1 0 0 0 4 (words 3 1 1 0 0 0 5 (words 2 2 0 0 1 0 6 [])))))
  -- the boxes of nodes 3 and 4: a coordinate that is the center's goes low
  pub leaves : take 12 (drop 18 (boxes_of frame.nodes)) ≡ f0 ∷ f0 ∷ f0 ∷ f2 ∷ f2 ∷ f2 ∷ f2 ∷ f0 ∷ f0 ∷ f4 ∷ f2 ∷ f2 ∷ []
  pub center_order : frame.center_order ≡ 0 ∷ 1 ∷ []
  pub water_order : frame.water_order ≡ 0 ∷ []

pub listed : Listed
unfolding tree_of where_some subtree children_from first_numbers passing octant_at point_at child_of wide_box deepest records_of boxes_of of_bits of_fields odd units round span climb size sum add sub mul neg lt
listed = record { answer = refl; refused = refl; records = refl; leaves = refl; center_order = refl; water_order = refl }
