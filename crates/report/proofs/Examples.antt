-- The report of the listed frame (docs/RULES.md), worked out by the definitions: `checked`. Numbers are given by their f32 bits. Assumes nothing.
use mathlib.Core.Path.{◌≡◌, refl}
use mathlib.Core.List.{List, [], ◌∷◌}
use lib.Ieee.{Float, binary32, of_bits, to_bits, of_int, add, sub, mul, div, neg, lt, le}
use Rattle.floats.specs.Whole.{floor_of, round_of}
use Rattle.floats.specs.Root.{sqrt_of}
use Rattle.cell.specs.declared.Cell.{Cell}
use Rattle.cell.specs.Cell.{extent_of, wrap_axis, wrap, image_axis, min_image, minus, volume_of, point_at, finite_point}
use Rattle.cell.proofs.Examples.{up_to}
use Rattle.pick_lists.specs.Sound.{pick_list}
use Rattle.pick_lists.specs.Input.{Input, given}
use Rattle.centers.specs.Centers.{plus, divided_by, unwrapped, sum_from, anchor_of, center_of, centers_from, centers_of}
use Rattle.dispersion.specs.Dispersion.{clamped}
use Rattle.bounds.specs.Bounds.{child_of, wide_box, octant_at}
use Rattle.octants.specs.Octants.{passing}
use Rattle.nodes.specs.Nodes.{deepest}
use Rattle.base.specs.Tables.{first_numbers}
use Rattle.octree.specs.Tree.{where_some, children_from, subtree, tree_of}
use Rattle.points.specs.Points.{wrap_from, wrap_finite_from, tree_centers, tree_waters}
use Rattle.tree.specs.Tree.{frame_tree}
use Rattle.floats.specs.Order.{smaller, larger}
use Rattle.leaf.specs.Leaf.{half_side, within_half, in_shell, shell_from, expanded, room_volume, density_of, occupancy_of, reference_leaves, reference_volume, partition_score}
use Rattle.leaf_table.specs.LeafTable.{leaf_words, leaves_from, reported_leaves, dry_leaves}
use Rattle.report.specs.Report.{leaf_table, answer_by}
use Rattle.std.specs.Prelude.{Ok}

-- ---- cell 0..16, solutes (2,2,2) and (4,2,2), one atom per copy, water (6,6,6)
abbrev cell : Cell
cell = up_to 0x4180_0000

abbrev f2 : Float
f2 = of_bits binary32 0x4000_0000

abbrev f6 : Float
f6 = of_bits binary32 0x40c0_0000

abbrev solutes : List Float
solutes = f2 ∷ f2 ∷ f2 ∷ of_bits binary32 0x4080_0000 ∷ f2 ∷ f2 ∷ []

abbrev waters : List Float
waters = f6 ∷ f6 ∷ f6 ∷ []

abbrev frame : Input
frame = given cell solutes waters (0 ∷ 1 ∷ 2 ∷ []) (0 ∷ 1 ∷ [])

pub record Checked : Type 0 where
  -- six nodes, depth 3, two leaves, both dry; one water in each shell, 1 of 0.75 expected
  pub listed : leaf_table frame (frame_tree frame).nodes ≡ 3 ∷ 1 ∷ 0 ∷ 0 ∷ 1 ∷ 0x3faa_aaab ∷ 0x3e00_0000 ∷ 0 ∷ 4 ∷ 1 ∷ 0 ∷ 0 ∷ 1 ∷ 0x3faa_aaab ∷ 0x3e00_0000 ∷ 0 ∷ []
  pub answer : answer_by 0 frame ≡ Ok (record { nodes = 6; depth = 3; leaves = 2; dry = 2 })

pub checked : Checked
unfolding frame_tree tree_centers tree_waters wrap_from wrap_finite_from centers_of centers_from center_of anchor_of sum_from unwrapped divided_by plus pick_list point_at finite_point wrap wrap_axis min_image image_axis minus extent_of volume_of floor_of round_of tree_of where_some subtree children_from first_numbers passing octant_at child_of wide_box deepest leaf_table leaves_from leaf_words reported_leaves dry_leaves answer_by smaller larger half_side within_half in_shell shell_from expanded room_volume density_of occupancy_of reference_leaves reference_volume partition_score clamped sqrt_of of_bits to_bits of_int add sub mul div neg lt le
checked = record { listed = refl; answer = refl }
