-- Separation both ways round, for the callers: the refusals of every call that takes a frame begin with those of its input, and input with none of them has the
-- law. Assumes nothing.
use mathlib.Core.Path.{◌≡◌, ap}
use mathlib.Core.Bool.{Bool}
use mathlib.Core.List.{List, [], ◌∷◌, ◌++◌}
use Prim.Native.Nat.{ℕ, ◌*◌}
use lib.Dec.{ltb}
use lib.ListN.{length}
use Rattle.base.specs.Refusals.{Refusal, refuse, first_refusal}
use Rattle.base.proofs.FirstRefusal.{append-none}
use Rattle.frame_limits.specs.Limits.{limit_refusals, frame_refusals}
use Rattle.pick_lists.specs.Sound.{copies}
use Rattle.pick_lists.specs.Input.{Input, input_refusals}
use Rattle.pick_lists.proofs.InputRefusals.{input-numbered}
use Rattle.touch.specs.Mirror.{Mirrored}
use Rattle.touch.proofs.Mirror.{mirror-law}
use Rattle.cluster_table.specs.Refusals.{row_table_refusals}
use Rattle.clusters.specs.Answers.{row_table, row_refusal}
use Rattle.centers.specs.Centers.{centers_refusal}
use Rattle.dispersion.specs.Dispersion.{dispersion_refusal}
use Rattle.octree.specs.Tree.{TreeTables, room_refusal}
use Rattle.tree.specs.Tree.{frame_tree, order_refusal, test_refusals, refusal_in, tree_refusal}
use Rattle.report.specs.Report.{report_refusal}
use Rattle.mixing.specs.Frame.{scan_input}
use Rattle.mixing.specs.Mirror.{MirrorInCalls}
use Rattle.mixing.proofs.Tested.{fine}
use Rattle.mixing.proofs.Answered.{passes}

-- a call whose refusals are those of its input and then others
after-input : (f : Input) (others : List Refusal) → first_refusal (input_refusals f ++ others) ≡ 0 → Mirrored f
after-input f others h = mirror-law.input f (append-none (input_refusals f) others (input-numbered f) h)

-- Tree and Report
in_tree : (room : ℕ) (f : Input) (t : TreeTables) → refusal_in room f t ≡ 0 → Mirrored f
unfolding refusal_in test_refusals input_refusals frame_refusals limit_refusals
in_tree room f t h = after-input f (order_refusal f t.center_order t.water_order ∷ room_refusal room (frame_tree f) ∷ []) h

pub mirror-in-calls : MirrorInCalls
unfolding row_refusal centers_refusal dispersion_refusal tree_refusal report_refusal
mirror-in-calls =
    record {
      row = λ f k t i h. after-input f (row_table_refusals (copies f.starts) k t i) h;
      centers = λ f t h. after-input f (refuse 7 (ltb (length t) (copies f.starts * 3)) ∷ []) h;
      dispersion = λ f h. mirror-law.input f h;
      tree = λ f t h. in_tree _ f t h;
      report = λ f t leaves h. in_tree _ f t h;
      frame = λ f t b h. mirror-law.input (scan_input f) (fine f t (passes f t b h));
      rows = λ f k t i. ap (λ (touch : ℕ → ℕ → Bool). row_table touch (copies f.starts) i t) (mirror-law.search f k);
    }
