-- docs/RULES.md, 'Centers and dispersion' and Centers: anchor = wrap(first pick); sum from 0 of anchor + min_image(pick - anchor);
-- center = wrap(sum / picks). Every f32 operation rounds once, left to right. Definitions only. Assumes nothing.
use Rattle.std.specs.Prelude.{ℕ, zero, suc, ◌+◌, ◌*◌, List, [], ◌∷◌, ◌++◌, ltb, pos, length, get_or, Float, Result, ⊤}
use Rattle.std.specs.Float.{binary32}
use Rattle.std.specs.Float.Ieee.{add, div, of_int}
use Rattle.floats.specs.Constants.{zero32}
use Rattle.cell.specs.declared.Vec3.{Vec3}
use Rattle.cell.specs.declared.Cell.{Cell}
use Rattle.cell.specs.Cell.{extent_of, wrap, min_image, minus, point_at}
use Rattle.base.specs.declared.Refused.{Refused}
use Rattle.base.specs.Refusals.{refuse, first_refusal, answer_of}
use Rattle.base.specs.Tables.{over, unless_refused}
use Rattle.pick_lists.specs.Sound.{copies, pick_list}
use Rattle.pick_lists.specs.Input.{Input, input_refusals}

unfoldable pub plus : Vec3 → Vec3 → Vec3
plus a b = record { x = add binary32 a.x b.x; y = add binary32 a.y b.y; z = add binary32 a.z b.z }

-- a / n, of a count n
unfoldable pub divided_by : Vec3 → ℕ → Vec3
divided_by a n =
    record {
      x = div binary32 a.x (of_int binary32 (pos n));
      y = div binary32 a.y (of_int binary32 (pos n));
      z = div binary32 a.z (of_int binary32 (pos n));
    }

abbrev pub origin : Vec3
origin = record { x = zero32; y = zero32; z = zero32 }

-- anchor + min_image(pick - anchor)
unfoldable pub unwrapped : Cell → List Float → Vec3 → ℕ → Vec3
unfolding plus
unwrapped c xs anchor p = plus anchor (min_image (extent_of c) (minus (point_at xs p) anchor))

-- the sum over the picks, in order
unfoldable pub sum_from : Cell → List Float → Vec3 → Vec3 → List ℕ → Vec3
unfolding unwrapped
sum_from c xs anchor s [] = s
sum_from c xs anchor s (p ∷ ps) = sum_from c xs anchor (plus s (unwrapped c xs anchor p)) ps

-- the first pick, wrapped
unfoldable pub anchor_of : Cell → List Float → List ℕ → Vec3
anchor_of c xs ps = wrap c (point_at xs (get_or ps 0 0))

-- the center of the copy with picks ps
unfoldable pub center_of : Cell → List Float → List ℕ → Vec3
unfolding sum_from anchor_of divided_by
center_of c xs ps = wrap c (divided_by (sum_from c xs (anchor_of c xs ps) origin ps) (length ps))

-- x y z of the centers of k copies from copy i on
unfoldable pub centers_from : Cell → List Float → List ℕ → List ℕ → ℕ → ℕ → List Float
unfolding center_of
centers_from c xs starts picks zero i = []
centers_from c xs starts picks (suc k) i =
    let m = center_of c xs (pick_list starts picks i) in
    m.x ∷ m.y ∷ m.z ∷ centers_from c xs starts picks k (i + 1)

unfoldable pub centers_of : Input → List Float
unfolding centers_from
centers_of f = centers_from f.cell f.solutes f.starts f.picks (copies f.starts) 0

-- ---- Centers: 1, 2, 3, 4, 15, 8, then 7
unfoldable pub centers_refusal : Input → List Float → ℕ
unfolding input_refusals first_refusal
centers_refusal f t = first_refusal (input_refusals f ++ (refuse 7 (ltb (length t) (copies f.starts * 3)) ∷ []))

abbrev pub centers_answer : Input → List Float → Result ⊤ Refused
centers_answer f t = answer_of (centers_refusal f t)

unfoldable pub centers_after : Input → List Float → List Float
unfolding centers_refusal centers_of
centers_after f t = unless_refused (centers_refusal f t) (over (centers_of f) t) t
