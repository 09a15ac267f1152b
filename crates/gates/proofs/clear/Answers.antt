-- `gates::clear` meets its contract: on either side, by the turns that `turns` gives. Assumes nothing.
use mathlib.Core.Path.{◌≡◌, refl, ap}
use mathlib.Core.Bool.{Bool, true, false, ◌&&◌, ◌||◌}
use lib.Ieee.{Float, binary32, sub, mul, lt}
use Rattle.floats.specs.Constants.{zero32}
use Rattle.cell.specs.Cell.{image_axis}
use Rattle.touch.specs.Touch.{cutoff2}
use Rattle.gates.specs.Inner.{turns_of, clear_right, clear_left}
use Rattle.gates.proofs.clear.Goals as goal

either_side : (a b c : Bool) → ((a || b) && c) ≡ ((a && c) || (b && c))
either_side true true true = refl
either_side true true false = refl
either_side true false true = refl
either_side true false false = refl
either_side false b c = refl

of_image : (k d e a : Float) → a ≡ image_axis d e → ((lt zero32 a || lt a zero32) && lt (mul binary32 k k) (mul binary32 a a)) ≡ (clear_right k d e || clear_left k d e)
unfolding clear_right clear_left cutoff2
of_image k d e a is = rw is (either_side (lt zero32 (image_axis d e)) (lt (image_axis d e) zero32) (lt (mul binary32 k k) (mul binary32 (image_axis d e) (image_axis d e))))

pub returns : goal.returns
unfolding image_axis turns_of
returns c =
    let a = c.args in
    of_image a.cutoff a.d a.e _ (ap (λ (t : Float). sub binary32 a.d (mul binary32 a.e t)) c.turns.ensures)
