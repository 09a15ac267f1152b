-- The mirror law: the axes' laws of `cell` on all three axes, and a pair of picks that is as near from either end, so that a search of the pairs finds one
-- both ways round or neither. The picks of input that no test refuses are finite and within the limits, so that their separations are finite. Assumes nothing.
use mathlib.Core.Path.{◌≡◌, sym, ap, ◌∙◌, fun_ext}
use mathlib.Core.Bool.{Bool, true, ◌&&◌, ◌||◌}
use mathlib.Core.List.{List, [], ◌∷◌}
use Prim.Native.Nat.{ℕ, ◌<◌}
use lib.Dec.{lit≤}
use lib.ListN.{length, get_or}
use lib.Ieee.{Float, le}
use Rattle.base.specs.Refusals.{first_refusal}
use Rattle.cell.specs.declared.Cell.{Cell}
use Rattle.cell.specs.declared.Vec3.{Vec3}
use Rattle.cell.specs.Cell.{extent_of, valid, min_image, minus, point_at, finite_point}
use Rattle.cell.proofs.Finite.{valid-axes, finite-axes, Around, around-finite, minus-around}
use Rattle.cell.proofs.Mirror.{image-neg, image-swap, distance-swap}
use Rattle.frame_limits.proofs.FrameRefusals.{frame-none}
use Rattle.frame_limits.proofs.FiniteFrame.{atom-around}
use Rattle.pick_lists.specs.Sound.{finite_atom, pick_list}
use Rattle.pick_lists.specs.Input.{Input, input_refusals}
use Rattle.pick_lists.proofs.InputRefusals.{input-accepted}
use Rattle.pick_lists.proofs.SoundLists.{sound-lists}
use Rattle.touch.specs.Touch.{cutoff2, near, any_in, any_pair, copies_touch}
use Rattle.touch.proofs.Any.{never, either}
use Rattle.touch.specs.Mirror.{opposite, same_numbers, touch_reversed, pick_point, Mirrored, MirrorLaw}

-- ---- all three axes
three : {x y z : Bool} → x ≡ true → y ≡ true → z ≡ true → x && (y && z) ≡ true
three p q r = rw (p, q, r)

images-neg : (c : Cell) (d : Vec3) → valid c ≡ true → finite_point d ≡ true
    → same_numbers (min_image (extent_of c) (opposite d)) (opposite (min_image (extent_of c) d)) ≡ true
unfolding same_numbers min_image opposite
images-neg c d v h =
    let e = extent_of c in
    let a = valid-axes c v in
    let f = finite-axes d h in
    three (image-neg e.x a.0 d.x f.0) (image-neg e.y a.1 d.y f.1) (image-neg e.z a.2 d.z f.2)

images-swap : (c : Cell) (p q : Vec3) → valid c ≡ true → finite_point (minus q p) ≡ true
    → same_numbers (min_image (extent_of c) (minus p q)) (opposite (min_image (extent_of c) (minus q p))) ≡ true
unfolding same_numbers min_image opposite minus
images-swap c p q v h =
    let e = extent_of c in
    let a = valid-axes c v in
    let f = finite-axes (minus q p) h in
    three (image-swap e.x a.0 p.x q.x f.0) (image-swap e.y a.1 p.y q.y f.1) (image-swap e.z a.2 p.z q.z f.2)

-- ---- a search of the pairs of two lists, by the other list first
pair-swap : (f : ℕ → ℕ → Bool) (ps qs : List ℕ) → any_pair f ps qs ≡ any_pair (λ q p. f p q) qs ps
unfolding any_pair any_in
pair-swap f [] qs = sym (never qs)
pair-swap f (p ∷ ps) qs = ap (λ (b : Bool). any_in (f p) qs || b) (pair-swap f ps qs) ∙ sym (either (f p) (λ q. any_in (λ r. f r q) ps) qs)

-- ---- copies
near-swap : (k : Float) (e : Vec3) (xs : List Float) (p q : ℕ) → near k e xs q p ≡ near k e xs p q
unfolding near
near-swap k e xs p q = ap (λ (d : Float). le d (cutoff2 k)) (distance-swap e (point_at xs q) (point_at xs p))

-- as functions, so that one may stand for the other in a search
near-reversed : (k : Float) (e : Vec3) (xs : List Float) → (λ (p q : ℕ). near k e xs q p) ≡ near k e xs
near-reversed k e xs = fun_ext (λ p. fun_ext (λ q. near-swap k e xs p q))

module _ (f : Input) where
  touch-reversed : (k : Float) → touch_reversed f k ≡ copies_touch f k
  unfolding touch_reversed copies_touch
  touch-reversed k = fun_ext (λ i. fun_ext (λ j. ap (λ (g : ℕ → ℕ → Bool). any_pair g (pick_list f.starts f.picks i) (pick_list f.starts f.picks j)) (near-reversed k (extent_of f.cell) f.solutes)))

  touch-swap : (k : Float) (i j : ℕ) → copies_touch f k i j ≡ copies_touch f k j i
  unfolding copies_touch
  touch-swap k i j =
      let e = extent_of f.cell in
      pair-swap (near k e f.solutes) (pick_list f.starts f.picks i) (pick_list f.starts f.picks j)
      ∙ ap (λ (g : ℕ → ℕ → Bool). any_pair g (pick_list f.starts f.picks j) (pick_list f.starts f.picks i)) (near-reversed k e f.solutes)

  -- ---- input that no test refuses
  module _ (h : first_refusal (input_refusals f) ≡ 0) where
    pick-around : (k : ℕ) → k < length f.picks → Around 20 (pick_point f k)
    unfolding finite_atom
    pick-around k l =
        let a = input-accepted f h in
        let w = frame-none f.cell f.solutes f.waters a.0 in
        atom-around f.solutes w.solutes-within (get_or f.picks k 0) ((sound-lists f.solutes f.starts f.picks a.1).finite k l)

    input-mirrored : Mirrored f
    input-mirrored =
        record {
          images = λ k l hk hl.
              images-swap f.cell (pick_point f k) (pick_point f l) (frame-none f.cell f.solutes f.waters (input-accepted f h).0).cell-valid
              (around-finite 21 (minus (pick_point f l) (pick_point f k)) (minus-around 20 (pick_point f k) (pick_point f l) (lit≤ tt) (pick-around k hk) (pick-around l hl)));
          distances = λ k l. distance-swap (extent_of f.cell) (pick_point f k) (pick_point f l);
          touches = touch-swap;
        }

pub mirror-law : MirrorLaw
mirror-law = record { image = images-neg; ends = images-swap; distance = distance-swap; touch = touch-swap; search = touch-reversed; input = input-mirrored }
