-- Within the limits every center is finite, and so is every squared distance of two centers: the Rust's test for distances that are not finite never fails, so the port
-- has none. A picked atom's coordinates are 2 ^ 20 at most in magnitude, the anchor's 2 ^ 24, a term of the sum 2 ^ 29; n terms are n * 2 ^ 29 at most, which is a value of
-- the format for n up to 65,536, so the sum is 2 ^ 45 at most and the center 2 ^ 49. Assumes nothing.
use mathlib.Core.Path.{◌≡◌, refl, sym, subst}
use mathlib.Core.Bool.{true, false}
use mathlib.Core.List.{List, [], ◌∷◌}
use Prim.Native.Nat.{ℕ, suc, ◌+◌, ◌*◌, ◌^◌, ◌≤◌, ◌<◌, suc-le-suc, zero-le}
use native.Mathlib.Nat.{le_trans, le_of_eq, lt_of_le_of_lt, add-zero, one-mul, mul-one, mul-le-mul_right}
use native.Mathlib.Omega.{arith}
use lib.IntN.{pos}
use lib.Dec.{lit≤, lit<}
use lib.ListN.{length, get_or}
use lib.Ieee.{Float, nan, inf, fin, Format, binary32, prec, down, add, div, of_int, of_bits}
use lib.Ieee.Back.{round_whole}
use lib.Ieee.Bits.{is_true}
use lib.Ieee.Exact.{HasValue}
use lib.Ieee.Scale.{finite}
use Rattle.base.specs.Limits.{max_picks}
use Rattle.floats.proofs.Bounds.{Within, Exact, add-within, within_more}
use Rattle.floats.proofs.Quotients.{AtLeast, div-within}
use Rattle.floats.proofs.SizeTests.{of_int_is}
use Rattle.cell.specs.declared.Vec3.{Vec3}
use Rattle.cell.specs.declared.Cell.{Cell}
use Rattle.cell.specs.Cell.{extent_of, wrap, min_image, minus, distance2, point_at, finite_point}
use Rattle.base.specs.Refusals.{first_refusal}
use Rattle.cell.proofs.Finite.{add-pow, Sides, Around, wrap-around, image-around, minus-around, around-more, around-finite, distance-finite}
use Rattle.frame_limits.proofs.FiniteFrame.{Limited, limited, solute-around}
use Rattle.pick_lists.specs.Sound.{finite_atom, copies, pick_list}
use Rattle.pick_lists.specs.Input.{Input, input_refusals}
use Rattle.pick_lists.proofs.SoundLists.{sound-lists}
use Rattle.pick_lists.proofs.CopyPicks.{copy_some, copy-few, copy-finite}
use Rattle.pick_lists.proofs.InputRefusals.{input-accepted}
use Rattle.centers.specs.Centers.{plus, divided_by, origin, unwrapped, sum_from, anchor_of, center_of, centers_of}
use Rattle.centers.proofs.CenterList.{center-at}

-- ---- a term of the sum
plus-around : (j k l : ℕ) (p q : Vec3) → j < l → k < l → l ≤ 127 → Around j p → Around k q → Around l (plus p q)
unfolding plus
plus-around j k l p q jl kl h a b = record { on-x = one p.x q.x a.on-x b.on-x; on-y = one p.y q.y a.on-y b.on-y; on-z = one p.z q.z a.on-z b.on-z }
  where
    one : (x y : Float) → Within (2 ^ j) x → Within (2 ^ k) y → Within (2 ^ l) (add binary32 x y)
    one x y = add-pow j k l x y jl kl h

unwrapped-around : (c : Cell) (xs : List Float) (anchor : Vec3) (p : ℕ) → Sides (extent_of c) → Around 24 anchor → Around 20 (point_at xs p) → Around 29 (unwrapped c xs anchor p)
unfolding unwrapped
unwrapped-around c xs anchor p s a b =
    let d = minus (point_at xs p) anchor in
    let apart = minus-around 24 anchor (point_at xs p) (lit≤ tt) a (around-more 20 24 (point_at xs p) (lit≤ tt) b) in
    plus-around 24 28 29 anchor (min_image (extent_of c) d) (lit< tt) (lit< tt) (lit≤ tt) a (image-around 25 (extent_of c) d (lit≤ tt) (lit≤ tt) s apart)

-- ---- n terms
record Terms (n : ℕ) (p : Vec3) : Type 0 where
  on-x : Within (n * 2 ^ 29) p.x
  on-y : Within (n * 2 ^ 29) p.y
  on-z : Within (n * 2 ^ 29) p.z

exact-terms : (n : ℕ) → n ≤ max_picks → Exact binary32 (n * 2 ^ 29)
exact-terms n h = record { q = n; j = 29; is = refl; short = lt_of_le_of_lt h (lit< tt); fine = lt_of_le_of_lt (mul-le-mul_right (2 ^ 29) h) (lit< tt) }

terms-more : (n : ℕ) (s u : Vec3) → n < max_picks → Terms n s → Around 29 u → Terms (suc n) (plus s u)
unfolding plus
terms-more n s u h t a = record { on-x = one s.x u.x t.on-x a.on-x; on-y = one s.y u.y t.on-y a.on-y; on-z = one s.z u.z t.on-z a.on-z }
  where
    next : n * 2 ^ 29 + 2 ^ 29 ≡ suc n * 2 ^ 29
    next = omega arith

    one : (x y : Float) → Within (n * 2 ^ 29) x → Within (2 ^ 29) y → Within (suc n * 2 ^ 29) (add binary32 x y)
    one x y wx wy = subst (λ (b : ℕ). Within b (add binary32 x y)) next (add-within binary32 x y (n * 2 ^ 29) (2 ^ 29) (subst (λ (b : ℕ). Exact binary32 b) (sym next) (exact-terms (suc n) h)) wx wy)

module _ (c : Cell) (xs : List Float) (anchor : Vec3) (s : Sides (extent_of c)) (a : Around 24 anchor) where
  sum-terms : (ps : List ℕ) → ((k : ℕ) → k < length ps → Around 20 (point_at xs (get_or ps k 0))) → (n : ℕ) (v : Vec3) → n + length ps ≤ max_picks → Terms n v → Terms (n + length ps) (sum_from c xs anchor v ps)
  unfolding sum_from
  sum-terms [] f n v h t = subst (λ (m : ℕ). Terms m v) (sym (add-zero n)) t
  sum-terms (p ∷ ps) f n v h t =
      let first = terms-more n v (unwrapped c xs anchor p) (omega arith) t (unwrapped-around c xs anchor p s a (f 0 (omega arith))) in
      let shift : suc n + length ps ≡ n + suc (length ps) = omega arith in
      subst (λ (m : ℕ). Terms m (sum_from c xs anchor (plus v (unwrapped c xs anchor p)) ps)) shift
      (sum-terms ps (λ k g. f (suc k) (suc-le-suc g)) (suc n) (plus v (unwrapped c xs anchor p)) (omega arith) first)

-- ---- the quotient
-- a count, as a float
pub count-value : (f : Format) (n : ℕ) → n ≤ 2 ^ prec f → HasValue (of_int f (pos n)) false n 1
count-value f n h = subst (λ (y : Float). HasValue y false n 1) (sym (of_int_is f n)) (round_whole f false n h)

whole-at-least : (y : Float) (n : ℕ) → HasValue y false n 1 → 0 < n → AtLeast 0 y
whole-at-least nan n v h = absurd v
whole-at-least (inf s) n v h = absurd v
whole-at-least (fin s m e) n v h = le_trans (le_of_eq (sym (one-mul (down e)))) (le_trans (mul-le-mul_right (down e) h) (le_of_eq (sym v.1)))

-- terms, divided by a count
mean-around : (n m : ℕ) (v : Vec3) → n ≤ max_picks → 0 < m → m ≤ max_picks → Terms n v → Around 45 (divided_by v m)
unfolding divided_by
mean-around n m v h some few t = record { on-x = one v.x t.on-x; on-y = one v.y t.on-y; on-z = one v.z t.on-z }
  where
    count : AtLeast 0 (of_int binary32 (pos m))
    count = whole-at-least (of_int binary32 (pos m)) m (count-value binary32 m (le_trans few (lit≤ tt))) some

    one : (x : Float) → Within (n * 2 ^ 29) x → Within (2 ^ 45) (div binary32 x (of_int binary32 (pos m)))
    one x w =
        within_more (div binary32 x (of_int binary32 (pos m))) (n * 2 ^ 29 * 1) (2 ^ 45) (le_trans (le_of_eq (mul-one (n * 2 ^ 29))) (mul-le-mul_right (2 ^ 29) h))
        (div-within binary32 x (of_int binary32 (pos m)) (n * 2 ^ 29) 0 (subst (λ (b : ℕ). Exact binary32 b) (sym (mul-one (n * 2 ^ 29))) (exact-terms n h)) w count)

-- ---- the center of a copy
copy-around : (c : Cell) (xs : List Float) (ps : List ℕ) → Limited c → ((k : ℕ) → k < length ps → Around 20 (point_at xs (get_or ps k 0))) → 0 < length ps → length ps ≤ max_picks → Around 49 (center_of c xs ps)
unfolding center_of anchor_of of_bits
copy-around c xs ps l f some few =
    let first = wrap-around 20 c (point_at xs (get_or ps 0 0)) (lit≤ tt) (lit≤ tt) l.low-around l.sides (f 0 some) in
    let anchor = wrap c (point_at xs (get_or ps 0 0)) in
    let none : Terms 0 origin = record { on-x = zero-le; on-y = zero-le; on-z = zero-le } in
    let all = sum-terms c xs anchor l.sides first ps f 0 origin (omega arith) none in
    wrap-around 45 c (divided_by (sum_from c xs anchor origin ps) (length ps)) (lit≤ tt) (lit≤ tt) l.low-around l.sides (mean-around (0 + length ps) (length ps) (sum_from c xs anchor origin ps) (omega arith) some few all)

-- ---- what a reader wants: where nothing is refused
module _ (f : Input) (h : first_refusal (input_refusals f) ≡ 0) where
  pub center-around : (i : ℕ) → i < copies f.starts → Around 49 (center_of f.cell f.solutes (pick_list f.starts f.picks i))
  unfolding finite_atom
  center-around i g =
      let ok = input-accepted f h in
      let l = sound-lists f.solutes f.starts f.picks ok.1 in
      copy-around f.cell f.solutes (pick_list f.starts f.picks i) (limited f.cell f.solutes f.waters ok.0) (λ k b. solute-around f.cell f.solutes f.waters ok.0 (get_or (pick_list f.starts f.picks i) k 0) (copy-finite f.solutes f.starts f.picks l i g k b)) (copy_some f.solutes f.starts f.picks l i g) (copy-few f.solutes f.starts f.picks l i g)

  pub center-finite : (i : ℕ) → i < copies f.starts → finite_point (center_of f.cell f.solutes (pick_list f.starts f.picks i)) ≡ true
  center-finite i g = around-finite 49 (center_of f.cell f.solutes (pick_list f.starts f.picks i)) (center-around i g)

  pub center-distance-finite : (i j : ℕ) → i < copies f.starts → j < copies f.starts → finite (distance2 (extent_of f.cell) (center_of f.cell f.solutes (pick_list f.starts f.picks i)) (center_of f.cell f.solutes (pick_list f.starts f.picks j))) ≡ true
  center-distance-finite i j g b =
      let p = center_of f.cell f.solutes (pick_list f.starts f.picks i) in
      let q = center_of f.cell f.solutes (pick_list f.starts f.picks j) in
      is_true (finite (distance2 (extent_of f.cell) p q)) (distance-finite 49 (extent_of f.cell) p q (lit≤ tt) (lit≤ tt) (limited f.cell f.solutes f.waters (input-accepted f h).0).sides (center-around i g) (center-around j b))

  -- of the list that the score reads
  pub listed-distance-finite : (i j : ℕ) → i < copies f.starts → j < copies f.starts → finite (distance2 (extent_of f.cell) (point_at (centers_of f) i) (point_at (centers_of f) j)) ≡ true
  listed-distance-finite i j g b = rw (center-at f i g, center-at f j b) (center-distance-finite i j g b)
