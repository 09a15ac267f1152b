-- Boxes that a test keeps apart: no point of one is near a point of the other, so that no pair of their picks is. Assumes nothing.
use mathlib.Core.Path.{◌≡◌, refl, sym, subst, ◌∙◌}
use mathlib.Core.Logic.{◌⊎◌, inl, inr}
use mathlib.Core.Bool.{Bool, true, false, ◌||◌, cond}
use mathlib.Core.List.{List, [], ◌∷◌}
use Prim.Native.Nat.{ℕ, suc, ◌+◌, ◌*◌, ◌^◌, ◌≤◌, ◌<◌, zero-le, suc-le-suc}
use native.Mathlib.Nat.{zero-lt-suc, le_of_eq}
use native.Mathlib.Omega.{arith}
use lib.Dec.{T, lit≤}
use lib.ListN.{length, get_or, drop}
use lib.Ieee.{Float, nan, binary32, sub, le}
use lib.Ieee.Scale.{finite}
use Rattle.pick_lists.specs.Input.{Input}
use Rattle.floats.proofs.Bounds.{Within, exact-pow, sub_within}
use Rattle.floats.proofs.Quotients.{within-finite}
use Rattle.floats.proofs.Monotone.{sub-mono}
use Rattle.cell.specs.declared.Cell.{Cell}
use Rattle.cell.specs.declared.Vec3.{Vec3}
use Rattle.cell.specs.Cell.{extent_of, minus, point_at, finite_point}
use Rattle.pick_lists.specs.Sound.{finite_atom, copies, pick_list, sound_lists}
use Rattle.pick_lists.proofs.SoundLists.{sound-lists}
use Rattle.pick_lists.proofs.CopyPicks.{copy_some, copy-finite}
use Rattle.touch.specs.Touch.{near, any_in, any_pair, copies_touch}
use Rattle.touch.proofs.Any.{any_none}
use Rattle.gates.specs.declared.AxisTurns.{AxisTurns}
use Rattle.gates.specs.declared.Gate.{Gate}
use Rattle.gates.specs.declared.PerAxis.{PerAxis}
use Rattle.gates.specs.declared.AxisImages.{AxisImages}
use Rattle.gates.specs.Inner.{gates_of, far_of, by_images, images_of, far_turns, SureTurns, tested}
use Rattle.floats.proofs.Order.{le-refl-finite}
use Rattle.gates.proofs.Axes.{tested-is, tested-axes, tested-atom}
use Rattle.gates.proofs.Sure.{Apart}
use Rattle.gates.proofs.Rejection.{Rejects, gate-rejects, images-rejects, turns-rejects}
use Rattle.gates.proofs.Atoms.{apart-x, apart-y, apart-z}
use Rattle.spans.specs.declared.Span.{Span}
use Rattle.spans.specs.Inner.{coordinate, least_of, greatest_of, span_of, apart_by}
use Rattle.spans.proofs.Least.{AllIn, ended}

-- ---- one axis: p from p₀ to p₁, q from q₀ to q₁
pub record Between (p₀ p p₁ : Float) : Type 0 where
  pub low-in : Within (2 ^ 20) p₀
  pub at_in : Within (2 ^ 20) p
  pub high-in : Within (2 ^ 20) p₁
  pub from : T (le p₀ p)
  pub to : T (le p p₁)

-- p lies between itself and itself
pub itself : (x : Float) → Within (2 ^ 20) x → Between x x x
itself x w = let r = le-refl-finite x (within-finite (2 ^ 20) x w) in record { low-in = w; at_in = w; high-in = w; from = r; to = r }

difference : (q p : Float) → Within (2 ^ 20) q → Within (2 ^ 20) p → Within (2 ^ 21) (sub binary32 q p)
difference q p wq wp = sub_within binary32 q p (2 ^ 20) (2 ^ 20) (exact-pow binary32 21 (lit≤ tt)) wq wp

-- the least separation, the greatest, and one between them
pub record Separated (lo d hi : Float) : Type 0 where
  pub lo-in : Within (2 ^ 21) lo
  pub d-in : Within (2 ^ 21) d
  pub hi-in : Within (2 ^ 21) hi
  pub from : T (le lo d)
  pub to : T (le d hi)

pub separated : (p₀ p p₁ q₀ q q₁ : Float) → Between p₀ p p₁ → Between q₀ q q₁ → Separated (sub binary32 q₀ p₁) (sub binary32 q p) (sub binary32 q₁ p₀)
separated p₀ p p₁ q₀ q q₁ P Q =
    let fin20 : (x : Float) → Within (2 ^ 20) x → T (finite x) = λ x w. within-finite (2 ^ 20) x w in
    record {
      lo-in = difference q₀ p₁ Q.low-in P.high-in;
      d-in = difference q p Q.at_in P.at_in;
      hi-in = difference q₁ p₀ Q.high-in P.low-in;
      from = sub-mono binary32 q₀ q p₁ p (fin20 q₀ Q.low-in) (fin20 q Q.at_in) (fin20 p₁ P.high-in) (fin20 p P.at_in) Q.from P.to;
      to = sub-mono binary32 q q₁ p p₀ (fin20 q Q.at_in) (fin20 q₁ Q.high-in) (fin20 p P.at_in) (fin20 p₀ P.low-in) Q.to P.from;
    }

axis-apart : (k e p₀ p p₁ q₀ q q₁ : Float) (f : Float → Float → Bool) → Rejects k e f → Between p₀ p p₁ → Between q₀ q q₁ → f (sub binary32 q₀ p₁) (sub binary32 q₁ p₀) ≡ true → Apart k (sub binary32 q p) e
axis-apart k e p₀ p p₁ q₀ q q₁ f R P Q =
    let s = separated p₀ p p₁ q₀ q q₁ P Q in
    R (sub binary32 q₀ p₁) (sub binary32 q p) (sub binary32 q₁ p₀) s.lo-in s.d-in s.hi-in s.from s.to

-- ---- the point p lies in the box b, and both are within the limits
pub record Inside (b : Span) (p : Vec3) : Type 0 where
  pub on-x : Between b.low.x p.x b.high.x
  pub on-y : Between b.low.y p.y b.high.y
  pub on-z : Between b.low.z p.z b.high.z

either : (a b c : Bool) → (a || (b || c)) ≡ true → (a ≡ true) ⊎ ((b ≡ true) ⊎ (c ≡ true))
either true b c h = inl refl
either false true c h = inr (inl refl)
either false false c h = inr (inr h)

-- what a test of each axis must keep
pub record Tests (k : Float) (e : Vec3) (x y z : Float → Float → Bool) : Type 0 where
  pub on-x : Rejects k e.x x
  pub on-y : Rejects k e.y y
  pub on-z : Rejects k e.z z

module _ (c : Cell) (k : Float) (xs : List Float) (h : tested c k xs ≡ true) where
  -- two atoms, in boxes of which a test says on some axis that they are apart
  pub some-axis : (x y z : Float → Float → Bool) (b s : Span) (p q : ℕ) → finite_point (point_at xs p) ≡ true → finite_point (point_at xs q) ≡ true
      → (x (sub binary32 s.low.x b.high.x) (sub binary32 s.high.x b.low.x) ≡ true → Apart k (sub binary32 (point_at xs q).x (point_at xs p).x) (extent_of c).x)
      → (y (sub binary32 s.low.y b.high.y) (sub binary32 s.high.y b.low.y) ≡ true → Apart k (sub binary32 (point_at xs q).y (point_at xs p).y) (extent_of c).y)
      → (z (sub binary32 s.low.z b.high.z) (sub binary32 s.high.z b.low.z) ≡ true → Apart k (sub binary32 (point_at xs q).z (point_at xs p).z) (extent_of c).z)
      → apart_by x y z b s ≡ true → near k (extent_of c) xs p q ≡ false
  unfolding apart_by minus
  some-axis x y z b s p q fp fq ax ay az t =
      let fx = x (sub binary32 s.low.x b.high.x) (sub binary32 s.high.x b.low.x) in
      let fy = y (sub binary32 s.low.y b.high.y) (sub binary32 s.high.y b.low.y) in
      let fz = z (sub binary32 s.low.z b.high.z) (sub binary32 s.high.z b.low.z) in
      elim (either fx fy fz t) [
        | inl a ↦ apart-x c k xs h p q fp fq (ax a)
        | inr r ↦ elim r [ inl a ↦ apart-y c k xs h p q fp fq (ay a) | inr a ↦ apart-z c k xs h p q fp fq (az a) ]
      ]

  pub apart-near : (x y z : Float → Float → Bool) → Tests k (extent_of c) x y z → (b s : Span) (p q : ℕ) → finite_point (point_at xs p) ≡ true → finite_point (point_at xs q) ≡ true
      → Inside b (point_at xs p) → Inside s (point_at xs q) → apart_by x y z b s ≡ true → near k (extent_of c) xs p q ≡ false
  apart-near x y z R b s p q fp fq P Q =
      let e = extent_of c in
      some-axis x y z b s p q fp fq
      (axis-apart k e.x b.low.x (point_at xs p).x b.high.x s.low.x (point_at xs q).x s.high.x x R.on-x P.on-x Q.on-x)
      (axis-apart k e.y b.low.y (point_at xs p).y b.high.y s.low.y (point_at xs q).y s.high.y y R.on-y P.on-y Q.on-y)
      (axis-apart k e.z b.low.z (point_at xs p).z b.high.z s.low.z (point_at xs q).z s.high.z z R.on-z P.on-z Q.on-z)

  -- ---- the tests of crate `gates`
  pub gates-tests : (g : PerAxis Gate) → g ≡ gates_of k (extent_of c) → Tests k (extent_of c) (far_of g.x) (far_of g.y) (far_of g.z)
  unfolding gates_of
  gates-tests g is =
      let e = extent_of c in
      let K = (tested-is c k xs h).reach in
      let E = tested-axes c k xs h in
      rw is (record { on-x = gate-rejects k e.x K E.on-x; on-y = gate-rejects k e.y K E.on-y; on-z = gate-rejects k e.z K E.on-z })

  pub images-tests : (s : PerAxis AxisImages) → s ≡ images_of k (extent_of c) → Tests k (extent_of c) (by_images s.x) (by_images s.y) (by_images s.z)
  images-tests s is =
      let e = extent_of c in
      let K = (tested-is c k xs h).reach in
      let E = tested-axes c k xs h in
      rw is (record { on-x = images-rejects k e.x K E.on-x; on-y = images-rejects k e.y K E.on-y; on-z = images-rejects k e.z K E.on-z })

  pub turns-tests : (s : PerAxis AxisTurns) → SureTurns k (extent_of c) s → Tests k (extent_of c) (far_turns s.x) (far_turns s.y) (far_turns s.z)
  turns-tests s sure =
      let e = extent_of c in
      let K = (tested-is c k xs h).reach in
      let E = tested-axes c k xs h in
      record { on-x = turns-rejects k e.x K E.on-x s.x sure.0; on-y = turns-rejects k e.y K E.on-y s.y sure.1; on-z = turns-rejects k e.z K E.on-z s.z sure.2 }

  -- ---- a pick lies in the box of its copy
  module _ (ps : List ℕ) (some : 0 < length ps) (f : (k : ℕ) → k < length ps → finite_point (point_at xs (get_or ps k 0)) ≡ true) where
    plus_none : (n : ℕ) → n + 0 ≡ n
    plus_none n = omega arith

    in-x : AllIn xs 0 ps
    unfolding point_at
    in-x i l = rw plus_none (tested-atom c k xs h (get_or ps i 0) (f i l)).on-x

    in-y : AllIn xs 1 ps
    unfolding point_at
    in-y i l = (tested-atom c k xs h (get_or ps i 0) (f i l)).on-y

    in-z : AllIn xs 2 ps
    unfolding point_at
    in-z i l = (tested-atom c k xs h (get_or ps i 0) (f i l)).on-z

    on-axis : (axis : ℕ) → AllIn xs axis ps → (k : ℕ) → k < length ps → Between (least_of xs axis ps) (coordinate xs axis (get_or ps k 0)) (greatest_of xs axis ps)
    on-axis axis a k l = let d = ended xs axis ps some a in record { low-in = d.low-in; at_in = a k l; high-in = d.high-in; from = d.from k l; to = d.to k l }

    pub pick-inside : (k : ℕ) → k < length ps → Inside (span_of xs ps) (point_at xs (get_or ps k 0))
    unfolding point_at span_of
    pick-inside k l = record { on-x = subst (λ (n : ℕ). Between (least_of xs 0 ps) (get_or xs n nan) (greatest_of xs 0 ps)) (plus_none (get_or ps k 0 * 3)) (on-axis 0 in-x k l); on-y = on-axis 1 in-y k l; on-z = on-axis 2 in-z k l }

-- ---- where no element passes, a search fails
pub none_in : (f : ℕ → Bool) (a : List ℕ) → ((k : ℕ) → k < length a → f (get_or a k 0) ≡ false) → any_in f a ≡ false
unfolding any_in
none_in f [] h = refl
none_in f (y ∷ ys) h = rw (h 0 (zero-lt-suc (length ys))) (none_in f ys (λ k l. h (suc k) (suc-le-suc l)))

-- ---- one pick of a against the box of b, and both boxes
abbrev pub Finite : List Float → List ℕ → Type 0
Finite xs ps = (k : ℕ) → k < length ps → finite_point (point_at xs (get_or ps k 0)) ≡ true

pub apart-lists : (c : Cell) (k : Float) (xs : List Float) (x y z : Float → Float → Bool) (ps qs : List ℕ) → tested c k xs ≡ true → Tests k (extent_of c) x y z → 0 < length ps → 0 < length qs → Finite xs ps → Finite xs qs
    → apart_by x y z (span_of xs ps) (span_of xs qs) ≡ true → any_pair (near k (extent_of c) xs) ps qs ≡ false
unfolding any_pair
apart-lists c k xs x y z ps qs h R some any f g t =
    none_in (λ p. any_in (near k (extent_of c) xs p) qs) ps
    (λ i l.
    none_in (near k (extent_of c) xs (get_or ps i 0)) qs
    (λ j m. apart-near c k xs h x y z R (span_of xs ps) (span_of xs qs) (get_or ps i 0) (get_or qs j 0) (f i l) (g j m) (pick-inside c k xs h ps some f i l) (pick-inside c k xs h qs any g j m) t))

-- ---- a search that starts at the end where nothing passes
pub begins : (f : ℕ → Bool) (ps : List ℕ) (t : Bool) (j : ℕ) → j ≡ cond t (length ps) 0 → (t ≡ true → any_in f ps ≡ false) → (j ≤ length ps) × (any_in f (drop j ps) ≡ any_in f ps)
begins f ps true j e h = (le_of_eq e, any_none f ps j (le_of_eq (sym e)) ∙ sym (h refl))
begins f ps false j e h = rw e (zero-le, refl)

-- copies i and j of sound pick lists, in the boxes b and s that a test keeps apart
pub apart-copies : (f : Input) (k : Float) (x y z : Float → Float → Bool) (i j : ℕ) (b s : Span) → sound_lists f.solutes f.starts f.picks ≡ true → tested f.cell k f.solutes ≡ true
    → Tests k (extent_of f.cell) x y z → i < copies f.starts → j < copies f.starts → b ≡ span_of f.solutes (pick_list f.starts f.picks i) → s ≡ span_of f.solutes (pick_list f.starts f.picks j)
    → apart_by x y z b s ≡ true → copies_touch f k i j ≡ false
unfolding copies_touch finite_atom
apart-copies f k x y z i j b s sound h R li lj eb es t =
    let l = sound-lists f.solutes f.starts f.picks sound in
    apart-lists f.cell k f.solutes x y z (pick_list f.starts f.picks i) (pick_list f.starts f.picks j) h R (copy_some f.solutes f.starts f.picks l i li) (copy_some f.solutes f.starts f.picks l j lj)
    (copy-finite f.solutes f.starts f.picks l i li) (copy-finite f.solutes f.starts f.picks l j lj) (rw (eb, es) at t)

-- ---- the boxes' axes one after the other: what an axis says of the ends lo and hi of one box and low and high of the other
abbrev axis_far : (Float → Float → Bool) → Float → Float → Float → Float → Bool
axis_far f lo hi low high = f (sub binary32 lo high) (sub binary32 hi low)

-- x, y and z are what the axes say; one that was not worked out is as the definition has it
module _ (f g h : Float → Float → Bool) (s : Span) (xs : List Float) (qs : List ℕ) (x : Bool) (is_x : x ≡ axis_far f (least_of xs 0 qs) (greatest_of xs 0 qs) s.low.x s.high.x) where
  apart-is : (y z : Bool) → y ≡ axis_far g (least_of xs 1 qs) (greatest_of xs 1 qs) s.low.y s.high.y
      → z ≡ axis_far h (least_of xs 2 qs) (greatest_of xs 2 qs) s.low.z s.high.z → apart_by f g h s (span_of xs qs) ≡ (x || (y || z))
  unfolding apart_by span_of
  apart-is y z is_y is-z = rw (is_x, is_y, is-z) refl

  pub by-x : x ≡ true → true ≡ apart_by f g h s (span_of xs qs)
  by-x on = sym (apart-is _ _ refl refl ∙ rw on refl)

  module _ (off : x ≡ false) (y : Bool) (is_y : y ≡ axis_far g (least_of xs 1 qs) (greatest_of xs 1 qs) s.low.y s.high.y) where
    pub by-y : y ≡ true → true ≡ apart_by f g h s (span_of xs qs)
    by-y on = sym (apart-is y _ is_y refl ∙ rw (off, on) refl)

    pub by-z : y ≡ false → (z : Bool) → z ≡ axis_far h (least_of xs 2 qs) (greatest_of xs 2 qs) s.low.z s.high.z → z ≡ apart_by f g h s (span_of xs qs)
    by-z out z is-z = sym (apart-is y z is_y is-z ∙ rw (off, out) refl)
