-- The least and the greatest coordinate of some picks: worked out a pick at a time, one of the coordinates, and not above (not below)
-- any of them. Assumes nothing.
use mathlib.Core.Path.{◌≡◌, refl}
use mathlib.Core.List.{List, [], ◌∷◌}
use Prim.Native.Nat.{ℕ, zero, suc, ◌+◌, ◌^◌, ◌≤◌, ◌<◌, suc-le-suc}
use native.Mathlib.Nat.{zero-lt-suc, le_of_suc-le-suc}
use native.Mathlib.Omega.{arith}
use native.Mathlib.Numerals.{add-one}
use lib.Dec.{T}
use lib.ListN.{length, get_or, drop, drop_of_length-le}
use lib.Seq.{drop-cons}
use lib.Ieee.{Float, le}
use lib.Ieee.Scale.{finite}
use Rattle.floats.proofs.Bounds.{Within}
use Rattle.floats.proofs.Quotients.{within-finite}
use Rattle.floats.proofs.Signed.{le-trans-finite}
use Rattle.floats.specs.Order.{larger, smaller}
use Rattle.floats.proofs.Order.{le-refl-finite, of-larger, of-smaller, larger-first, larger-second, smaller-first, smaller-second}
use Rattle.spans.specs.Inner.{coordinate, least_from, greatest_from, least_of, greatest_of}

-- ---- a pick at a time
module _ (xs : List Float) (axis : ℕ) (v : Float) (ps : List ℕ) (k : ℕ) where
  pub least-next : k < length ps → least_from xs axis (smaller v (coordinate xs axis (get_or ps k 0))) (drop (k + 1) ps) ≡ least_from xs axis v (drop k ps)
  unfolding least_from
  least-next l = rw (add-one, drop-cons ps k 0)

  pub least-last : length ps ≤ k → least_from xs axis v (drop k ps) ≡ v
  unfolding least_from
  least-last l = rw drop_of_length-le

  pub greatest-next : k < length ps → greatest_from xs axis (larger v (coordinate xs axis (get_or ps k 0))) (drop (k + 1) ps) ≡ greatest_from xs axis v (drop k ps)
  unfolding greatest_from
  greatest-next l = rw (add-one, drop-cons ps k 0)

  pub greatest-last : length ps ≤ k → greatest_from xs axis v (drop k ps) ≡ v
  unfolding greatest_from
  greatest-last l = rw drop_of_length-le

-- the first pick's coordinate is the least of itself
pub least_first : (xs : List Float) (axis : ℕ) (ps : List ℕ) → 0 < length ps → least_from xs axis (coordinate xs axis (get_or ps 0 0)) (drop 1 ps) ≡ least_of xs axis ps
unfolding least_of least_from
least_first xs axis [] l = absurd (omega arith)
least_first xs axis (p ∷ ps) l = let u = coordinate xs axis p in rw (of-smaller (λ (x : Float). x ≡ u) u u refl refl)

pub greatest-first : (xs : List Float) (axis : ℕ) (ps : List ℕ) → 0 < length ps → greatest_from xs axis (coordinate xs axis (get_or ps 0 0)) (drop 1 ps) ≡ greatest_of xs axis ps
unfolding greatest_of greatest_from
greatest-first xs axis [] l = absurd (omega arith)
greatest-first xs axis (p ∷ ps) l = let u = coordinate xs axis p in rw (of-larger (λ (x : Float). x ≡ u) u u refl refl)

-- ---- of coordinates within 2 ^ 20
abbrev In : Float → Type 0
In x = Within (2 ^ 20) x

abbrev pub AllIn : List Float → ℕ → List ℕ → Type 0
AllIn xs axis ps = (k : ℕ) → k < length ps → Within (2 ^ 20) (coordinate xs axis (get_or ps k 0))

fin20 : (x : Float) → In x → T (finite x)
fin20 x w = within-finite (2 ^ 20) x w

module _ (xs : List Float) (axis : ℕ) where
  rest : (p : ℕ) (ps : List ℕ) → AllIn xs axis (p ∷ ps) → AllIn xs axis ps
  rest p ps a k l = a (suc k) (suc-le-suc l)

  least-in : (v : Float) (ps : List ℕ) → In v → AllIn xs axis ps → In (least_from xs axis v ps)
  unfolding least_from
  least-in v [] w a = w
  least-in v (p ∷ ps) w a =
      let u = coordinate xs axis p in
      least-in (smaller v u) ps (of-smaller In v u w (a 0 (zero-lt-suc (length ps)))) (rest p ps a)

  greatest-in : (v : Float) (ps : List ℕ) → In v → AllIn xs axis ps → In (greatest_from xs axis v ps)
  unfolding greatest_from
  greatest-in v [] w a = w
  greatest-in v (p ∷ ps) w a =
      let u = coordinate xs axis p in
      greatest-in (larger v u) ps (of-larger In v u w (a 0 (zero-lt-suc (length ps)))) (rest p ps a)

  -- not above where it starts
  least_start : (v : Float) (ps : List ℕ) → In v → AllIn xs axis ps → T (le (least_from xs axis v ps) v)
  unfolding least_from
  least_start v [] w a = le-refl-finite v (fin20 v w)
  least_start v (p ∷ ps) w a =
      let u = coordinate xs axis p in
      let wu : In u = a 0 (zero-lt-suc (length ps)) in
      let m = smaller v u in
      let wm : In m = of-smaller In v u w wu in
      le-trans-finite (least_from xs axis m ps) m v (fin20 (least_from xs axis m ps) (least-in m ps wm (rest p ps a))) (fin20 m wm) (fin20 v w) (least_start m ps wm (rest p ps a)) (smaller-first v u (fin20 v w) (fin20 u wu))

  greatest-start : (v : Float) (ps : List ℕ) → In v → AllIn xs axis ps → T (le v (greatest_from xs axis v ps))
  unfolding greatest_from
  greatest-start v [] w a = le-refl-finite v (fin20 v w)
  greatest-start v (p ∷ ps) w a =
      let u = coordinate xs axis p in
      let wu : In u = a 0 (zero-lt-suc (length ps)) in
      let m = larger v u in
      let wm : In m = of-larger In v u w wu in
      le-trans-finite v m (greatest_from xs axis m ps) (fin20 v w) (fin20 m wm) (fin20 (greatest_from xs axis m ps) (greatest-in m ps wm (rest p ps a))) (larger-first v u (fin20 v w) (fin20 u wu)) (greatest-start m ps wm (rest p ps a))

  -- not above any pick's
  least-each : (v : Float) (ps : List ℕ) → In v → AllIn xs axis ps → (k : ℕ) → k < length ps → T (le (least_from xs axis v ps) (coordinate xs axis (get_or ps k 0)))
  unfolding least_from
  least-each v [] w a k l = absurd (none k l)
    where
      none : (k : ℕ) → k < 0 → ⊥
      none k l = omega arith
  least-each v (p ∷ ps) w a zero l =
      let u = coordinate xs axis p in
      let wu : In u = a 0 (zero-lt-suc (length ps)) in
      let m = smaller v u in
      let wm : In m = of-smaller In v u w wu in
      le-trans-finite (least_from xs axis m ps) m u (fin20 (least_from xs axis m ps) (least-in m ps wm (rest p ps a))) (fin20 m wm) (fin20 u wu) (least_start m ps wm (rest p ps a)) (smaller-second v u (fin20 v w) (fin20 u wu))
  least-each v (p ∷ ps) w a (suc k) l =
      let u = coordinate xs axis p in
      least-each (smaller v u) ps (of-smaller In v u w (a 0 (zero-lt-suc (length ps)))) (rest p ps a) k (le_of_suc-le-suc l)

  greatest-each : (v : Float) (ps : List ℕ) → In v → AllIn xs axis ps → (k : ℕ) → k < length ps → T (le (coordinate xs axis (get_or ps k 0)) (greatest_from xs axis v ps))
  unfolding greatest_from
  greatest-each v [] w a k l = absurd (none k l)
    where
      none : (k : ℕ) → k < 0 → ⊥
      none k l = omega arith
  greatest-each v (p ∷ ps) w a zero l =
      let u = coordinate xs axis p in
      let wu : In u = a 0 (zero-lt-suc (length ps)) in
      let m = larger v u in
      let wm : In m = of-larger In v u w wu in
      le-trans-finite u m (greatest_from xs axis m ps) (fin20 u wu) (fin20 m wm) (fin20 (greatest_from xs axis m ps) (greatest-in m ps wm (rest p ps a))) (larger-second v u (fin20 v w) (fin20 u wu)) (greatest-start m ps wm (rest p ps a))
  greatest-each v (p ∷ ps) w a (suc k) l =
      let u = coordinate xs axis p in
      greatest-each (larger v u) ps (of-larger In v u w (a 0 (zero-lt-suc (length ps)))) (rest p ps a) k (le_of_suc-le-suc l)

-- ---- what a box has on an axis
pub record Ended (xs : List Float) (axis : ℕ) (ps : List ℕ) (lo hi : Float) : Type 0 where
  pub low-in : Within (2 ^ 20) lo
  pub high-in : Within (2 ^ 20) hi
  pub from : (k : ℕ) → k < length ps → T (le lo (coordinate xs axis (get_or ps k 0)))
  pub to : (k : ℕ) → k < length ps → T (le (coordinate xs axis (get_or ps k 0)) hi)

pub ended : (xs : List Float) (axis : ℕ) (ps : List ℕ) → 0 < length ps → AllIn xs axis ps → Ended xs axis ps (least_of xs axis ps) (greatest_of xs axis ps)
unfolding least_of greatest_of
ended xs axis ps l a =
    let v = coordinate xs axis (get_or ps 0 0) in
    let w : In v = a 0 l in
    record { low-in = least-in xs axis v ps w a; high-in = greatest-in xs axis v ps w a; from = least-each xs axis v ps w a; to = greatest-each xs axis v ps w a }
