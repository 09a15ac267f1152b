-- An order list in the octant loop of `build`: the stretch of it that has the next octant's points, and the list with the child's own
-- arrangement in its place. Assumes nothing.
use mathlib.Core.Path.{◌≡◌, sym, ap, ◌∙◌}
use mathlib.Core.List.{List, ◌++◌}
use Prim.Native.Nat.{ℕ, ◌+◌, ◌-◌, ◌≤◌}
use native.Mathlib.Omega.{arith}
use lib.ListN.{length, take, drop, length-append}
use lib.Seq.{take_at, drop_at}

-- the stretch of k entries from a on, and the list with z in its place
abbrev pub stretch : ℕ → ℕ → List ℕ → List ℕ
stretch a k x = take (a + k - a) (drop a x)

abbrev pub stretch_put : ℕ → ℕ → List ℕ → List ℕ → List ℕ
stretch_put a k x z = take a x ++ (z ++ drop (a + k - a) (drop a x))

-- d is arranged; the k points f of the next octant stand from entry a of x on, and r behind them
pub record Next (d f r x : List ℕ) (a k : ℕ) : Type 0 where
  pub split : x ≡ d ++ (f ++ r)
  pub start : a ≡ length d
  pub count : k ≡ length f

module _ {d f r x : List ℕ} {a k : ℕ} (g : Next d f r x a k) where
  rest-is : drop a x ≡ f ++ r
  rest-is = ap (drop a) g.split ∙ drop_at d (f ++ r) a (sym g.start)

  pub child-within : a + k ≤ length x
  child-within = omega (arith, g.start, g.count, ap length g.split, length-append d (f ++ r), length-append f r)

  pub child-points : stretch a k x ≡ f
  child-points =
      let s : a + k - a ≡ k = omega arith in
      ap (λ (u : List ℕ). take (a + k - a) u) rest-is ∙ ap (λ (j : ℕ). take j (f ++ r)) s ∙ take_at f r k (sym g.count)

  pub child-size : length (stretch a k x) ≡ k
  child-size = ap length child-points ∙ sym g.count

  -- the child left z in its stretch, which is s
  pub child-order : (z s : List ℕ) → z ≡ s → stretch_put a k x z ≡ d ++ (s ++ r)
  child-order z s q =
      let e : a + k - a ≡ k = omega arith in
      let t : drop (a + k - a) (drop a x) ≡ r = ap (λ (u : List ℕ). drop (a + k - a) u) rest-is ∙ ap (λ (j : ℕ). drop j (f ++ r)) e ∙ drop_at f r k (sym g.count) in
      ap (λ (u : List ℕ). take a x ++ (z ++ u)) t
      ∙ ap (λ (u : List ℕ). u ++ (z ++ r)) (ap (take a) g.split ∙ take_at d (f ++ r) a (sym g.start))
      ∙ ap (λ (u : List ℕ). d ++ (u ++ r)) q

  pub child-length : (z s : List ℕ) → z ≡ s → length z ≡ length (stretch a k x) → length s ≡ k
  child-length z s q h = ap length (sym q) ∙ h ∙ child-size
