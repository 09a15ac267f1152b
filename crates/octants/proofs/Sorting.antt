-- The counting sort by octant: the loop of `tally` that notes and counts, numbers by what is noted beside them (`beside`), and the loop of
-- `deal` that puts each at its octant's next place. Assumes nothing.
use mathlib.Core.Path.{◌≡◌, refl, sym, ap, ◌∙◌}
use mathlib.Core.Logic.{◌⊎◌, inl, inr, ⊎_elim}
use mathlib.Core.Bool.{Bool, true, false, cond}
use mathlib.Core.List.{List, [], ◌∷◌, ◌++◌, append-nil}
use Prim.Native.Nat.{ℕ, zero, suc, ◌+◌, ◌-◌, ◌≤◌, ◌<◌}
use native.Mathlib.Numerals.{add-one}
use native.Mathlib.Omega.{arith}
use lib.Dec.{eqb}
use lib.ListN.{length, take, drop, get_or, set, replicate, length-append, length-drop, get_or-replicate}
use lib.Seq.{length-take-le, take-suc, take_all, take-suc-set, take-set-le, drop-set-lt, drop-set-add, get_or-set_same, get_or-set_other}
use lib.Ieee.{Float}
use borrow.Author.Tests.{lt-ltb, eq-eqb, ne_eqb}
use Rattle.cell.specs.declared.Vec3.{Vec3}
use Rattle.bounds.specs.Bounds.{octant_at}
use Rattle.octants.specs.Octants.{passing, in_octant, octant_points}
use Rattle.octants.specs.Inner.{sum_before, lists_from, beside, by_octant, Tallied, Dealable, Arranged}
use Rattle.octants.proofs.Selecting.{select-append, select_yes, select_no}
use Rattle.octants.proofs.Arranging.{octant-small, octant-few, three_ways, same-or-other, sum-within, sum_same, sum_one, lists-same, lists-whole, octants-sum}

-- ---- the loop of `tally`
-- the first i points of l were seen: their octants stand in ks, and counts has how many each octant has
pub record Tallying (points : List Float) (c : Vec3) (l : List ℕ) (i : ℕ) (ks counts : List ℕ) : Type 0 where
  pub codes : (j : ℕ) → j < i → get_or ks j 0 ≡ octant_at points c (get_or l j 0)
  pub count : (o : ℕ) → o < 8 → get_or counts o 0 ≡ length (octant_points points c o (take i l))

pub tally-start : (points : List Float) (c : Vec3) (l ks counts : List ℕ) → counts ≡ replicate 8 0 → Tallying points c l 0 ks counts
unfolding passing
tally-start points c l ks counts e =
    record { codes = λ j h. absurd (omega arith); count = λ o h. ap (λ (u : List ℕ). get_or u o 0) e ∙ get_or-replicate 8 o 0 0 h }

module _ {points : List Float} {c : Vec3} {l : List ℕ} {i : ℕ} {ks counts : List ℕ} (z : Tallying points c l i ks counts) (h : i < length l) where
  abbrev here : ℕ
  here = octant_at points c (get_or l i 0)

  seen : (o : ℕ) → octant_points points c o (take (i + 1) l) ≡ octant_points points c o (take i l ++ (get_or l i 0 ∷ []))
  seen o = ap (λ (j : ℕ). octant_points points c o (take j l)) (add-one i) ∙ ap (octant_points points c o) (take-suc l i 0 h)

  -- octant o of point i
  module _ (o : ℕ) (e : o ≡ here) where
    pub count_small : get_or counts o 0 ≤ i
    count_small =
        let s = octant-small points c (get_or l i 0) in
        rw e (omega (arith, z.count here s, octant-few points c (take i l) here s, length-take-le i l (omega arith)))

    pub tally-step : i < length ks → length counts ≡ 8 → Tallying points c l (i + 1) (set ks i o) (set counts o (get_or counts o 0 + 1))
    tally-step f g =
        rw e
        (record {
          codes = λ j.
              same-or-other (λ (m : ℕ). m < i + 1 → get_or (set ks i here) m 0 ≡ octant_at points c (get_or l m 0)) i j
              (λ s. get_or-set_same ks i here 0 f)
              (λ ne s. get_or-set_other ks i j here 0 ne ∙ z.codes j (omega arith));
          count = λ k.
              same-or-other (λ (m : ℕ). m < 8 → get_or (set counts here (get_or counts here 0 + 1)) m 0 ≡ length (octant_points points c m (take (i + 1) l))) here k
              (λ s.
              get_or-set_same counts here _ 0 (omega arith)
              ∙ omega (arith, z.count here s, ap length (seen here ∙ select_yes (in_octant points c here) (take i l) (get_or l i 0) (eq-eqb here here refl)), length-append (octant_points points c here (take i l)) (get_or l i 0 ∷ [])))
              (λ ne s.
              get_or-set_other counts here k _ 0 ne
              ∙ z.count k s
              ∙ sym (ap length (seen k ∙ select_no (in_octant points c k) (take i l) (get_or l i 0) (ne_eqb here k (λ y. ne (sym y))))));
        })

-- ---- numbers by what stands beside them
module _ (ks vs : List ℕ) where
  beside-more : (i o : ℕ) → beside ks vs (i + 1) o ≡ cond (eqb (get_or ks i 0) o) (beside ks vs i o ++ (get_or vs i 0 ∷ [])) (beside ks vs i o)
  unfolding beside
  beside-more i o = rw (add-one i) refl

  beside-yes : (i o : ℕ) → o ≡ get_or ks i 0 → beside ks vs (i + 1) o ≡ beside ks vs i o ++ (get_or vs i 0 ∷ [])
  beside-yes i o e = beside-more i o ∙ rw (eq-eqb (get_or ks i 0) o (sym e)) refl

  beside-no : (i o : ℕ) → (o ≡ get_or ks i 0 → ⊥) → beside ks vs (i + 1) o ≡ beside ks vs i o
  beside-no i o e = beside-more i o ∙ rw (ne_eqb (get_or ks i 0) o (λ p. e (sym p))) refl

  snoc-length : (t : Bool) (v : ℕ) (x : List ℕ) → length (cond t (x ++ (v ∷ [])) x) ≡ length x + cond t 1 0
  snoc-length true v x = length-append x (v ∷ [])
  snoc-length false v x = omega arith

  beside-length : (i o : ℕ) → length (beside ks vs (i + 1) o) ≡ length (beside ks vs i o) + cond (eqb (get_or ks i 0) o) 1 0
  beside-length i o = ap length (beside-more i o) ∙ snoc-length (eqb (get_or ks i 0) o) (get_or vs i 0) (beside ks vs i o)

  beside-rises : (i o n : ℕ) → i ≤ n → length (beside ks vs i o) ≤ length (beside ks vs n o)
  beside-rises i o zero h = let e : i ≡ 0 = omega arith in rw e (omega arith)
  beside-rises i o (suc n) h =
      ⊎_elim
      (λ k. omega (arith, beside-rises i o n (omega arith), beside-length n o, ap (λ (m : ℕ). length (beside ks vs m o)) (add-one n)))
      (⊎_elim (λ e. rw e (omega arith)) (λ k. absurd (omega arith)))
      (three_ways i (suc n))

  -- all of them, where ks has octants
  beside-sum : (n : ℕ) → ((i : ℕ) → i < n → get_or ks i 0 < 8) → sum_before (λ o. length (beside ks vs n o)) 8 ≡ n
  unfolding sum_before beside
  beside-sum zero h = refl
  beside-sum (suc n) h =
      let k = get_or ks n 0 in
      sum_one (λ o. length (beside ks vs n o)) (λ o. length (beside ks vs (suc n) o)) k (λ o. snoc-length (eqb k o) (get_or vs n 0) (beside ks vs n o)) 8
      ∙ omega (arith, beside-sum n (λ i q. h i (omega arith)), ap {B = ℕ} (λ (t : Bool). cond t 1 0) (lt-ltb k 8 (h n (omega arith))))

-- the points of an octant, where ks has the octants of l
module _ (points : List Float) (c : Vec3) (l ks : List ℕ) (codes : (i : ℕ) → i < length l → get_or ks i 0 ≡ octant_at points c (get_or l i 0)) where
  cond-snoc : (t : Bool) (x : List ℕ) (v : ℕ) → cond t (x ++ (v ∷ [])) x ≡ x ++ cond t (v ∷ []) []
  cond-snoc true x v = refl
  cond-snoc false x v = sym (append-nil x)

  beside_first : (i o : ℕ) → i ≤ length l → beside ks l i o ≡ octant_points points c o (take i l)
  unfolding beside passing
  beside_first zero o h = refl
  beside_first (suc i) o h =
      rw (codes i (omega arith), beside_first i o (omega arith))
      (cond-snoc (eqb (octant_at points c (get_or l i 0)) o) (octant_points points c o (take i l)) (get_or l i 0)
      ∙ sym (ap (octant_points points c o) (take-suc l i 0 (omega arith)) ∙ select-append (λ v. eqb (octant_at points c v) o) (take i l) (get_or l i 0 ∷ [])))

  beside-octant : (o : ℕ) → beside ks l (length l) o ≡ octant_points points c o l
  beside-octant o = beside_first (length l) o (omega arith) ∙ ap (octant_points points c o) (take_all (length l) l (omega arith))

-- ---- the loop of `deal`
-- one more number behind the m that stand from entry f on; a store elsewhere
stretch-more : (x : List ℕ) (f m v : ℕ) → f + m < length x → take (m + 1) (drop f (set x (f + m) v)) ≡ take m (drop f x) ++ (v ∷ [])
stretch-more x f m v h =
    ap (take (m + 1)) (drop-set-add f x m v)
    ∙ ap (λ (j : ℕ). take j (set (drop f x) m v)) (add-one m)
    ∙ take-suc-set (drop f x) m v (omega (arith, length-drop f x))

stretch-kept : (x : List ℕ) (f m p v : ℕ) → (p < f) ⊎ (f + m ≤ p) → take m (drop f (set x p v)) ≡ take m (drop f x)
stretch-kept x f m p v (inl h) = ap (take m) (drop-set-lt f x p v h)
stretch-kept x f m p v (inr h) =
    let e : p ≡ f + (p - f) = omega arith in
    ap (λ (j : ℕ). take m (drop f (set x j v))) e ∙ ap (take m) (drop-set-add f x (p - f) v) ∙ take-set-le m (drop f x) (p - f) v (omega arith)

-- how many of the first n each octant gets
abbrev share : List ℕ → List ℕ → ℕ → ℕ → ℕ
share ks vs n o = length (beside ks vs n o)

-- i of n numbers were dealt: each octant has its own at the front of its stretch of x, and its next place behind them
pub record Dealing (ks vs : List ℕ) (n i : ℕ) (places x : List ℕ) : Type 0 where
  pub next : (o : ℕ) → o < 8 → get_or places o 0 ≡ sum_before (share ks vs n) o + share ks vs i o
  pub dealt : (o : ℕ) → o < 8 → take (share ks vs i o) (drop (sum_before (share ks vs n) o) x) ≡ beside ks vs i o

pub deal-start : (ks vs : List ℕ) (n : ℕ) (places x : List ℕ) → ((o : ℕ) → o < 8 → get_or places o 0 ≡ sum_before (share ks vs n) o) → Dealing ks vs n 0 places x
unfolding beside
deal-start ks vs n places x p = record { next = λ o h. omega (arith, p o h); dealt = λ o h. refl }

module _ {ks vs : List ℕ} {n i : ℕ} {places x : List ℕ} (same : length x ≡ n) (small : (j : ℕ) → j < n → get_or ks j 0 < 8) (z : Dealing ks vs n i places x) (h : i < n) where
  -- number i goes to octant k, from its place on
  abbrev k : ℕ
  k = get_or ks i 0

  k-small : k < 8
  k-small = small i h

  one_more : share ks vs (i + 1) k ≡ share ks vs i k + 1
  one_more = ap length (beside-yes ks vs i k refl) ∙ length-append (beside ks vs i k) (get_or vs i 0 ∷ [])

  fits : share ks vs i k + 1 ≤ share ks vs n k
  fits = omega (arith, beside-rises ks vs (i + 1) k n (omega arith), one_more)

  pub place-small : get_or places k 0 < length x
  place-small = omega (arith, z.next k k-small, fits, sum-within (share ks vs n) k 8 k-small, beside-sum ks vs n small, same)

  apart : (o : ℕ) → o < 8 → (o ≡ k → ⊥) → (get_or places k 0 < sum_before (share ks vs n) o) ⊎ (sum_before (share ks vs n) o + share ks vs i o ≤ get_or places k 0)
  apart o s ne =
      ⊎_elim
      (λ q. inr (omega (arith, sum-within (share ks vs n) o k q, beside-rises ks vs i o n (omega arith), z.next k k-small)))
      (⊎_elim (λ e. absurd (ne e)) (λ q. inl (omega (arith, sum-within (share ks vs n) k o q, fits, z.next k k-small))))
      (three_ways o k)

  next_here : length places ≡ 8 → (o : ℕ) → o < 8 → get_or (set places k (get_or places k 0 + 1)) o 0 ≡ sum_before (share ks vs n) o + share ks vs (i + 1) o
  next_here l o =
      same-or-other (λ (j : ℕ). j < 8 → get_or (set places k (get_or places k 0 + 1)) j 0 ≡ sum_before (share ks vs n) j + share ks vs (i + 1) j) k o
      (λ s. get_or-set_same places k _ 0 (omega arith) ∙ omega (arith, z.next k s, one_more))
      (λ ne s. get_or-set_other places k o _ 0 ne ∙ omega (arith, z.next o s, ap length (beside-no ks vs i o ne)))

  dealt-here : (o : ℕ) → o < 8 → take (share ks vs (i + 1) o) (drop (sum_before (share ks vs n) o) (set x (get_or places k 0) (get_or vs i 0))) ≡ beside ks vs (i + 1) o
  dealt-here o =
      let v = get_or vs i 0 in
      let p = get_or places k 0 in
      let N = sum_before (share ks vs n) in
      same-or-other (λ (j : ℕ). j < 8 → take (share ks vs (i + 1) j) (drop (N j) (set x p v)) ≡ beside ks vs (i + 1) j) k o
      (λ s.
      ap (λ (m : ℕ). take m (drop (N k) (set x p v))) one_more
      ∙ ap (λ (m : ℕ). take (share ks vs i k + 1) (drop (N k) (set x m v))) (z.next k s)
      ∙ stretch-more x (N k) (share ks vs i k) v (omega (arith, z.next k s, place-small))
      ∙ ap (λ (u : List ℕ). u ++ (v ∷ [])) (z.dealt k s)
      ∙ sym (beside-yes ks vs i k refl))
      (λ ne s.
      ap (λ (m : ℕ). take m (drop (N o) (set x p v))) (ap length (beside-no ks vs i o ne))
      ∙ stretch-kept x (N o) (share ks vs i o) p v (apart o s ne)
      ∙ z.dealt o s
      ∙ sym (beside-no ks vs i o ne))

  pub deal-step : length places ≡ 8 → Dealing ks vs n (i + 1) (set places k (get_or places k 0 + 1)) (set x (get_or places k 0) (get_or vs i 0))
  deal-step l = record { next = next_here l; dealt = dealt-here }

pub deal-end : (ks vs : List ℕ) (n i : ℕ) (places x : List ℕ) → length x ≡ n → ((j : ℕ) → j < n → get_or ks j 0 < 8) → i ≡ n → Dealing ks vs n i places x → x ≡ lists_from (beside ks vs n) 8
deal-end ks vs n i places x same small e z = lists-whole (beside ks vs n) x (same ∙ sym (beside-sum ks vs n small)) (rw e at z.dealt)

-- ---- `arrange`: the octants of l and their counts
module _ {points : List Float} {c : Vec3} {l ks counts : List ℕ} (t : Tallied points c l ks counts) where
  pub counts-sum : sum_before (λ k. get_or counts k 0) 8 ≡ length l
  counts-sum = sum_same (λ k. get_or counts k 0) (λ k. length (octant_points points c k l)) 8 t.count ∙ octants-sum points c l

  pub dealable : {vs places : List ℕ} → vs ≡ l → length places ≡ 8 → length l ≤ length ks
      → ((o : ℕ) → o < 8 → get_or places o 0 ≡ sum_before (λ k. get_or counts k 0) o) → Dealable ks vs (length l) places
  dealable v e p f =
      rw v
      (record {
        eight = e;
        enough-k = p;
        enough-v = omega arith;
        small = λ i h. omega (arith, t.codes i h, octant-small points c (get_or l i 0));
        starts = λ o h.
            f o h
            ∙ sum_same (λ k. get_or counts k 0) (share ks l (length l)) o
            (λ k s. t.count k (omega arith) ∙ sym (ap length (beside-octant points c l ks t.codes k)));
      })

  pub arranged : {vs x : List ℕ} → vs ≡ l → x ≡ lists_from (beside ks vs (length l)) 8 → Arranged points c l x counts
  arranged v e =
      record {
        order = (rw v at e) ∙ lists-same (beside ks l (length l)) (by_octant points c l) (beside-octant points c l ks t.codes) 8;
        count = t.count;
      }
