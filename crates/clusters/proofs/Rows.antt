-- One row: the touches of i are added to the graph one copy at a time (`stage`), and then its mark. Assumes nothing.
use mathlib.Core.Path.{◌≡◌, refl, sym, ap, ◌∙◌, subst, fun_ext}
use mathlib.Core.Bool.{Bool, true, false, cond, ◌&&◌, ◌||◌}
use mathlib.Core.List.{List}
use Prim.Native.Nat.{ℕ, zero, suc, ◌+◌, ◌-◌, ◌<◌}
use native.Mathlib.Nat.{le_refl, add_assoc}
use native.Mathlib.Omega.{arith}
use native.Mathlib.Decide.{dec_lt}
use lib.ListN.{set, length-set}
use lib.Seq.{get_or-set_same, get_or-set_other}
use lib.Dec.{eqb, ltb}
use borrow.Author.Tests.{eq-eqb, ne_eqb, ltb-true, lt-ltb, le-ltb}
use Rattle.cluster_table.specs.Table.{parents, contact, header, degree_at, mark_at}
use Rattle.clusters.specs.Answers.{pass, row_table}
use Rattle.clusters.specs.Graph.{graph, contact_graph}
use Rattle.union_find.proofs.Forest.{decide}
use Rattle.base.proofs.Tests.{and_left, and_right, and-false, same-eqb}
use Rattle.cluster_table.proofs.Parts.{parents-set}
use Rattle.clusters.proofs.Chains.{Adds}
use Rattle.clusters.proofs.Holds.{Holds, contact-holds}

-- the rows accepted, with i
abbrev pub with_row : ℕ → (ℕ → Bool) → ℕ → Bool
with_row i acc k = eqb i k || acc k

pub holds_same : {n bits : ℕ} {g h : ℕ → ℕ → Bool} {acc : ℕ → Bool} {t : List ℕ} → Holds n bits g acc t → ((a b : ℕ) → g a b ≡ h a b) → Holds n bits h acc t
holds_same {n} {bits} {g} {h} {acc} {t} s e = subst (λ (f : ℕ → ℕ → Bool). Holds n bits f acc t) (fun_ext (λ a. fun_ext (λ b. e a b))) s

pub ltb-skip : (b j : ℕ) → (b ≡ j → ⊥) → ltb b j ≡ ltb b (suc j)
ltb-skip b j n = go (dec_lt b j)
  where
    go : Dec (b < j) → ltb b j ≡ ltb b (suc j)
    go (yes l) = lt-ltb b j l ∙ sym (lt-ltb b (suc j) (omega arith))
    go (no m) = le-ltb b j (omega arith) ∙ sym (le-ltb b (suc j) (omega arith))

again : (p q r : Bool) → (p && (q && (p && r))) ≡ (q && (p && r))
again true q r = refl
again false true r = refl
again false false r = refl

module _ (touch : ℕ → ℕ → Bool) (n : ℕ) where
  pub graph-inside : (acc : ℕ → Bool) (i j : ℕ) → graph touch n acc i j ≡ true → (i < j) × (j < n)
  unfolding graph
  graph-inside acc i j e =
      (ltb-true i j (and_left (ltb i j) _ e), ltb-true j n (and_left (ltb j n) _ (and_right (ltb i j) _ e)))

  module _ (acc : ℕ → Bool) (i : ℕ) where
    -- the graph with i's touches below J
    stage : ℕ → ℕ → ℕ → Bool
    stage J a b = cond (eqb a i) (ltb b J && contact_graph touch n i b) (graph touch n acc a b)

    none : acc i ≡ false → (b : ℕ) → graph touch n acc i b ≡ false
    unfolding graph
    none e b = rw e (and-false (ltb i b) _ (and-false (ltb b n) _ refl))

    low : (b : ℕ) → (ltb b (suc i) && contact_graph touch n i b) ≡ false
    unfolding graph
    low b = go (dec_lt i b)
      where
        go : Dec (i < b) → (ltb b (suc i) && (ltb i b && (ltb b n && (true && touch i b)))) ≡ false
        go (yes l) = rw (le-ltb b (suc i) l)
        go (no m) = and-false (ltb b (suc i)) _ (rw (le-ltb i b (omega arith)))

    stage-first : acc i ≡ false → (a b : ℕ) → graph touch n acc a b ≡ stage (suc i) a b
    unfolding stage
    stage-first e a b =
        decide a i
        (λ d. rw (eq-eqb a i d, low b) (ap (λ (x : ℕ). graph touch n acc x b) d ∙ none e b))
        (λ m. rw (ne_eqb a i m))

    stage-last : (a b : ℕ) → stage n a b ≡ graph touch n (with_row i acc) a b
    unfolding stage graph
    stage-last a b =
        decide a i
        (λ d. rw (d, same-eqb i) (again (ltb b n) (ltb i b) (touch i b)))
        (λ m. rw (ne_eqb a i m, ne_eqb i a (λ d. m (sym d))))

    stage-inside : (J a b : ℕ) → stage J a b ≡ true → (a < b) × (b < n)
    unfolding stage
    stage-inside J a b e =
        decide a i
        (λ d. rw d (graph-inside (λ k. true) i b (and_right (ltb b J) _ (rw (eq-eqb a i d) at e))))
        (λ m. graph-inside acc a b (rw (ne_eqb a i m) at e))

    stage-old : (j a b : ℕ) → ((a ≡ i) × (b ≡ j) → ⊥) → stage j a b ≡ stage (suc j) a b
    unfolding stage
    stage-old j a b p =
        decide a i
        (λ d. rw (eq-eqb a i d, ltb-skip b j (λ c. p (d, c))))
        (λ m. rw (ne_eqb a i m))

    full_at : (j : ℕ) → i < j → j < n → contact_graph touch n i j ≡ touch i j
    unfolding graph
    full_at j l h = rw (lt-ltb i j l, lt-ltb j n h)

    stage-adds : (j : ℕ) → i < j → j < n → touch i j ≡ true → Adds n (stage j) (stage (suc j)) i j
    unfolding stage
    stage-adds j l h e =
        record {
          low = l;
          high = h;
          inside = stage-inside j;
          fresh = rw (same-eqb i, le-ltb j j (le_refl j));
          added = rw (same-eqb i, lt-ltb j (suc j) (le_refl (suc j))) (full_at j l h ∙ e);
          old = stage-old j;
        }

    stage-skip : (j : ℕ) → i < j → j < n → touch i j ≡ false → (a b : ℕ) → stage j a b ≡ stage (suc j) a b
    unfolding stage
    stage-skip j l h e a b =
        decide b j
        (λ c. decide a i
        (λ d. rw (eq-eqb a i d, c, full_at j l h, e) (and-false (ltb j j) false refl ∙ sym (and-false (ltb j (suc j)) false refl)))
        (λ m. rw (ne_eqb a i m)))
        (λ m. stage-old j a b (λ q. m q.1))

    passes : (k j : ℕ) {bits : ℕ} {t : List ℕ} → i < j → j + k ≡ n → Holds n bits (stage j) acc t → Holds n bits (stage n) acc (pass touch n i k j t)
    unfolding pass
    passes zero j l e s = holds_same s (λ a b. ap (λ (J : ℕ). stage J a b) (omega arith))
    passes (suc k) j {bits} {t} l e s = passes k (suc j) (omega arith) (omega arith) (go (touch i j) refl)
      where
        go : (b : Bool) → touch i j ≡ b → Holds n bits (stage (suc j)) acc (cond b (contact n t i j) t)
        go true d = contact-holds s (stage-adds j l (omega arith) d)
        go false d = holds_same s (stage-skip j l (omega arith) d)

    pub row-holds : {bits : ℕ} {t : List ℕ} → i < n → acc i ≡ false → Holds n bits (graph touch n acc) acc t → Holds n bits (graph touch n (with_row i acc)) acc (pass touch n i (n - suc i) (suc i) t)
    row-holds l e s = holds_same (passes (n - suc i) (suc i) (le_refl (suc i)) (omega arith) (holds_same s (stage-first e))) stage-last

-- the mark of row i
pub mark-holds : {n bits : ℕ} {g : ℕ → ℕ → Bool} {acc : ℕ → Bool} {t : List ℕ} (i : ℕ) → i < n → Holds n bits g acc t → Holds n bits g (with_row i acc) (set t (mark_at n i) 1)
mark-holds {n} {bits} {g} {acc} {t} i l s =
    let long = s.long in
    let same : parents n (set t (mark_at n i) 1) ≡ parents n t = ap (λ (k : ℕ). parents n (set t k 1)) (add_assoc (header + n) n i) ∙ parents-set n t (n + i) 1 in
    record {
      long = rw (length-set) long;
      own = get_or-set_other t (mark_at n i) 0 1 0 (λ e. omega arith) ∙ s.own;
      cutoff = get_or-set_other t (mark_at n i) 2 1 0 (λ e. omega arith) ∙ s.cutoff;
      sound = rw same s.sound;
      sets = rw same s.sets;
      degrees = λ k h. get_or-set_other t (mark_at n i) (degree_at n k) 1 0 (λ e. omega arith) ∙ s.degrees k h;
      contacts-are = get_or-set_other t (mark_at n i) 1 1 0 (λ e. omega arith) ∙ s.contacts-are;
      marks = λ k h.
          decide i k
          (λ e. rw (eq-eqb i k e, sym e) (get_or-set_same t (mark_at n i) 1 0 (omega arith)))
          (λ m. rw (ne_eqb i k m) (get_or-set_other t (mark_at n i) (mark_at n k) 1 0 (λ e. m (omega arith)) ∙ s.marks k h));
      inside = s.inside;
    }

pub row-table-holds : (touch : ℕ → ℕ → Bool) (n : ℕ) (acc : ℕ → Bool) (i : ℕ) {bits : ℕ} {t : List ℕ} → i < n → acc i ≡ false
    → Holds n bits (graph touch n acc) acc t → Holds n bits (graph touch n (with_row i acc)) (with_row i acc) (row_table touch n i t)
unfolding row_table
row-table-holds touch n acc i l e s = mark-holds i l (row-holds touch n acc i l e s)
