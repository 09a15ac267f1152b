-- A table that holds a graph, and the bits of a cutoff: its sets are the chains, its degrees and contacts the counts. One contact more keeps that.
-- Assumes nothing.
use mathlib.Core.Path.{◌≡◌, refl, sym, ap, ◌∙◌}
use mathlib.Core.Bool.{Bool, true, false}
use mathlib.Core.Logic.{◌↔◌}
use mathlib.Core.List.{List}
use Prim.Native.Nat.{ℕ, suc, ◌≤◌, ◌<◌}
use native.Mathlib.Omega.{arith}
use lib.ListN.{length}
use Rattle.base.specs.Range.{bit, count}
use Rattle.union_find.specs.Parents.{root_of, joined}
use Rattle.cluster_table.specs.Table.{table_copies, contacts, table_cutoff, parents, degree, mark, words, contact}
use Rattle.clusters.specs.Graph.{Chain, either, degree_of, contacts_of}
use Rattle.union_find.proofs.Forest.{decide, Sound}
use Rattle.base.proofs.Ranges.{count_same, count_add, total-add}
use Rattle.union_find.proofs.Joins.{joins}
use Rattle.cluster_table.proofs.Contacts.{wrote}
use Rattle.cluster_table.proofs.Parts.{parents-length}
use Rattle.clusters.proofs.Chains.{or_right, Adds, adds-inside, merge}

pub record Holds (n bits : ℕ) (g : ℕ → ℕ → Bool) (acc : ℕ → Bool) (t : List ℕ) : Type 0 where
  pub long : words n ≤ length t
  pub own : table_copies t ≡ n
  pub cutoff : table_cutoff t ≡ bits
  pub sound : Sound (parents n t)
  pub sets : (i j : ℕ) → i < n → j < n → (root_of (parents n t) i ≡ root_of (parents n t) j) ↔ Chain g i j
  pub degrees : (i : ℕ) → i < n → degree n t i ≡ degree_of n g i
  pub contacts-are : contacts t ≡ contacts_of n g
  pub marks : (i : ℕ) → i < n → mark n t i ≡ bit (acc i)
  pub inside : (i j : ℕ) → g i j ≡ true → (i < j) × (j < n)

-- ---- counts, with one contact more
is_false : (b : Bool) → (b ≡ true → ⊥) → b ≡ false
is_false true h = absurd (h refl)
is_false false h = refl

module _ {n : ℕ} {g h : ℕ → ℕ → Bool} {a b : ℕ} (w : Adds n g h a b) where
  la : a < n
  la = omega (arith, w.low, w.high)

  none-back : g b a ≡ false
  none-back = is_false (g b a) (λ e. let l = w.inside b a e in omega (arith, l.0, w.low))

  away : (k y : ℕ) → ((k ≡ a) × (y ≡ b) → ⊥) → ((y ≡ a) × (k ≡ b) → ⊥) → either g k y ≡ either h k y
  away k y p q = rw (w.old k y p, w.old y k q)

  pub degree-low : degree_of n h a ≡ suc (degree_of n g a)
  unfolding degree_of
  degree-low =
      count_add n (either g a) (either h a) b w.high
      (λ y l m. away a y (λ q. m q.1) (λ q. omega (arith, q.1, w.low)))
      (rw (w.fresh, none-back)) (rw w.added)

  pub degree-high : degree_of n h b ≡ suc (degree_of n g b)
  unfolding degree_of
  degree-high =
      count_add n (either g b) (either h b) a la
      (λ y l m. away b y (λ q. omega (arith, q.0, w.low)) (λ q. m q.0))
      (rw (none-back, w.fresh)) (or_right (h b a) (h a b) w.added)

  pub degree-other : (k : ℕ) → (k ≡ a → ⊥) → (k ≡ b → ⊥) → degree_of n h k ≡ degree_of n g k
  unfolding degree_of
  degree-other k p q = count_same n (either h k) (either g k) (λ y l. sym (away k y (λ z. p z.0) (λ z. q z.1)))

  pub contacts-more : contacts_of n h ≡ suc (contacts_of n g)
  unfolding contacts_of
  contacts-more =
      total-add n (λ i. count n (g i)) (λ i. count n (h i)) a la
      (λ k l m. count_same n (g k) (h k) (λ y z. w.old k y (λ q. m q.0)))
      (count_add n (g a) (h a) b w.high (λ y l m. w.old a y (λ q. m q.1)) w.fresh w.added)

-- ---- one contact more in the table
pub contact-holds : {n bits : ℕ} {g h : ℕ → ℕ → Bool} {acc : ℕ → Bool} {t : List ℕ} {a b : ℕ} → Holds n bits g acc t → Adds n g h a b → Holds n bits h acc (contact n t a b)
contact-holds {n} {bits} {g} {h} {acc} {t} {a} {b} s w =
    let p = parents n t in
    let lp : length p ≡ n = parents-length n t (omega (arith, s.long)) in
    let la : a < length p = omega (arith, w.low, w.high) in
    let lb : b < length p = omega (arith, w.high) in
    let j = joins p a b s.sound la lb in
    let r = wrote n t a b s.long w.low w.high (j.same ∙ lp) in
    record {
      long = omega (arith, s.long, r.same);
      own = r.own ∙ s.own;
      cutoff = r.cutoff ∙ s.cutoff;
      sound = rw r.tree j.sound;
      sets = rw r.tree (merge w (root_of p) (root_of (joined p a b)) s.sets (λ x l. j.roots x (omega arith)));
      degrees = λ i l.
          decide i a
          (λ e. rw e (r.low ∙ ap suc (s.degrees a (omega arith)) ∙ sym (degree-low w)))
          (λ na. decide i b
          (λ e. rw e (r.high ∙ ap suc (s.degrees b w.high) ∙ sym (degree-high w)))
          (λ nb. r.rest i l na nb ∙ s.degrees i l ∙ sym (degree-other w i na nb)));
      contacts-are = r.up ∙ ap suc s.contacts-are ∙ sym (contacts-more w);
      marks = λ i l. r.mark i ∙ s.marks i l;
      inside = adds-inside w;
    }
