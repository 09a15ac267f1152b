-- Chains of contacts: an equivalence, and what one contact more joins: if the sets were the chains of g, and the set of b is moved to
-- that of a, they are the chains of g with the contact of a and b. Assumes nothing.
use mathlib.Core.Path.{◌≡◌, refl, sym, ap, ◌∙◌}
use mathlib.Core.Bool.{Bool, true, false, ◌||◌}
use mathlib.Core.Logic.{◌↔◌}
use Prim.Native.Nat.{ℕ, ◌<◌}
use native.Mathlib.Omega.{arith}
use borrow.Author.Tests.{eq-eqb, ne_eqb}
use Rattle.clusters.specs.Graph.{Chain, stop, on, either}
use Rattle.union_find.proofs.Forest.{decide}
use Rattle.union_find.proofs.Joins.{moved}

pub or_cases : {P : Type 0} (a b : Bool) → (a || b) ≡ true → (a ≡ true → P) → (b ≡ true → P) → P
or_cases true b e f g = f refl
or_cases false b e f g = g e

or_left : (a b : Bool) → a ≡ true → (a || b) ≡ true
or_left a b e = rw e

pub or_right : (a b : Bool) → b ≡ true → (a || b) ≡ true
or_right true b e = refl
or_right false b e = e

either-sym : (g : ℕ → ℕ → Bool) (i j : ℕ) → either g i j ≡ true → either g j i ≡ true
either-sym g i j e = or_cases (g i j) (g j i) e (λ h. or_right (g j i) (g i j) h) (λ h. or_left (g j i) (g i j) h)

pub chain-trans : {g : ℕ → ℕ → Bool} {i j k : ℕ} → Chain g i j → Chain g j k → Chain g i k
chain-trans stop d = d
chain-trans (on e c) d = on e (chain-trans c d)

pub chain-sym : {g : ℕ → ℕ → Bool} {i j : ℕ} → Chain g i j → Chain g j i
chain-sym stop = stop
chain-sym {g} {i} (on {j = j} e c) = chain-trans (chain-sym c) (on (either-sym g i j e) stop)

-- the same graph with one contact more, of a and b
pub record Adds (n : ℕ) (g h : ℕ → ℕ → Bool) (a b : ℕ) : Type 0 where
  pub low : a < b
  pub high : b < n
  pub inside : (i j : ℕ) → g i j ≡ true → (i < j) × (j < n)
  pub fresh : g a b ≡ false
  pub added : h a b ≡ true
  pub old : (i j : ℕ) → ((i ≡ a) × (j ≡ b) → ⊥) → g i j ≡ h i j

pub mono : {g h : ℕ → ℕ → Bool} → ((i j : ℕ) → g i j ≡ true → h i j ≡ true) → {x y : ℕ} → Chain g x y → Chain h x y
mono f stop = stop
mono {g} {h} f {x} (on {j = z} e c) =
    on (or_cases (g x z) (g z x) e (λ d. or_left (h x z) (h z x) (f x z d)) (λ d. or_right (h x z) (h z x) (f z x d))) (mono f c)

pub moved-self : (ra rb : ℕ) → moved ra rb ra ≡ ra
moved-self ra rb = decide ra rb (λ e. rw (eq-eqb ra rb e)) (λ n. rw (ne_eqb ra rb n))

pub moved_to : (ra rb : ℕ) → moved ra rb rb ≡ ra
moved_to ra rb = rw (eq-eqb rb rb refl)

pub moved_other : (ra rb s : ℕ) → (s ≡ rb → ⊥) → moved ra rb s ≡ s
moved_other ra rb s n = rw (ne_eqb s rb n)

module _ {n : ℕ} {g h : ℕ → ℕ → Bool} {a b : ℕ} (w : Adds n g h a b) where
  new-or-old : {P : Type 0} (i j : ℕ) → ((i ≡ a) × (j ≡ b) → P) → (((i ≡ a) × (j ≡ b) → ⊥) → P) → P
  new-or-old i j f k = decide i a (λ e. decide j b (λ d. f (e, d)) (λ m. k (λ q. m q.1))) (λ m. k (λ q. m q.0))

  extends : (i j : ℕ) → g i j ≡ true → h i j ≡ true
  extends i j e = new-or-old i j (λ q. rw (q.0, q.1) w.added) (λ m. sym (w.old i j m) ∙ e)

  arises : {P : Type 0} (i j : ℕ) → h i j ≡ true → (g i j ≡ true → P) → ((i ≡ a) × (j ≡ b) → P) → P
  arises i j e f k = new-or-old i j k (λ m. f (w.old i j m ∙ e))

  -- the larger graph stays among the numbers below n too
  pub adds-inside : (i j : ℕ) → h i j ≡ true → (i < j) × (j < n)
  adds-inside i j e = arises i j e (w.inside i j) (λ q. (rw (q.0, q.1) w.low, rw q.1 w.high))

  module _ (R S : ℕ → ℕ) (was : (x y : ℕ) → x < n → y < n → (R x ≡ R y) ↔ Chain g x y) (now : (x : ℕ) → x < n → S x ≡ moved (R a) (R b) (R x)) where
    la : a < n
    la = omega (arith, w.low, w.high)

    same_set : (x y : ℕ) → x < n → y < n → R x ≡ R y → S x ≡ S y
    same_set x y lx ly e = now x lx ∙ ap (moved (R a) (R b)) e ∙ sym (now y ly)

    step : (i j : ℕ) → h i j ≡ true → S i ≡ S j
    step i j e =
        let l = adds-inside i j e in
        let li : i < n = omega (arith, l.0, l.1) in
        arises i j e
        (λ d. same_set i j li l.1 ((was i j li l.1).1 (on (or_left (g i j) (g j i) d) stop)))
        (λ q. now i li ∙ ap (λ x. moved (R a) (R b) (R x)) q.0 ∙ moved-self (R a) (R b)
        ∙ sym (moved_to (R a) (R b)) ∙ sym (ap (λ x. moved (R a) (R b) (R x)) q.1) ∙ sym (now j l.1))

    back : {x y : ℕ} → Chain h x y → S x ≡ S y
    back stop = refl
    back {x} (on {j = z} e c) = or_cases (h x z) (h z x) e (λ d. step x z d) (λ d. sym (step z x d)) ∙ back c

    -- a chain from x in b's set to y in a's set goes by the new contact
    across : (x y : ℕ) → x < n → y < n → R x ≡ R b → R y ≡ R a → Chain h x y
    across x y lx ly ex ey =
        chain-trans (mono extends ((was x b lx w.high).0 ex))
        (on (or_right (h b a) (h a b) w.added) (mono extends ((was a y la ly).0 (sym ey))))

    forth : (x y : ℕ) → x < n → y < n → S x ≡ S y → Chain h x y
    forth x y lx ly e =
        let f : moved (R a) (R b) (R x) ≡ moved (R a) (R b) (R y) = sym (now x lx) ∙ e ∙ now y ly in
        decide (R x) (R b)
        (λ ex. decide (R y) (R b)
        (λ ey. mono extends ((was x y lx ly).0 (ex ∙ sym ey)))
        (λ ny. across x y lx ly ex (sym (moved_other (R a) (R b) (R y) ny) ∙ sym f ∙ ap (moved (R a) (R b)) ex ∙ moved_to (R a) (R b))))
        (λ nx. decide (R y) (R b)
        (λ ey. chain-sym (across y x ly lx ey (sym (moved_other (R a) (R b) (R x) nx) ∙ f ∙ ap (moved (R a) (R b)) ey ∙ moved_to (R a) (R b))))
        (λ ny. mono extends ((was x y lx ly).0 (sym (moved_other (R a) (R b) (R x) nx) ∙ f ∙ moved_other (R a) (R b) (R y) ny))))

    pub merge : (x y : ℕ) → x < n → y < n → (S x ≡ S y) ↔ Chain h x y
    merge x y lx ly = (forth x y lx ly, λ c. back c)
