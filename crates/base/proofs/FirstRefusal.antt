-- The first refusal that holds, taken from a list one at a time, and of two lists joined; what a refusal leaves. Assumes nothing.
use mathlib.Core.Path.{◌≡◌, refl, sym, ◌∙◌}
use mathlib.Core.Bool.{Bool, true, false, cond, not, ◌&&◌, and-eq-true_iff}
use mathlib.Core.List.{List, [], ◌∷◌, ◌++◌}
use Prim.Native.Nat.{ℕ, zero, suc}
use native.Mathlib.Omega.{arith}
use lib.Dec.{eqb}
use borrow.Author.Tests.{eq-eqb, ne_eqb, not-true}
use Rattle.std.proofs.Common.{Result, Ok, Err, ap}
use Rattle.std.proofs.lemmas.Bool.{eqb-true}
use Rattle.std.specs.Bool.{⊤}
use Rattle.base.specs.declared.Refused.{Refused}
use Rattle.base.specs.declared.Refused.TheVariants.{Ragged, Long, Bound, Coordinate, Copies, Picks, Short, Lists, Table, NoRow, RowAgain, RowLeft, Nodes, Block, Cell, Reach, OtherCutoff}
use Rattle.base.specs.Refusals.{Refusal, first_refusal, refusal_number, refusal_of, refused, answer_of, answer_number}
use Rattle.base.specs.Tables.{unless_refused}

-- the next one holds: it is the first
pub first-hit : (r : Refusal) (rs : List Refusal) → r.holds ≡ true → first_refusal (r ∷ rs) ≡ r.number
unfolding first_refusal
first-hit r rs h = rw h

-- the next one does not hold: the rest decides
pub first-skip : (r : Refusal) (rs : List Refusal) → r.holds ≡ false → first_refusal (r ∷ rs) ≡ first_refusal rs
unfolding first_refusal
first-skip r rs h = rw h

-- with no refusal, the next one does not hold, and there is none after it
pub first-none : (r : Refusal) (rs : List Refusal) → (r.number ≡ 0 → ⊥) → first_refusal (r ∷ rs) ≡ 0 → (r.holds ≡ false) × (first_refusal rs ≡ 0)
unfolding first_refusal
first-none r rs n e = by-test r.holds e
  where
    by-test : (b : Bool) → cond b r.number (first_refusal rs) ≡ 0 → (b ≡ false) × (first_refusal rs ≡ 0)
    by-test true h = absurd (n h)
    by-test false h = (refl, h)

-- no refusal of the list has the number 0; `refl` shows it of a list of plain numbers
unfoldable pub numbered : List Refusal → Bool
numbered [] = true
numbered (r ∷ rs) = not (eqb r.number 0) && numbered rs

-- of two lists the second decides where the first has no refusal
pub first-append : (rs ss : List Refusal) → numbered rs ≡ true → first_refusal (rs ++ ss) ≡ cond (eqb (first_refusal rs) 0) (first_refusal ss) (first_refusal rs)
unfolding first_refusal numbered
first-append [] ss n = refl
first-append (r ∷ rs) ss n = by-test r.holds parts.0 (first-append rs ss parts.1)
  where
    parts : (not (eqb r.number 0) ≡ true) × (numbered rs ≡ true)
    parts = (and-eq-true_iff (not (eqb r.number 0)) (numbered rs)).0 n

    answer : ℕ → ℕ
    answer m = cond (eqb m 0) (first_refusal ss) m

    by-test : (b : Bool) → not (eqb r.number 0) ≡ true → first_refusal (rs ++ ss) ≡ answer (first_refusal rs) → cond b r.number (first_refusal (rs ++ ss)) ≡ answer (cond b r.number (first_refusal rs))
    by-test true m h = rw (not-true (eqb r.number 0) m)
    by-test false m h = h

pub append-skip : (rs ss : List Refusal) → numbered rs ≡ true → first_refusal rs ≡ 0 → first_refusal (rs ++ ss) ≡ first_refusal ss
append-skip rs ss n e = rw (first-append rs ss n, eq-eqb (first_refusal rs) 0 e)

pub append-hit : (rs ss : List Refusal) → numbered rs ≡ true → (first_refusal rs ≡ 0 → ⊥) → first_refusal (rs ++ ss) ≡ first_refusal rs
append-hit rs ss n e = rw (first-append rs ss n, ne_eqb (first_refusal rs) 0 e)

-- a number that is 0, or has another for its own, is 0 where the other is
pub zero_of : (m n : ℕ) → ((m ≡ 0 → ⊥) → n ≡ m) → n ≡ 0 → m ≡ 0
zero_of zero n h e = refl
zero_of (suc m) n h e = absurd (omega (arith, h (λ z. omega arith), e))

pub append-none : (rs ss : List Refusal) → numbered rs ≡ true → first_refusal (rs ++ ss) ≡ 0 → first_refusal rs ≡ 0
append-none rs ss n e = zero_of (first_refusal rs) (first_refusal (rs ++ ss)) (append-hit rs ss n) e

-- ---- a value or a table after a call, by the number that the call answers
pub at-refusal : {A : Type 0} (r : ℕ) (x y : A) → (r ≡ 0 → ⊥) → unless_refused r x y ≡ y
at-refusal zero x y n = absurd (n refl)
at-refusal (suc r) x y n = refl

pub at_none : {A : Type 0} (r : ℕ) (x y : A) → r ≡ 0 → unless_refused r x y ≡ x
at_none r x y e = rw e

-- ---- a refusal's number
-- each refusal is that of its number, and a number from 1 to 17 is that of its refusal
pub refusal-numbered : (e : Refused) → refusal_of (refusal_number e) ≡ e
refusal-numbered = elim [
  | Ragged ↦ refl
  | Long ↦ refl
  | Bound ↦ refl
  | Coordinate ↦ refl
  | Copies ↦ refl
  | Picks ↦ refl
  | Short ↦ refl
  | Lists ↦ refl
  | Table ↦ refl
  | NoRow ↦ refl
  | RowAgain ↦ refl
  | RowLeft ↦ refl
  | Nodes ↦ refl
  | Block ↦ refl
  | Cell ↦ refl
  | Reach ↦ refl
  | OtherCutoff ↦ refl
]

-- every number of the list is that of a refusal; `refl` shows it of a list of plain numbers
unfoldable pub known : List Refusal → Bool
known [] = true
known (r ∷ rs) = eqb (refusal_number (refusal_of r.number)) r.number && known rs

-- so the first that holds is, where it is one
pub first-known : (rs : List Refusal) → known rs ≡ true → (first_refusal rs ≡ 0 → ⊥) → refusal_number (refusal_of (first_refusal rs)) ≡ first_refusal rs
unfolding first_refusal known
first-known [] k n = absurd (n refl)
first-known (r ∷ rs) k n = by-test r.holds (first-known rs parts.1) n
  where
    parts : (eqb (refusal_number (refusal_of r.number)) r.number ≡ true) × (known rs ≡ true)
    parts = (and-eq-true_iff (eqb (refusal_number (refusal_of r.number)) r.number) (known rs)).0 k

    by-test : (b : Bool) → ((first_refusal rs ≡ 0 → ⊥) → refusal_number (refusal_of (first_refusal rs)) ≡ first_refusal rs)
        → (cond b r.number (first_refusal rs) ≡ 0 → ⊥) → refusal_number (refusal_of (cond b r.number (first_refusal rs))) ≡ cond b r.number (first_refusal rs)
    by-test true h m = eqb-true _ _ parts.0
    by-test false h m = h m

-- the number of an answer that is a success, or the first refusal of a list
pub number-answered : {A : Type 0} (x : A) (rs : List Refusal) → known rs ≡ true → answer_number (unless_refused (first_refusal rs) (Ok x) (refused (first_refusal rs))) ≡ first_refusal rs
number-answered x rs k = by-number (first_refusal rs) (first-known rs k)
  where
    by-number : (r : ℕ) → ((r ≡ 0 → ⊥) → refusal_number (refusal_of r) ≡ r) → answer_number (unless_refused r (Ok x) (refused r)) ≡ r
    by-number zero h = refl
    by-number (suc r) h = h (λ z. omega (arith, z))

-- ---- an answer that is acceptance alone
pub answer-hit : (r : ℕ) → (r ≡ 0 → ⊥) → answer_of r ≡ refused r
answer-hit r n = at-refusal r (Ok tt) (refused r) n

pub answer-none : (r : ℕ) → r ≡ 0 → answer_of r ≡ Ok tt
answer-none r e = at_none r (Ok tt) (refused r) e

-- acceptance: nothing refused
pub accepted-zero : {u : ⊤} (r : ℕ) → Ok u ≡ answer_of r → r ≡ 0
accepted-zero zero e = refl
accepted-zero (suc r) e = cc

-- a refusal: it is that of the number, which is not 0
pub refused-number : (e : Refused) (r : ℕ) → Err e ≡ answer_of r → (r ≡ 0 → ⊥) × (e ≡ refusal_of r)
refused-number e zero h = cc
refused-number e (suc r) h = (λ z. omega (arith, z), ap (err_or e) h)
  where
    err_or : Refused → Result ⊤ Refused → Refused
    err_or d (Ok x) = d
    err_or d (Err x) = x

-- ---- a call that asks one list of refusals and then another
-- a refusal of the first list is the call's
pub append-refused : (rs ss : List Refusal) → numbered rs ≡ true → (e : Refused) → Err e ≡ answer_of (first_refusal rs) → Err e ≡ answer_of (first_refusal (rs ++ ss))
append-refused rs ss n e h = h ∙ sym (ap answer_of (append-hit rs ss n (refused-number e (first_refusal rs) h).0))

-- where the first list has none, the second decides
pub append-passed : {u : ⊤} (rs ss : List Refusal) → numbered rs ≡ true → Ok u ≡ answer_of (first_refusal rs) → first_refusal (rs ++ ss) ≡ first_refusal ss
append-passed rs ss n h = append-skip rs ss n (accepted-zero (first_refusal rs) h)

-- ---- an answer that is a success x, or the refusal r
-- a refusal of it is that of any answer with the same r
pub refused-alike : {A B : Type 0} (r : ℕ) (x : A) (y : B) (e : Refused) → Err e ≡ unless_refused r (Ok x) (refused r) → Err e ≡ unless_refused r (Ok y) (refused r)
refused-alike zero x y e h = cc
refused-alike (suc r) x y e h = let d : e ≡ refusal_of (suc r) = cc in ap Err d

-- a success of it is x, and r is none
pub passed-alike : {A : Type 0} (r : ℕ) (x z : A) → Ok z ≡ unless_refused r (Ok x) (refused r) → (r ≡ 0) × (z ≡ x)
passed-alike zero x z h = (refl, cc)
passed-alike (suc r) x z h = cc
