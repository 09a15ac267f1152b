-- The loop of a row over the later copies, on any sound table: also on one that no scan made. Assumes nothing.
use mathlib.Core.Path.{◌≡◌, refl, sym, ap, ◌∙◌}
use mathlib.Core.Bool.{Bool, true, false, cond}
use mathlib.Core.List.{List}
use Prim.Native.Nat.{ℕ, zero, suc, ◌+◌, ◌-◌, ◌^◌, ◌≤◌, ◌<◌}
use native.Mathlib.Omega.{arith}
use native.Mathlib.Numerals.{add-one}
use lib.ListN.{length, set}
use Rattle.base.specs.Limits.{max_copies}
use Rattle.spans.specs.Inner.{first_past}
use Rattle.union_find.specs.Parents.{sound_parents}
use Rattle.cluster_table.specs.Table.{parents, degree, contacts, words, contact, mark_at}
use Rattle.clusters.specs.Answers.{pass, row_table}
use Rattle.union_find.proofs.Forest.{decide, Sound, sound-parents}
use Rattle.union_find.proofs.Joins.{joins}
use Rattle.cluster_table.proofs.Parts.{parents-length}
use Rattle.cluster_table.proofs.Checks.{Ready}
use Rattle.cluster_table.proofs.Contacts.{wrote}

-- before copy j is tested: the rest of the pass over t gives what the whole pass gives over t₀
pub record Run (touch : ℕ → ℕ → Bool) (n i : ℕ) (t₀ : List ℕ) (t : List ℕ) (j : ℕ) : Type 0 where
  pub ahead : i < j
  pub within : j ≤ n
  pub same : length t ≡ length t₀
  pub long : words n ≤ length t
  pub sound : Sound (parents n t)
  pub low : (k : ℕ) → k < n → degree n t k < max_copies + j
  pub few : contacts t ≤ 2 ^ 24 + j
  pub rest : pass touch n i (n - j) j t ≡ pass touch n i (n - suc i) (suc i) t₀

pass_step : (touch : ℕ → ℕ → Bool) (n i j : ℕ) (t : List ℕ) → j < n
    → pass touch n i (n - j) j t ≡ pass touch n i (n - (j + 1)) (j + 1) (cond (touch i j) (contact n t i j) t)
unfolding pass
pass_step touch n i j t l = rw (e, add-one j)
  where
    e : n - j ≡ suc (n - (j + 1))
    e = omega arith

module _ {touch : ℕ → ℕ → Bool} {n i : ℕ} {t₀ : List ℕ} where
  pub run-first : n ≤ max_copies → words n ≤ length t₀ → i < n → Ready n t₀ → Run touch n i t₀ t₀ (i + 1)
  run-first m h l r =
      record {
        ahead = omega arith;
        within = omega arith;
        same = refl;
        long = h;
        sound = (sound-parents (parents n t₀)).0 r.sound;
        low = λ k h. omega (arith, r.low k h);
        few = omega (arith, r.few);
        rest = ap (λ (m : ℕ). pass touch n i (n - m) m t₀) (add-one i);
      }

  pub run-skip : {t : List ℕ} {j : ℕ} → Run touch n i t₀ t j → j < n → touch i j ≡ false → Run touch n i t₀ t (j + 1)
  run-skip {t} {j} r l e =
      record {
        ahead = omega (arith, r.ahead);
        within = omega arith;
        same = r.same;
        long = r.long;
        sound = r.sound;
        low = λ k h. omega (arith, r.low k h);
        few = omega (arith, r.few);
        rest = sym (pass_step touch n i j t l ∙ ap (λ (b : Bool). pass touch n i (n - (j + 1)) (j + 1) (cond b (contact n t i j) t)) e) ∙ r.rest;
      }

  -- copies that a test passes over, where none of those touches
  pub run-over : (f : ℕ → Bool) → ((m : ℕ) → m < n → f m ≡ true → touch i m ≡ false) → {t : List ℕ} (k j : ℕ) → j + k ≡ n → Run touch n i t₀ t j
      → Run touch n i t₀ t (first_past f k j)
  unfolding first_past
  run-over f h {t} zero j e r = r
  run-over f h {t} (suc k) j e r = by (f j) refl (λ d. run-over f h k (suc j) (omega arith) (rw add-one at (run-skip r (omega arith) (h j (omega arith) d))))
    where
      by : (b : Bool) → f j ≡ b → (f j ≡ true → Run touch n i t₀ t (first_past f k (suc j))) → Run touch n i t₀ t (cond b (first_past f k (suc j)) j)
      by true d next = next d
      by false d next = r

  pub run-touch : {t : List ℕ} {j : ℕ} → Run touch n i t₀ t j → j < n → touch i j ≡ true → Run touch n i t₀ (contact n t i j) (j + 1)
  run-touch {t} {j} r l e =
      let many : length (parents n t) ≡ n = parents-length n t (omega (arith, r.long)) in
      let g = joins (parents n t) i j r.sound (rw many (omega (arith, r.ahead))) (rw many l) in
      let w = wrote n t i j r.long r.ahead l (g.same ∙ many) in
      record {
        ahead = omega (arith, r.ahead);
        within = omega arith;
        same = w.same ∙ r.same;
        long = omega (arith, r.long, w.same);
        sound = rw w.tree g.sound;
        low = λ k h.
            decide k i
            (λ d. rw d (omega (arith, r.low i (omega (arith, r.ahead)), w.low)))
            (λ m. decide k j
            (λ d. rw d (omega (arith, r.low j l, w.high)))
            (λ m'. omega (arith, r.low k h, w.rest k h m m')));
        few = omega (arith, r.few, w.up);
        rest = sym (pass_step touch n i j t l ∙ ap (λ (b : Bool). pass touch n i (n - (j + 1)) (j + 1) (cond b (contact n t i j) t)) e) ∙ r.rest;
      }

  pub run-last : {t : List ℕ} {j : ℕ} → Run touch n i t₀ t j → n ≤ j → set t (mark_at n i) 1 ≡ row_table touch n i t₀
  unfolding row_table pass
  run-last {t} {j} r l =
      let e : n - j ≡ 0 = omega arith in
      ap (λ (x : List ℕ). set x (mark_at n i) 1) (sym (ap (λ (m : ℕ). pass touch n i m j t) e) ∙ r.rest)

  -- what `add_contact` requires
  pub run-asks : {t : List ℕ} {j : ℕ} → Run touch n i t₀ t j → n ≤ max_copies → j < n
      → ((n ≤ max_copies) × (words n ≤ length t) × (i < j) × (j < n))
      × ((sound_parents (parents n t) ≡ true) × ((degree n t i < 2 ^ 31) × (degree n t j < 2 ^ 31) × (contacts t < 2 ^ 31)))
  run-asks {t} {j} r m l = (
    (m, r.long, r.ahead, l),
    ((sound-parents (parents n t)).1 r.sound, (omega (arith, r.low i (omega (arith, r.ahead))), omega (arith, r.low j l), omega (arith, r.few))),
  )
