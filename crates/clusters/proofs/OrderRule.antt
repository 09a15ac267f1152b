-- The order rule (docs/RULES.md). By induction on the list of calls: each call keeps the table equal to the graph of the rows
-- accepted so far, so at each point of the list every call answers by that graph. An accepted row has the bits of the opening's cutoff, and so, both
-- being an f32, that very cutoff. Assumes nothing.
use mathlib.Core.Path.{◌≡◌, refl, sym, ap, ◌∙◌, subst}
use mathlib.Core.Bool.{Bool, true, false, true≢false, cond, not, ◌||◌, or_assoc, or-false}
use mathlib.Core.Logic.{inl, inr}
use mathlib.Core.List.{List, [], ◌∷◌, ◌++◌}
use Prim.Native.Nat.{ℕ, zero, suc, ◌≤◌, ◌<◌}
use native.Mathlib.Omega.{arith}
use native.Mathlib.Decide.{dec_lt}
use lib.ListN.{length}
use lib.Dec.{T, eqb, leb}
use lib.Ieee.{Float, binary32, fits, of_bits, to_bits}
use lib.Ieee.Bits.{of_bits-to_bits}
use Rattle.std.proofs.Common.{Ok}
use Rattle.base.specs.Limits.{max_copies}
use Rattle.base.specs.Refusals.{Refusal, refuse, first_refusal, answer_of}
use Rattle.base.specs.Tables.{unless_refused}
use Rattle.base.proofs.FirstRefusal.{first-append, at_none, accepted-zero}
use Rattle.cell.specs.Reach.{reach, sound_reach}
use Rattle.floats.proofs.Tests.{holds}
use Rattle.pick_lists.specs.Sound.{copies}
use Rattle.pick_lists.specs.Input.{Input, input_refusals}
use Rattle.touch.specs.Touch.{copies_touch}
use Rattle.pick_lists.proofs.InputRefusals.{input-numbered}
use Rattle.base.proofs.Tests.{and_left, and_right}
use Rattle.cluster_table.specs.Table.{words, opened}
use Rattle.cluster_table.specs.Refusals.{other_cutoff, row_table_refusals}
use Rattle.clusters.specs.Answers.{row_table, open_refusal, open_answer, open_after, row_refusal, row_after, close_answer}
use Rattle.clusters.specs.Order.{Call, row, close, reopen, call_after, after, is_accepted, accepts, accepted, never_reopened, cutoffs_fit, Ruled, OrderRule}
use Rattle.clusters.proofs.Refusals.{open-room, open-same}
use Rattle.clusters.proofs.Rows.{holds_same}
use Rattle.clusters.proofs.Held.{row-answer, close-waits, close-gives}
use Rattle.clusters.proofs.Calls.{State, same_rows, state-first, state-answer, answer-length, full, largest-contact}

-- a call that is not accepted changes nothing
not-accepted : (r : ℕ) (x y : List ℕ) → not (is_accepted (answer_of r)) ≡ true → unless_refused r x y ≡ y
not-accepted zero x y e = absurd (true≢false (sym e))
not-accepted (suc r) x y e = refl

-- an f32 has bits of its own
one-cutoff : (k k₀ : Float) → T (fits binary32 k) → T (fits binary32 k₀) → to_bits binary32 k ≡ to_bits binary32 k₀ → k ≡ k₀
one-cutoff k k₀ held held₀ e = sym (of_bits-to_bits binary32 k held) ∙ ap (of_bits binary32) e ∙ of_bits-to_bits binary32 k₀ held₀

-- the cutoffs of two lists of calls
fit_parts : (cs ds : List Call) → cutoffs_fit (cs ++ ds) ≡ true → (cutoffs_fit cs ≡ true) × (cutoffs_fit ds ≡ true)
unfolding cutoffs_fit
fit_parts [] ds h = (refl, h)
fit_parts (row k i ∷ cs) ds h = let p = fit_parts cs ds (and_right (fits binary32 k) _ h) in (rw (and_left (fits binary32 k) _ h, p.0), p.1)
fit_parts (close ∷ cs) ds h = fit_parts cs ds h
fit_parts (reopen m k ∷ cs) ds h = fit_parts cs ds h

module _ (f : Input) where
  abbrev n : ℕ
  n = copies f.starts

  unfoldable pub inputs : List Refusal
  inputs = input_refusals f

  -- the refusals of the input first, then those of another list
  first_of : (rs : List Refusal) → first_refusal (inputs ++ rs) ≡ cond (eqb (first_refusal inputs) 0) (first_refusal rs) (first_refusal inputs)
  unfolding inputs
  first_of rs = first-append inputs rs (input-numbered f)

  row_is : (k : Float) (t : List ℕ) (i : ℕ) → row_refusal f k t i ≡ first_refusal (inputs ++ row_table_refusals n k t i)
  unfolding inputs row_refusal
  row_is k t i = refl

  pub row-leaves : (k : Float) (t : List ℕ) (i : ℕ) → call_after f t (row k i) ≡ unless_refused (row_refusal f k t i) (row_table (copies_touch f k) n i t) t
  unfolding call_after row_after
  row-leaves k t i = refl

  close-leaves : (t : List ℕ) → call_after f t close ≡ t
  unfolding call_after
  close-leaves t = refl

  -- ---- one call

  -- the call does not open the table again
  held : List ℕ → Call → Bool
  held t (row k i) = true
  held t close = true
  held t (reopen m k) = not (is_accepted (open_answer m k t))

  -- a refused Open changes nothing
  reopen-leaves : (t : List ℕ) (m : ℕ) (k : Float) → held t (reopen m k) ≡ true → call_after f t (reopen m k) ≡ t
  unfolding call_after open_after held
  reopen-leaves t m k e = not-accepted (open_refusal m k t) (opened m (to_bits binary32 k) t) t e

  call_length : (t : List ℕ) (c : Call) → held t c ≡ true → length (call_after f t c) ≡ length t
  call_length t (row k i) e = ap length (row-leaves k t i) ∙ answer-length (copies_touch f k) n t i (row_refusal f k t i)
  call_length t close e = ap length (close-leaves t)
  call_length t (reopen m k) e = ap length (reopen-leaves t m k e)

  -- ---- a list of calls

  never_first : (t : List ℕ) (c : Call) (cs : List Call) → never_reopened f t (c ∷ cs) ≡ true → held t c ≡ true
  unfolding never_reopened held
  never_first t (row k i) cs e = refl
  never_first t close cs e = refl
  never_first t (reopen m k) cs e = and_left (not (is_accepted (open_answer m k t))) _ e

  never-rest : (t : List ℕ) (c : Call) (cs : List Call) → never_reopened f t (c ∷ cs) ≡ true → never_reopened f (call_after f t c) cs ≡ true
  unfolding never_reopened call_after
  never-rest t (row k i) cs e = e
  never-rest t close cs e = e
  never-rest t (reopen m k) cs e = and_right (not (is_accepted (open_answer m k t))) _ e

  -- what a list keeps to, its first calls keep to
  never-part : (t : List ℕ) (cs ds : List Call) → never_reopened f t (cs ++ ds) ≡ true → never_reopened f t cs ≡ true
  unfolding never_reopened
  never-part t [] ds e = refl
  never-part t (row k i ∷ cs) ds e = never-part (call_after f t (row k i)) cs ds e
  never-part t (close ∷ cs) ds e = never-part t cs ds e
  never-part t (reopen m k ∷ cs) ds e =
      rw (
        and_left (not (is_accepted (open_answer m k t))) _ e,
        never-part (call_after f t (reopen m k)) cs ds (and_right (not (is_accepted (open_answer m k t))) _ e),
      )

  runs-length : (cs : List Call) (t : List ℕ) → never_reopened f t cs ≡ true → length (after f t cs) ≡ length t
  unfolding after
  runs-length [] t e = refl
  runs-length (c ∷ cs) t e = runs-length cs (call_after f t c) (never-rest t c cs e) ∙ call_length t c (never_first t c cs e)

  -- ---- the table holds the graph at the opening's cutoff k₀
  module _ (k₀ : Float) where
    abbrev Graph : (ℕ → Bool) → List ℕ → Type 0
    Graph = State (copies_touch f k₀) n (to_bits binary32 k₀)

    -- what Row answers
    pub rows-rule : (acc : ℕ → Bool) (t : List ℕ) → Graph acc t → (k : Float) (i : ℕ)
        → row_refusal f k t i ≡ first_refusal (inputs ++ (reach k ∷ other_cutoff k (to_bits binary32 k₀) ∷ refuse 10 (leb n i) ∷ refuse 11 (acc i) ∷ []))
    rows-rule acc t s k i =
        row_is k t i ∙ first_of (row_table_refusals n k t i)
        ∙ ap (λ (r : ℕ). cond (eqb (first_refusal inputs) 0) r (first_refusal inputs)) (row-answer s k i)
        ∙ sym (first_of (reach k ∷ other_cutoff k (to_bits binary32 k₀) ∷ refuse 10 (leb n i) ∷ refuse 11 (acc i) ∷ []))

    module _ (held₀ : T (fits binary32 k₀)) where
      -- the table after a call holds the graph of the rows accepted before and of that call's
      call-state : (acc : ℕ → Bool) (t : List ℕ) (c : Call) → cutoffs_fit (c ∷ []) ≡ true → held t c ≡ true → Graph acc t → Graph (λ i. acc i || accepts f t c i) (call_after f t c)
      unfolding accepts cutoffs_fit
      call-state acc t (row k i) h e s =
          rw (row-leaves k t i)
          (state-answer (copies_touch f k₀) n (to_bits binary32 k₀) acc t i s k (copies_touch f k)
          (λ d. ap (copies_touch f) (one-cutoff k k₀ (holds (and_left (fits binary32 k) true h)) held₀ d))
          (first_refusal inputs) (row_refusal f k t i) (row_is k t i ∙ first_of (row_table_refusals n k t i)))
      call-state acc t close h e s = rw (close-leaves t) (same_rows (copies_touch f k₀) n (to_bits binary32 k₀) acc (λ i. acc i || false) t (λ i. sym (or-false (acc i))) s)
      call-state acc t (reopen m k) h e s =
          rw (reopen-leaves t m k e) (same_rows (copies_touch f k₀) n (to_bits binary32 k₀) acc (λ i. acc i || false) t (λ i. sym (or-false (acc i))) s)

      runs : (cs : List Call) (acc : ℕ → Bool) (t : List ℕ) → cutoffs_fit cs ≡ true → never_reopened f t cs ≡ true → Graph acc t
          → Graph (λ i. acc i || accepted f t cs i) (after f t cs)
      unfolding after accepted
      runs [] acc t h e s = same_rows (copies_touch f k₀) n (to_bits binary32 k₀) acc (λ i. acc i || false) t (λ i. sym (or-false (acc i))) s
      runs (c ∷ cs) acc t h e s =
          let p = fit_parts (c ∷ []) cs h in
          same_rows (copies_touch f k₀) n (to_bits binary32 k₀) (λ i. (acc i || accepts f t c i) || accepted f (call_after f t c) cs i)
          (λ i. acc i || (accepts f t c i || accepted f (call_after f t c) cs i)) (after f (call_after f t c) cs)
          (λ i. or_assoc (acc i) (accepts f t c i) (accepted f (call_after f t c) cs i))
          (runs cs (λ i. acc i || accepts f t c i) (call_after f t c) p.1 (never-rest t c cs e) (call-state acc t c p.0 (never_first t c cs e) s))

      -- ---- the rule, from the opened table on
      module _ (lent : List ℕ) (taken : open_answer n k₀ lent ≡ Ok tt) where
        t₀ : List ℕ
        t₀ = open_after n k₀ lent

        none : open_refusal n k₀ lent ≡ 0
        none = accepted-zero (open_refusal n k₀ lent) (sym taken)

        room : (n ≤ max_copies) × (sound_reach k₀ ≡ true) × (words n ≤ length lent)
        room = open-room n k₀ lent none

        start : Graph (λ i. false) t₀
        unfolding t₀ open_after
        start =
            rw (at_none (open_refusal n k₀ lent) (opened n (to_bits binary32 k₀) lent) lent none)
            (state-first (copies_touch f k₀) n (to_bits binary32 k₀) lent room.2)

        rules : (cs : List Call) → cutoffs_fit cs ≡ true → never_reopened f t₀ cs ≡ true → Ruled f n k₀ t₀ (after f t₀ cs) (accepted f t₀ cs)
        unfolding inputs
        rules cs h e =
            let s : Graph (accepted f t₀ cs) (after f t₀ cs) = runs cs (λ i. false) t₀ h e start in
            record {
              sets = s.sets;
              degrees = s.degrees;
              contacts-are = s.contacts-are;
              cutoff-is = s.cutoff;
              rows = λ k i. ap answer_of (rows-rule (accepted f t₀ cs) (after f t₀ cs) s k i);
              opens = λ m k. ap answer_of (open-same m k (after f t₀ cs) t₀ (runs-length cs t₀ e));
              waits = close-waits s room.0;
              gives = λ a m c. close-gives (holds_same s (full (copies_touch f k₀) n (accepted f t₀ cs) a)) room.0 a m c;
              largest = largest-contact (copies_touch f k₀) n;
            }

pub order-rule : OrderRule
unfolding t₀
order-rule f k₀ lent cs held₀ h taken e before rest d =
    let t = open_after (copies f.starts) k₀ lent in
    rules f k₀ (holds held₀) lent taken before (fit_parts before rest (subst (λ (x : List Call). cutoffs_fit x ≡ true) d h)).0
    (never-part f t before rest (subst (λ (x : List Call). never_reopened f t x ≡ true) d e))

-- however the rows were ordered, and whatever the lent tables held: at any two points where every row is accepted Close answers the same
pub any_order : {f : Input} {n : ℕ} {k : Float} {t₀ t u₀ u : List ℕ} {acc bcc : ℕ → Bool} → Ruled f n k t₀ t acc → Ruled f n k u₀ u bcc
    → ((i : ℕ) → i < n → acc i ≡ true) → ((i : ℕ) → i < n → bcc i ≡ true)
    → close_answer t ≡ close_answer u
any_order {n = n} {t = t} {u = u} p q a b = go (dec_lt n 2)
  where
    go : Dec (n < 2) → close_answer t ≡ close_answer u
    go (yes z) = p.gives a 0 (inl z) ∙ sym (q.gives b 0 (inl z))
    go (no z) = let m = p.largest (omega arith) in p.gives a m.0 (inr m.1) ∙ sym (q.gives b m.0 (inr m.1))
