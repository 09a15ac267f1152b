-- Select's refusals: those of the lists first, then those of the counts and the tables' room; and what each return says: a refusal leaves
-- both tables, and success writes both. Assumes nothing.
use mathlib.Core.Path.{◌≡◌, refl, sym, ◌∙◌}
use mathlib.Core.Bool.{true, false, cond, ◌||◌, or-false}
use mathlib.Core.List.{List, [], ◌∷◌}
use Prim.Native.Nat.{ℕ, ◌+◌, ◌≤◌, ◌*◌}
use native.Mathlib.Omega.{arith}
use lib.Dec.{ltb}
use lib.ListN.{length}
use borrow.Author.Tests.{ltb-false, le-ltb}
use lib.Ieee.{Float}
use Rattle.std.proofs.Common.{Result, Ok, Err, ap}
use Rattle.std.specs.Bool.{⊤}
use Rattle.base.specs.declared.Refused.{Refused}
use Rattle.base.specs.Refusals.{Refusal, first_refusal, answer_of}
use Rattle.frame_limits.specs.Limits.{lengths, counts, coordinates, ragged, long, long_indices, any_over, max_coordinate}
use Rattle.base.specs.Limits.{max_indices, max_copies, max_picks, max_atoms}
use Rattle.base.specs.Tables.{over}
use Rattle.base.proofs.FirstRefusal.{numbered, first-none, append-refused, append-skip, accepted-zero, refused-number, refused-alike, at-refusal}
use Rattle.base.proofs.Tests.{neither}
use Rattle.selection.specs.declared.Counted.{Counted}
use Rattle.selection.specs.Selection.{kept_copies, picks_of, starts_of, list_refusals, room_refusals, select_refusals, select_refusal, select_answer, starts_after, picks_after}

-- two limits, neither of them passed
pub both-within : (m n i j : ℕ) → (ltb m n || ltb i j) ≡ false → (n ≤ m) × (j ≤ i)
both-within m n i j e =
    let tests = neither (ltb m n) (ltb i j) e in
    (ltb-false m n tests.0, ltb-false i j tests.1)

-- ---- the lists
module _ (solutes : List Float) (indices : List ℕ) where
  -- the tests in the order of their refusals
  pub list-chain : first_refusal (list_refusals solutes indices) ≡ cond (ragged solutes) 1 (cond (long solutes || ltb max_indices (length indices)) 2 (cond (any_over max_coordinate solutes) 4 0))
  unfolding first_refusal list_refusals lengths counts coordinates any_over ragged long long_indices
  list-chain = rw (or-false (ragged solutes), or-false (any_over max_coordinate solutes))

  list-numbered : numbered (list_refusals solutes indices) ≡ true
  unfolding numbered list_refusals lengths counts coordinates
  list-numbered = refl

  -- lists that none of 1, 2 and 4 refuses are within the limits
  pub list-none : first_refusal (list_refusals solutes indices) ≡ 0 → (length solutes ≤ max_atoms * 3) × (length indices ≤ max_indices)
  unfolding list_refusals lengths counts coordinates long long_indices
  list-none e =
      let n1 = first-none (lengths solutes []) (counts solutes [] indices ∷ coordinates solutes [] ∷ []) (λ h. omega arith) e in
      let n2 = first-none (counts solutes [] indices) (coordinates solutes [] ∷ []) (λ h. omega arith) n1.1 in
      both-within (max_atoms * 3) (length solutes) max_indices (length indices) n2.0

-- ---- Select
module _ (solutes : List Float) (per : ℕ) (indices starts picks : List ℕ) where
  room : List Refusal
  room = room_refusals (length (kept_copies solutes per indices)) (length (picks_of (kept_copies solutes per indices))) (length starts) (length picks)

  -- so many copies are kept, and atoms picked in them
  abbrev pub counted : Counted
  counted = record { copies = length (kept_copies solutes per indices); picks = length (picks_of (kept_copies solutes per indices)) }

  -- the answer r and the tables afterwards are Select's
  abbrev pub Answers : Result Counted Refused → List ℕ → List ℕ → Type 0
  Answers r starts' picks' = (r ≡ select_answer solutes per indices starts picks) × ((starts' ≡ starts_after solutes per indices starts picks) × (picks' ≡ picks_after solutes per indices starts picks))

  -- a refusal leaves both tables
  left : (e : Refused) → Err e ≡ answer_of (select_refusal solutes per indices starts picks) → Answers (Err e) starts picks
  unfolding select_answer starts_after picks_after
  left e h =
      let r = select_refusal solutes per indices starts picks in
      let n = (refused-number e r h).0 in
      (refused-alike r tt counted e h, (sym (at-refusal r _ starts n), sym (at-refusal r _ picks n)))

  -- success writes both
  written : select_refusal solutes per indices starts picks ≡ 0 → let cs = kept_copies solutes per indices in Answers (Ok counted) (over (starts_of cs) starts) (over (picks_of cs) picks)
  unfolding select_answer starts_after picks_after
  written e = rw e (refl, (refl, refl))

  -- a refusal of the lists is the first
  pub refused-lists : (e : Refused) → Err e ≡ answer_of (first_refusal (list_refusals solutes indices)) → Answers (Err e) starts picks
  unfolding select_refusal select_refusals room
  refused-lists e h = left e (append-refused (list_refusals solutes indices) room (list-numbered solutes indices) e h)

  -- without one the counts and the tables' room decide
  module _ (none : first_refusal (list_refusals solutes indices) ≡ 0) where
    room-decides : select_refusal solutes per indices starts picks ≡ first_refusal room
    unfolding select_refusal select_refusals room
    room-decides = append-skip (list_refusals solutes indices) room (list-numbered solutes indices) none

    module _ (copies total : ℕ) (few : copies ≡ length (kept_copies solutes per indices)) (light : total ≡ length (picks_of (kept_copies solutes per indices))) where
      decided : first_refusal (room_refusals copies total (length starts) (length picks)) ≡ select_refusal solutes per indices starts picks
      unfolding room
      decided = rw (few, light) (sym room-decides)

      pub refused-room : (e : Refused) → Err e ≡ answer_of (first_refusal (room_refusals copies total (length starts) (length picks))) → Answers (Err e) starts picks
      refused-room e h = left e (h ∙ ap answer_of decided)

      pub answered : {u : ⊤} → Ok u ≡ answer_of (first_refusal (room_refusals copies total (length starts) (length picks)))
          → Answers (Ok (record { copies = copies; picks = total })) (over (starts_of (kept_copies solutes per indices)) starts) (over (picks_of (kept_copies solutes per indices)) picks)
      answered h = rw (few, light) (written (sym decided ∙ accepted-zero _ h))

  -- success by the tests, one at a time
  pub selected : ragged solutes ≡ false → (long solutes || ltb max_indices (length indices)) ≡ false → any_over max_coordinate solutes ≡ false → length (kept_copies solutes per indices) ≤ max_copies → length (picks_of (kept_copies solutes per indices)) ≤ max_picks
      → let cs = kept_copies solutes per indices in
      (ltb (length starts) (length cs + 1) || ltb (length picks) (length (picks_of cs))) ≡ false → Answers (Ok counted) (over (starts_of cs) starts) (over (picks_of cs) picks)
  unfolding first_refusal room_refusals room
  selected t1 t2 t3 few light t6 =
      let cs = kept_copies solutes per indices in
      let none : first_refusal (list_refusals solutes indices) ≡ 0 = list-chain solutes indices ∙ rw (t1, t2, t3) in
      written (room-decides none ∙ rw (le-ltb max_copies (length cs) few, le-ltb max_picks (length (picks_of cs)) light, t6))
