-- The pick lists that Select writes are sound, and the i-th copy's picks are the i-th kept copy. Assumes nothing.
use mathlib.Core.Path.{◌≡◌, refl, ◌∙◌, ap, subst}
use mathlib.Core.Bool.{Bool, true, false, cond, ◌&&◌, ◌||◌, and-eq-true_iff}
use mathlib.Core.List.{List, [], ◌∷◌, ◌++◌}
use Prim.Native.Nat.{ℕ, zero, suc, ◌+◌, ◌-◌, ◌*◌, ◌/◌, ◌≤◌, ◌<◌}
use native.Mathlib.Nat.{le_of_suc-le-suc, zero-add, sub-zero, suc-mul, div-mul-le_self}
use native.Mathlib.Numerals.{add-one}
use native.Mathlib.Omega.{arith}
use lib.Dec.{ltb}
use lib.ListN.{length, get_or, take, drop, length-append}
use lib.Seq.{take-append_seam, take_at, drop-append-add}
use lib.Ieee.{Float}
use borrow.Author.Tests.{lt-ltb, ltb-true, ltb-false}
use Rattle.base.specs.Limits.{max_copies, max_picks}
use Rattle.frame_limits.specs.Limits.{lengths, counts, coordinates}
use Rattle.base.specs.Refusals.{refuse, first_refusal}
use Rattle.base.specs.Tables.{over}
use Rattle.base.proofs.FirstRefusal.{first-none}
use Rattle.pick_lists.specs.Sound.{finite_atom, rises, all_finite, copies, sound_lists}
use Rattle.selection.specs.Selection.{finite_atoms, indexed, or_else, picked, keep, copies_from, chunks, kept_copies, picks_of, starts_from, starts_of, list_refusals, room_refusals, select_refusals, select_refusal, starts_after, picks_after}
use Rattle.selection.proofs.SelectRefusals.{both-within}
use Rattle.pick_lists.proofs.SoundLists.{starts-sound}

-- ---- what is picked of a copy whose atoms are there is finite
module _ (xs : List Float) where
  finite-from : (n k : ℕ) → (k + n) * 3 ≤ length xs → all_finite xs (finite_atoms xs n k) ≡ true
  unfolding all_finite finite_atoms
  finite-from zero k h = refl
  finite-from (suc n) k h = by-test (finite_atom xs k) refl (finite-from n (k + 1) (omega arith))
    where
      rest : List ℕ
      rest = finite_atoms xs n (k + 1)

      by-test : (b : Bool) → finite_atom xs k ≡ b → all_finite xs rest ≡ true → all_finite xs (cond b (k ∷ rest) rest) ≡ true
      by-test true e r = rw (lt-ltb (k * 3 + 2) (length xs) (omega arith), e) r
      by-test false e r = r

  finite-indexed : (per base : ℕ) (is : List ℕ) → (base + per) * 3 ≤ length xs → all_finite xs (indexed xs per base is) ≡ true
  unfolding all_finite indexed
  finite-indexed per base [] h = refl
  finite-indexed per base (i ∷ is) h = by-test (ltb i per && finite_atom xs (base + i)) refl (finite-indexed per base is h)
    where
      rest : List ℕ
      rest = indexed xs per base is

      by-test : (b : Bool) → (ltb i per && finite_atom xs (base + i)) ≡ b → all_finite xs rest ≡ true → all_finite xs (cond b ((base + i) ∷ rest) rest) ≡ true
      by-test true e r =
          let named = (and-eq-true_iff (ltb i per) (finite_atom xs (base + i))).0 e in
          rw (lt-ltb ((base + i) * 3 + 2) (length xs) (omega (arith, ltb-true i per named.0)), named.1) r
      by-test false e r = r

  finite-picked : (per : ℕ) (is : List ℕ) (base : ℕ) → (base + per) * 3 ≤ length xs → all_finite xs (picked xs per is base) ≡ true
  unfolding picked
  finite-picked per is base h = either (indexed xs per base is) (finite_atoms xs per base) (finite-indexed per base is h) (finite-from per base h)
    where
      either : (a b : List ℕ) → all_finite xs a ≡ true → all_finite xs b ≡ true → all_finite xs (or_else a b) ≡ true
      either [] b p q = q
      either (x ∷ a) b p q = p

-- ---- copies that each have a pick, all of them finite atoms
data Picked (xs : List Float) : List (List ℕ) → Type 0 where
  none : Picked xs []
  more : {c : List ℕ} {cs : List (List ℕ)} → 0 < length c → all_finite xs c ≡ true → Picked xs cs → Picked xs (c ∷ cs)

copies-picked : (xs : List Float) (per : ℕ) (is : List ℕ) (n base : ℕ) → (base + n * per) * 3 ≤ length xs → Picked xs (copies_from xs per is n base)
unfolding copies_from
copies-picked xs per is zero base h = none
copies-picked xs per is (suc n) base h =
    kept (picked xs per is base) (finite-picked xs per is base (first base (n * per) per (length xs) (rw suc-mul at h))) (copies-picked xs per is n (base + per) (others base (n * per) per (length xs) (rw suc-mul at h)))
  where
    first : (b m p l : ℕ) → (b + (m + p)) * 3 ≤ l → (b + p) * 3 ≤ l
    first b m p l h = omega arith

    others : (b m p l : ℕ) → (b + (m + p)) * 3 ≤ l → (b + p + m) * 3 ≤ l
    others b m p l h = omega arith

    kept : (c : List ℕ) {cs : List (List ℕ)} → all_finite xs c ≡ true → Picked xs cs → Picked xs (keep c cs)
    kept [] e r = r
    kept (p ∷ c) e r = more {c = p ∷ c} (omega arith) e r

kept-picked : (xs : List Float) (per : ℕ) (is : List ℕ) → Picked xs (kept_copies xs per is)
unfolding kept_copies chunks
kept-picked xs zero is = copies-picked xs zero is 0 0 (omega arith)
kept-picked xs (suc p) is = copies-picked xs (suc p) is (length xs / 3 / suc p) 0 (fits (length xs / 3 / suc p * suc p) (length xs) (div-mul-le_self (length xs / 3) (suc p)))
  where
    fits : (m l : ℕ) → m ≤ l / 3 → (0 + m) * 3 ≤ l
    fits m l h = omega arith

-- ---- starts and picks of any copies
starts-number : (at : ℕ) (cs : List (List ℕ)) → length (starts_from at cs) ≡ suc (length cs)
unfolding starts_from
starts-number at [] = refl
starts-number at (c ∷ cs) = ap suc (starts-number (at + length c) cs)

starts_first : (at : ℕ) (cs : List (List ℕ)) → get_or (starts_from at cs) 0 0 ≡ at
unfolding starts_from
starts_first at [] = refl
starts_first at (c ∷ cs) = refl

starts-last : (at : ℕ) (cs : List (List ℕ)) → get_or (starts_from at cs) (length cs) 0 ≡ at + length (picks_of cs)
unfolding starts_from picks_of
starts-last at [] = omega arith
starts-last at (c ∷ cs) = omega (arith, starts-last (at + length c) cs, length-append c (picks_of cs))

starts-above : (at : ℕ) (cs : List (List ℕ)) (i : ℕ) → i ≤ length cs → at ≤ get_or (starts_from at cs) i 0
unfolding starts_from
starts-above at [] zero h = omega arith
starts-above at [] (suc i) h = absurd (omega arith)
starts-above at (c ∷ cs) zero h = omega arith
starts-above at (c ∷ cs) (suc i) h = omega (arith, starts-above (at + length c) cs i (le_of_suc-le-suc h))

starts-rise : {xs : List Float} {cs : List (List ℕ)} → Picked xs cs → (at : ℕ) → rises (starts_from at cs) ≡ true
unfolding rises starts_from
starts-rise none at = refl
starts-rise (more {c} {cs} some f r) at = on cs (starts-rise r (at + length c))
  where
    on : (cs : List (List ℕ)) → rises (starts_from (at + length c) cs) ≡ true → rises (at ∷ starts_from (at + length c) cs) ≡ true
    on [] h = rw (lt-ltb at (at + length c) (omega arith))
    on (d ∷ ds) h = rw (lt-ltb at (at + length c) (omega arith)) h

joined-finite : {xs : List Float} {cs : List (List ℕ)} → Picked xs cs → all_finite xs (picks_of cs) ≡ true
unfolding all_finite picks_of
joined-finite none = refl
joined-finite {xs} (more {c} {cs} some f r) = on c f (joined-finite r)
  where
    on : (c : List ℕ) → all_finite xs c ≡ true → all_finite xs (picks_of cs) ≡ true → all_finite xs (c ++ picks_of cs) ≡ true
    on [] p q = q
    on (a ∷ c) p q =
        let parts = (and-eq-true_iff (ltb (a * 3 + 2) (length xs) && finite_atom xs a) (all_finite xs c)).0 p in
        rw parts.0 (on c parts.1 q)

pub starts-length : (cs : List (List ℕ)) → length (starts_of cs) ≡ length cs + 1
unfolding starts_of
starts-length cs = rw (starts-number 0 cs, add-one)

pub starts-copies : (cs : List (List ℕ)) → copies (starts_of cs) ≡ length cs
starts-copies cs = omega (arith, starts-length cs)

pub starts-zero : (cs : List (List ℕ)) → get_or (starts_of cs) 0 0 ≡ 0
unfolding starts_of
starts-zero cs = starts_first 0 cs

pub starts-end : (cs : List (List ℕ)) → get_or (starts_of cs) (copies (starts_of cs)) 0 ≡ length (picks_of cs)
unfolding starts_of
starts-end cs = rw (starts-copies cs) (starts-last 0 cs ∙ zero-add (length (picks_of cs)))

-- the picks between a start and the next are the copy's
cut_list : (at : ℕ) (cs : List (List ℕ)) (i : ℕ) → i < length cs → take (get_or (starts_from at cs) (suc i) 0 - get_or (starts_from at cs) i 0) (drop (get_or (starts_from at cs) i 0 - at) (picks_of cs)) ≡ get_or cs i []
unfolding starts_from picks_of
cut_list at [] i h = absurd (omega arith)
cut_list at (c ∷ cs) zero h =
    let long : get_or (starts_from (at + length c) cs) 0 0 - at ≡ length c = omega (arith, starts_first (at + length c) cs) in
    let here : at - at ≡ 0 = omega arith in
    rw (long, here) (take-append_seam c (picks_of cs))
cut_list at (c ∷ cs) (suc i) h =
    let next = at + length c in
    let start = get_or (starts_from next cs) i 0 in
    let past : start - at ≡ length c + (start - next) = omega (arith, starts-above next cs i (omega arith)) in
    rw (past, drop-append-add c (picks_of cs) (start - next)) (cut_list next cs i (le_of_suc-le-suc h))

pub pick-list : (cs : List (List ℕ)) (i : ℕ) → i < length cs → take (get_or (starts_of cs) (i + 1) 0 - get_or (starts_of cs) i 0) (drop (get_or (starts_of cs) i 0) (picks_of cs)) ≡ get_or cs i []
unfolding starts_of
pick-list cs i h = rw add-one (subst (λ (k : ℕ). take (get_or (starts_from 0 cs) (suc i) 0 - get_or (starts_from 0 cs) i 0) (drop k (picks_of cs)) ≡ get_or cs i []) (sub-zero (get_or (starts_from 0 cs) i 0)) (cut_list 0 cs i h))

-- ---- what Select writes is sound
pub select-sound : (solutes : List Float) (per : ℕ) (is : List ℕ) → length (kept_copies solutes per is) ≤ max_copies → length (picks_of (kept_copies solutes per is)) ≤ max_picks → sound_lists solutes (starts_of (kept_copies solutes per is)) (picks_of (kept_copies solutes per is)) ≡ true
unfolding sound_lists starts_of
select-sound solutes per is few short =
    let cs = kept_copies solutes per is in
    let p = kept-picked solutes per is in
    rw (starts-sound (starts_of cs) (length (picks_of cs)) (omega (arith, starts-length cs)) (omega (arith, starts-length cs)) (starts-zero cs) (starts-rise p 0) (starts-end cs) short) (joined-finite p)

-- ---- an accepted Select
-- what the limits and the tables' room give of the copies cs
pub record Room (cs : List (List ℕ)) (starts picks : List ℕ) : Type 0 where
  pub few : length cs ≤ max_copies
  pub short : length (picks_of cs) ≤ max_picks
  pub starts_fit : length cs + 1 ≤ length starts
  pub picks-fit : length (picks_of cs) ≤ length picks

pub room-none : (cs : List (List ℕ)) (starts picks : List ℕ) → first_refusal (room_refusals (length cs) (length (picks_of cs)) (length starts) (length picks)) ≡ 0 → Room cs starts picks
unfolding room_refusals
room-none cs starts picks e =
    let five = refuse 5 (ltb max_copies (length cs)) in
    let six = refuse 6 (ltb max_picks (length (picks_of cs))) in
    let seven = refuse 7 (ltb (length starts) (length cs + 1) || ltb (length picks) (length (picks_of cs))) in
    let n5 = first-none five (six ∷ seven ∷ []) (λ h. omega arith) e in
    let n6 = first-none six (seven ∷ []) (λ h. omega arith) n5.1 in
    let n7 = first-none seven [] (λ h. omega arith) n6.1 in
    let room = both-within (length starts) (length cs + 1) (length picks) (length (picks_of cs)) n7.0 in
    record {
      few = ltb-false max_copies (length cs) n5.0;
      short = ltb-false max_picks (length (picks_of cs)) n6.0;
      starts_fit = room.0;
      picks-fit = room.1;
    }

module _ (solutes : List Float) (per : ℕ) (is starts picks : List ℕ) (accepted : select_refusal solutes per is starts picks ≡ 0) where
  pub select-room : Room (kept_copies solutes per is) starts picks
  unfolding select_refusal select_refusals list_refusals lengths counts coordinates
  select-room =
      let cs = kept_copies solutes per is in
      let after = room_refusals (length cs) (length (picks_of cs)) (length starts) (length picks) in
      let n1 = first-none (lengths solutes []) (counts solutes [] is ∷ coordinates solutes [] ∷ after) (λ h. omega arith) accepted in
      let n2 = first-none (counts solutes [] is) (coordinates solutes [] ∷ after) (λ h. omega arith) n1.1 in
      room-none cs starts picks (first-none (coordinates solutes []) after (λ h. omega arith) n2.1).1

  -- the tables' first entries are the pick lists
  pub starts-selected : take (length (kept_copies solutes per is) + 1) (starts_after solutes per is starts picks) ≡ starts_of (kept_copies solutes per is)
  unfolding starts_after over
  starts-selected =
      let cs = kept_copies solutes per is in
      rw accepted (take_at (starts_of cs) (drop (length (starts_of cs)) starts) (length cs + 1) (starts-length cs))

  pub picks-selected : take (length (picks_of (kept_copies solutes per is))) (picks_after solutes per is starts picks) ≡ picks_of (kept_copies solutes per is)
  unfolding picks_after over
  picks-selected =
      let all = picks_of (kept_copies solutes per is) in
      rw accepted (take-append_seam all (drop (length all) picks))

  pub selected-sound : sound_lists solutes (take (length (kept_copies solutes per is) + 1) (starts_after solutes per is starts picks)) (take (length (picks_of (kept_copies solutes per is))) (picks_after solutes per is starts picks)) ≡ true
  selected-sound = rw (starts-selected, picks-selected) (select-sound solutes per is select-room.few select-room.short)
