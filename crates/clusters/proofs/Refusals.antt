-- What Open answers and leaves, test by test. Assumes nothing.
use mathlib.Core.Path.{◌≡◌, refl, sym, ap, ◌∙◌}
use mathlib.Core.Bool.{Bool, true, false}
use mathlib.Core.List.{List}
use Prim.Native.Nat.{ℕ, ◌≤◌, ◌<◌}
use native.Mathlib.Omega.{arith}
use native.Mathlib.Decide.{dec_le}
use lib.ListN.{length}
use lib.Ieee.{Float, binary32, to_bits}
use Rattle.std.proofs.Common.{Ok}
use borrow.Author.Tests.{lt-ltb, le-ltb}
use Rattle.base.specs.Limits.{max_copies}
use Rattle.base.specs.Refusals.{first_refusal, refused, answer_of}
use Rattle.base.proofs.FirstRefusal.{answer-hit, at-refusal, at_none}
use Rattle.cell.specs.Reach.{reach, sound_reach}
use Rattle.cluster_table.specs.Table.{words, opened}
use Rattle.clusters.specs.Answers.{open_refusals, open_refusal, open_after}

module _ (n : ℕ) (k : Float) (t : List ℕ) where
  refuses : (r : ℕ) → (r ≡ 0 → ⊥) → open_refusal n k t ≡ r → (refused r ≡ answer_of (open_refusal n k t)) × (t ≡ open_after n k t)
  unfolding open_after
  refuses r m e =
      (sym (ap answer_of e ∙ answer-hit r m), sym (at-refusal (open_refusal n k t) (opened n (to_bits binary32 k) t) t (λ z. m (sym e ∙ z))))

  five : max_copies < n → open_refusal n k t ≡ 5
  unfolding open_refusal open_refusals first_refusal
  five l = rw (lt-ltb max_copies n l)

  sixteen : n ≤ max_copies → sound_reach k ≡ false → open_refusal n k t ≡ 16
  unfolding open_refusal open_refusals reach first_refusal
  sixteen l s = rw (le-ltb max_copies n l, s)

  seven : n ≤ max_copies → sound_reach k ≡ true → length t < words n → open_refusal n k t ≡ 7
  unfolding open_refusal open_refusals reach first_refusal
  seven l s h = rw (le-ltb max_copies n l, s, lt-ltb (length t) (words n) h)

  pub open-many : max_copies < n → (refused 5 ≡ answer_of (open_refusal n k t)) × (t ≡ open_after n k t)
  open-many l = refuses 5 (λ z. omega arith) (five l)

  pub open-unreached : n ≤ max_copies → sound_reach k ≡ false → (refused 16 ≡ answer_of (open_refusal n k t)) × (t ≡ open_after n k t)
  open-unreached l s = refuses 16 (λ z. omega arith) (sixteen l s)

  pub open-short : n ≤ max_copies → sound_reach k ≡ true → length t < words n → (refused 7 ≡ answer_of (open_refusal n k t)) × (t ≡ open_after n k t)
  open-short l s h = refuses 7 (λ z. omega arith) (seven l s h)

  pub open_none : n ≤ max_copies → sound_reach k ≡ true → words n ≤ length t → open_refusal n k t ≡ 0
  unfolding open_refusal open_refusals reach first_refusal
  open_none l s h = rw (le-ltb max_copies n l, s, le-ltb (length t) (words n) h)

  pub open-taken : n ≤ max_copies → sound_reach k ≡ true → words n ≤ length t → (x : List ℕ) → x ≡ opened n (to_bits binary32 k) t
      → (Ok tt ≡ answer_of (open_refusal n k t)) × (x ≡ open_after n k t)
  unfolding open_after
  open-taken l s h x e =
      (sym (ap answer_of (open_none l s h)), e ∙ sym (at_none (open_refusal n k t) (opened n (to_bits binary32 k) t) t (open_none l s h)))

  -- an accepted Open had room, and a cutoff within its bounds
  pub open-room : open_refusal n k t ≡ 0 → (n ≤ max_copies) × (sound_reach k ≡ true) × (words n ≤ length t)
  open-room e = go (dec_le n max_copies) (sound_reach k) refl (dec_le (words n) (length t))
    where
      go : Dec (n ≤ max_copies) → (b : Bool) → sound_reach k ≡ b → Dec (words n ≤ length t) → (n ≤ max_copies) × (sound_reach k ≡ true) × (words n ≤ length t)
      go (yes l) true s (yes h) = (l, s, h)
      go (yes l) true s (no h) = absurd (omega (arith, seven l s (omega arith), e))
      go (yes l) false s d = absurd (omega (arith, sixteen l s, e))
      go (no l) b s d = absurd (omega (arith, five (omega arith), e))

-- Open asks only for the table's length
pub open-same : (n : ℕ) (k : Float) (t u : List ℕ) → length t ≡ length u → open_refusal n k t ≡ open_refusal n k u
unfolding open_refusal open_refusals
open-same n k t u e = rw e
