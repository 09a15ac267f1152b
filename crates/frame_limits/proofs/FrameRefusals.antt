-- The frame's refusals: one chain of tests, and what a frame with none of them has. Layers above join their own refusals to these
-- (`first-append`, with `frame-numbered`). Assumes nothing.
use mathlib.Core.Path.{◌≡◌, refl, sym, ◌∙◌}
use mathlib.Core.Bool.{Bool, true, false, cond, not, ◌&&◌, ◌||◌}
use mathlib.Core.List.{List, [], ◌∷◌}
use Prim.Native.Nat.{ℕ, zero, suc}
use lib.Dec.{ltb, eqb}
use lib.ListN.{length}
use lib.Ieee.{Float}
use native.Mathlib.Omega.{arith}
use borrow.Author.Tests.{ne_eqb}
use Rattle.cell.specs.declared.Cell.{Cell}
use Rattle.cell.specs.Cell.{valid}
use Rattle.std.proofs.Common.{Ok, Err, ap}
use Rattle.std.specs.Bool.{⊤}
use Rattle.base.specs.declared.Refused.{Refused}
use Rattle.base.specs.Refusals.{first_refusal, answer_of}
use Rattle.frame_limits.specs.Limits.{lengths, counts, bounds, coordinates, validity, limit_refusals, frame_refusals, ragged, long, long_indices, bound_over, any_over, max_coordinate}
use Rattle.base.proofs.FirstRefusal.{numbered, first-none, first-append, append-refused, append-passed}
use Rattle.base.proofs.Tests.{neither}

pub limit-numbered : (c : Cell) (solutes waters : List Float) (indices : List ℕ) → numbered (limit_refusals c solutes waters indices) ≡ true
unfolding numbered limit_refusals lengths counts bounds coordinates
limit-numbered c solutes waters indices = refl

pub frame-numbered : (c : Cell) (solutes waters : List Float) → numbered (frame_refusals c solutes waters) ≡ true
unfolding numbered frame_refusals limit_refusals lengths counts bounds coordinates validity
frame-numbered c solutes waters = refl

-- the tests in the order of their refusals
pub limit-chain : (c : Cell) (solutes waters : List Float) (indices : List ℕ) → first_refusal (limit_refusals c solutes waters indices) ≡ cond (ragged solutes || ragged waters) 1 (cond (long solutes || (long waters || ltb 256 (length indices))) 2 (cond (bound_over c) 3 (cond (any_over max_coordinate solutes || any_over max_coordinate waters) 4 0)))
unfolding first_refusal limit_refusals lengths counts bounds coordinates long_indices
limit-chain c solutes waters indices = refl

-- the limits, and where none of them refuses whether the cell is valid
pub frame-chain : (c : Cell) (solutes waters : List Float)
    → first_refusal (frame_refusals c solutes waters)
    ≡ cond (eqb (first_refusal (limit_refusals c solutes waters [])) 0 && not (valid c)) 15 (first_refusal (limit_refusals c solutes waters []))
unfolding frame_refusals validity first_refusal
frame-chain c solutes waters =
    first-append (limit_refusals c solutes waters []) (validity c ∷ []) (limit-numbered c solutes waters [])
    ∙ as_one (first_refusal (limit_refusals c solutes waters [])) (not (valid c))
  where
    as_one : (r : ℕ) (b : Bool) → cond (eqb r 0) (cond b 15 0) r ≡ cond (eqb r 0 && b) 15 r
    as_one zero b = refl
    as_one (suc r) b = rw (ne_eqb (suc r) 0 (λ z. omega arith))

-- what `frame_refusal` answers: what the limits refuse with, 15, or acceptance
module _ (c : Cell) (solutes waters : List Float) where
  pub frame-limit : (e : Refused) → Err e ≡ answer_of (first_refusal (limit_refusals c solutes waters [])) → Err e ≡ answer_of (first_refusal (frame_refusals c solutes waters))
  unfolding frame_refusals
  frame-limit e h = append-refused (limit_refusals c solutes waters []) (validity c ∷ []) (limit-numbered c solutes waters []) e h

  pub frame-cell : {u : ⊤} (v : Bool) → v ≡ valid c → Ok u ≡ answer_of (first_refusal (limit_refusals c solutes waters [])) → first_refusal (frame_refusals c solutes waters) ≡ cond v 0 15
  unfolding frame_refusals validity first_refusal
  frame-cell v e h = append-passed (limit_refusals c solutes waters []) (validity c ∷ []) (limit-numbered c solutes waters []) h ∙ rw (← e) (by-validity v)
    where
      by-validity : (b : Bool) → let n : ℕ = cond (not b) 15 0 in n ≡ cond b 0 15
      by-validity true = refl
      by-validity false = refl

-- what a frame has that none of 1, 2, 3 and 4 refuses
pub record Within (c : Cell) (solutes waters : List Float) (indices : List ℕ) : Type 0 where
  pub solutes-whole : ragged solutes ≡ false
  pub waters-whole : ragged waters ≡ false
  pub solutes-few : long solutes ≡ false
  pub waters-few : long waters ≡ false
  pub bounds-within : bound_over c ≡ false
  pub solutes-within : any_over max_coordinate solutes ≡ false
  pub waters-within : any_over max_coordinate waters ≡ false
  pub indices-few : long_indices indices ≡ false

pub limit-none : (c : Cell) (solutes waters : List Float) (indices : List ℕ) → first_refusal (limit_refusals c solutes waters indices) ≡ 0 → Within c solutes waters indices
unfolding limit_refusals lengths counts bounds coordinates
limit-none c solutes waters indices e =
    let n1 = first-none (lengths solutes waters) (counts solutes waters indices ∷ bounds c ∷ coordinates solutes waters ∷ []) (λ h. omega arith) e in
    let n2 = first-none (counts solutes waters indices) (bounds c ∷ coordinates solutes waters ∷ []) (λ h. omega arith) n1.1 in
    let n3 = first-none (bounds c) (coordinates solutes waters ∷ []) (λ h. omega arith) n2.1 in
    let n4 = first-none (coordinates solutes waters) [] (λ h. omega arith) n3.1 in
    let whole = neither (ragged solutes) (ragged waters) n1.0 in
    let few = neither (long solutes) (long waters || long_indices indices) n2.0 in
    let fewer = neither (long waters) (long_indices indices) few.1 in
    let within = neither (any_over max_coordinate solutes) (any_over max_coordinate waters) n4.0 in
    record {
      solutes-whole = whole.0;
      waters-whole = whole.1;
      solutes-few = few.0;
      waters-few = fewer.0;
      bounds-within = n3.0;
      solutes-within = within.0;
      waters-within = within.1;
      indices-few = fewer.1;
    }

-- what a frame has that none of 1, 2, 3, 4 and 15 refuses
pub record Accepted (c : Cell) (solutes waters : List Float) : Type 0 where
  pub solutes-whole : ragged solutes ≡ false
  pub waters-whole : ragged waters ≡ false
  pub solutes-few : long solutes ≡ false
  pub waters-few : long waters ≡ false
  pub bounds-within : bound_over c ≡ false
  pub solutes-within : any_over max_coordinate solutes ≡ false
  pub waters-within : any_over max_coordinate waters ≡ false
  pub cell-valid : valid c ≡ true

-- neither a limit nor an invalid cell
none_of : (r : ℕ) (b : Bool) → cond (eqb r 0 && not b) 15 r ≡ 0 → (r ≡ 0) × (b ≡ true)
none_of zero true e = (refl, refl)
none_of zero false e = absurd (omega arith)
none_of (suc r) b e = absurd (omega (arith, rw (ne_eqb (suc r) 0 (λ z. omega arith)) at e))

pub frame-none : (c : Cell) (solutes waters : List Float) → first_refusal (frame_refusals c solutes waters) ≡ 0 → Accepted c solutes waters
frame-none c solutes waters e =
    let n = none_of (first_refusal (limit_refusals c solutes waters [])) (valid c) (sym (frame-chain c solutes waters) ∙ e) in
    let w = limit-none c solutes waters [] n.0 in
    record {
      solutes-whole = w.solutes-whole;
      waters-whole = w.waters-whole;
      solutes-few = w.solutes-few;
      waters-few = w.waters-few;
      bounds-within = w.bounds-within;
      solutes-within = w.solutes-within;
      waters-within = w.waters-within;
      cell-valid = n.1;
    }

-- a valid cell within the limits, with its solutes alone
pub within-solutes : (c : Cell) (solutes waters : List Float) (indices : List ℕ) → Within c solutes waters indices → valid c ≡ true → first_refusal (frame_refusals c solutes []) ≡ 0
unfolding ragged long any_over
within-solutes c solutes waters indices w v = frame-chain c solutes [] ∙ rw (none, v)
  where
    none : first_refusal (limit_refusals c solutes [] []) ≡ 0
    none = limit-chain c solutes [] [] ∙ rw (w.solutes-whole, w.solutes-few, w.bounds-within, w.solutes-within)
