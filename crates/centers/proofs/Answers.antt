-- What each `return` of Centers answers and leaves. Assumes nothing.
use mathlib.Core.Path.{◌≡◌, refl, sym, ◌∙◌}
use mathlib.Core.List.{List, [], ◌∷◌}
use Prim.Native.Nat.{◌*◌, ◌≤◌, ◌<◌}
use lib.Dec.{ltb}
use lib.ListN.{length}
use lib.Ieee.{Float}
use borrow.Author.Tests.{lt-ltb, le-ltb}
use Rattle.std.proofs.Common.{Result, Ok, Err, ap}
use Rattle.std.specs.Bool.{⊤}
use Rattle.base.specs.declared.Refused.{Refused}
use Rattle.base.specs.Refusals.{Refusal, refuse, first_refusal, refusal_of, refused, answer_of}
use Rattle.base.specs.Tables.{over}
use Rattle.base.proofs.FirstRefusal.{first-hit, first-skip, append-refused, append-passed, refused-number, at-refusal}
use Rattle.pick_lists.specs.Sound.{copies}
use Rattle.pick_lists.specs.Input.{Input, input_refusals}
use Rattle.pick_lists.proofs.InputRefusals.{input-numbered}
use Rattle.centers.specs.Centers.{centers_of, centers_refusal, centers_after}

-- ---- Centers: the input's refusals first, then 7
module _ (f : Input) (t : List Float) where
  room : List Refusal
  room = refuse 7 (ltb (length t) (copies f.starts * 3)) ∷ []

  -- the answer r and the table afterwards are Centers'
  abbrev pub Answers : Result ⊤ Refused → List Float → Type 0
  Answers r t' = (r ≡ answer_of (centers_refusal f t)) × (t' ≡ centers_after f t)

  -- a refusal leaves the table
  left : (e : Refused) → Err e ≡ answer_of (centers_refusal f t) → Answers (Err e) t
  unfolding centers_after
  left e h = (h, sym (at-refusal (centers_refusal f t) (over (centers_of f) t) t (refused-number e (centers_refusal f t) h).0))

  pub centers-input : (e : Refused) → Err e ≡ answer_of (first_refusal (input_refusals f)) → Answers (Err e) t
  unfolding centers_refusal room
  centers-input e h = left e (append-refused (input_refusals f) room (input-numbered f) e h)

  -- without one the table's length decides
  module _ {u : ⊤} (passed : Ok u ≡ answer_of (first_refusal (input_refusals f))) where
    centers-room : centers_refusal f t ≡ first_refusal room
    unfolding centers_refusal room
    centers-room = append-passed (input_refusals f) room (input-numbered f) passed

    pub centers-short : length t < copies f.starts * 3 → Answers (refused 7) t
    unfolding room
    centers-short h = left (refusal_of 7) (sym (ap answer_of (centers-room ∙ first-hit (refuse 7 (ltb (length t) (copies f.starts * 3))) [] (lt-ltb (length t) (copies f.starts * 3) h))))

    -- with room for them the centers are left
    pub centers-fit : copies f.starts * 3 ≤ length t → Answers (Ok tt) (over (centers_of f) t)
    unfolding first_refusal room centers_after
    centers-fit h =
        let none = centers-room ∙ first-skip (refuse 7 (ltb (length t) (copies f.starts * 3))) [] (le-ltb (length t) (copies f.starts * 3) h) in
        rw none (refl, refl)
