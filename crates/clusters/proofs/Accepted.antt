-- What input has that none of 1, 2, 3, 4, 15 and 8 refuses, with a cutoff that 16 does not. Assumes nothing.
use mathlib.Core.Path.{◌≡◌}
use mathlib.Core.Bool.{true}
use lib.Ieee.{Float}
use Rattle.base.specs.Refusals.{first_refusal}
use Rattle.cell.specs.Reach.{sound_reach}
use Rattle.pick_lists.specs.Sound.{sound_lists}
use Rattle.pick_lists.specs.Input.{Input, input_refusals}
use Rattle.pick_lists.proofs.SoundLists.{Lists, sound-lists}
use Rattle.pick_lists.proofs.InputRefusals.{input-accepted}
use Rattle.gates.specs.Inner.{tested}
use Rattle.gates.proofs.Axes.{tested-frame}

module _ (f : Input) (h : first_refusal (input_refusals f) ≡ 0) where
  pub accepted-sound : sound_lists f.solutes f.starts f.picks ≡ true
  accepted-sound = (input-accepted f h).1

  pub accepted-lists : Lists f.solutes f.starts f.picks
  accepted-lists = sound-lists f.solutes f.starts f.picks accepted-sound

  pub accepted-tested : (k : Float) → sound_reach k ≡ true → tested f.cell k f.solutes ≡ true
  accepted-tested k = tested-frame f.cell k f.solutes f.waters (input-accepted f h).0
