-- `selection::select` meets its contract: the lists' refusals, then those of the counts and the tables' room (`SelectRefusals`), then both
-- pick lists. Assumes nothing.
use native.Mathlib.Omega.{arith}
use mathlib.Core.Path.{◌∙◌}
use Rattle.std.proofs.lemmas.Result.{err_from_is_err_and}
use Rattle.base.proofs.FirstRefusal.{accepted-zero}
use Rattle.selection.specs.Selection.{kept_copies}
use Rattle.selection.proofs.SelectRefusals.{list-none, refused-lists, refused-room, answered}
use Rattle.selection.proofs.SoundSelect.{room-none}
use Rattle.selection.proofs.select.Goals as goal

pub returns-in_err-list_refusal : goal.returns-in_err-list_refusal
returns-in_err-list_refusal c =
    let a = c.args in
    let p = err_from_is_err_and c.from_residual.result c.from_residual.ensures.1 in
    let z = refused-lists a.solutes.now a.per a.indices.now a.starts.now a.picks.now _ c.in_err-list_refusal.ensures in
    record { answer = rw (p.1, p.2) z.0; starts_after = z.1.0; picks_after = z.1.1 }

pub count-n-requires : goal.count-n-requires
count-n-requires c = list-none _ _ (accepted-zero _ c.in_ok-list_refusal.ensures)

-- a refusal for want of room is the answer,
-- and no table is changed
pub returns-in_err-room_refusal : goal.returns-in_err-room_refusal
returns-in_err-room_refusal c =
    let a = c.args in
    let n = c.count-n in
    let q = err_from_is_err_and c.from_residual-in_err-room_refusal.result c.from_residual-in_err-room_refusal.ensures.1 in
    let y = refused-room a.solutes.now a.per a.indices.now a.starts.now a.picks.now (accepted-zero _ c.in_ok-list_refusal.ensures) n.result.copies n.result.picks n.ensures.0 n.ensures.1 _ c.in_err-room_refusal.ensures in
    record { answer = rw (q.1, q.2) y.0; starts_after = y.1.0; picks_after = y.1.1 }

pub fill-requires : goal.fill-requires
fill-requires c =
    let a = c.args in
    let n = c.count-n.ensures in
    let few = list-none _ _ (accepted-zero _ c.in_ok-list_refusal.ensures) in
    let room = room-none (kept_copies a.solutes.now a.per a.indices.now) a.starts.now a.picks.now (rw (← n.0, ← n.1) (accepted-zero _ c.in_ok-room_refusal.ensures)) in
    record { xs_len_bound = omega arith; indices_in_bounds = omega arith }

pub returns : goal.returns
returns c =
    let a = c.args in
    let n = c.count-n in
    let f = c.fill.ensures in
    let z = answered a.solutes.now a.per a.indices.now a.starts.now a.picks.now (accepted-zero _ c.in_ok-list_refusal.ensures) n.result.copies n.result.picks n.ensures.0 n.ensures.1 c.in_ok-room_refusal.ensures in
    record { answer = z.0; starts_after = f.starts_after ∙ z.1.0; picks_after = f.picks_after ∙ z.1.1 }
