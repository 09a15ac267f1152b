-- What was read is an input, and its text is what was written.
use Rattle.std.proofs.Common.{◌≡◌, rules, length, take, sym, ap, ◌∙◌, subst, take_all, take_at}
use Rattle.std.specs.Io.KnownBytes.{Appends}
use Rattle.base.specs.Tables.{over}
use Rattle.block_text.specs.Printed.{printed}
use Rattle.frame_io.proofs.Known.{of_input}
use Rattle.frame_io.proofs.put_frame.Goals as goal

pub returns-clause-length : goal.returns-clause-length
returns-clause-length g c =
    let buffer = c.read_full.new.buf in
    let held = take c.in_ok-n.n buffer in
    record { input = held; all = (c.put_input-m.ensures.text held (sym (take_all (length buffer) held (search (rules, c.in_ok-n.ensures.bound.0))))).0 }

pub returns-clause-count : goal.returns-clause-count
returns-clause-count g c =
    let read = c.in_ok-n.ensures in
    of_input _ _ c.read_full.new.buf c.in_ok-n.n (λ s. c.put_input-m.result ≡ length (printed s)) read.bound.0 read.bytes read.end
    (λ s h. (c.put_input-m.ensures.text s h).0)

pub returns-clause-text : goal.returns-clause-text
unfolding over
returns-clause-text g c =
    let read = c.in_ok-n.ensures in
    of_input _ _ c.read_full.new.buf c.in_ok-n.n _ read.bound.0 read.bytes read.end
    (λ s h.
    let (long, after) = c.put_input-m.ensures.text s h in
    subst (Appends _ _) (ap (take c.put_input-m.result) after ∙ take_at (printed s) _ c.put_input-m.result (sym long)) c.in_ok-write_all.ensures.bytes)
