-- `paste` meets its contract. After i turns the first i entries are the source's. Assumes nothing.
use Rattle.std.proofs.Common.{◌≡◌, take}
use Rattle.octants.proofs.paste.Given as goal

abbrev pub invariant-loop-i : goal.invariant-loop-i
invariant-loop-i l = take l.i l.dst ≡ take l.i l.src
