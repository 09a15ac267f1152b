-- What is left to prove of `paste`. Assumes nothing.
use Rattle.std.proofs.Common.{sym, ◌∙◌, arith}
use lib.Seq.{take_all}
use Rattle.octants.proofs.Selecting.{copied}
use Rattle.octants.proofs.paste.Goals as goal

pub loop-i-preserved : goal.loop-i-preserved
loop-i-preserved c = copied c.loop-i.dst c.args.src.now c.loop-i.i (omega arith) (omega arith) c.loop-i.invariant

pub returns : goal.returns
returns c = let d = c.loop-i.auto.dst in sym (take_all c.loop-i.i c.loop-i.dst (omega arith)) ∙ c.loop-i.invariant ∙ take_all c.loop-i.i c.args.src.now (omega arith)
