-- `frame_tests::is_blank` meets its contract: the five tests are the definition's. Assumes nothing.
use Rattle.frame_tests.specs.Tests.{is_blank}
use Rattle.frame_tests.proofs.is_blank.Goals as goal

pub returns : goal.returns
unfolding is_blank
returns c = rw c.is_valid.ensures
