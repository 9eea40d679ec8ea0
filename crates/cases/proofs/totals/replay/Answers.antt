use Rattle.std.proofs.Common.{refl}
use Rattle.util.specs.Text.{bytes_of}
use Rattle.cases.specs.Cases.{missing_line}
use Rattle.cases.proofs.Counting.{if_ok, if_err}
use Rattle.cases.proofs.totals.replay.Goals as goal

pub returns-in_default-clause-missing : goal.returns-in_default-clause-missing
unfolding missing_line bytes_of
returns-in_default-clause-missing g c = if_err _ _ _ c.in_default.is (c.write.ensures.bytes, refl)

pub returns-clause-found : goal.returns-clause-found
returns-clause-found g c = if_ok _ _ _ c.in-Ok.is c.replay_opened.ensures
