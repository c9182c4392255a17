use Rattle.reshape_laws.proofs.Jobs.{follows}
use Rattle.reshape_laws.proofs.laws.a_job_follows.Goals as goal

pub returns : goal.returns
returns c = follows
