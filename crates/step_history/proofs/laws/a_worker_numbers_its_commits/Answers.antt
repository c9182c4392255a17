use Rattle.step_history.proofs.Counts.{seqs}
use Rattle.step_history.proofs.laws.a_worker_numbers_its_commits.Goals as goal

pub returns : goal.returns
returns c = seqs
