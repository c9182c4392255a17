use Rattle.line_workers.proofs.Standing.{alone, alone_noted}
use Rattle.line_workers.proofs.laws.a_worker_alone_sees_its_commits.Goals as goal

pub returns-clause-own : goal.returns-clause-own
returns-clause-own c = alone

pub returns-clause-noted : goal.returns-clause-noted
returns-clause-noted c = alone_noted
