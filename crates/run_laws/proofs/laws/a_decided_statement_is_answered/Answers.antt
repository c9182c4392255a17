use Rattle.engine_tables.specs.Workers.{documents_of}
use Rattle.run_laws.proofs.Replying.{answered}
use Rattle.run_laws.proofs.laws.a_decided_statement_is_answered.Goals as goal

pub returns : goal.returns
returns c = λ base worker index confs old new statement event reply decided replies.
    answered (documents_of base) base worker index confs old new statement reply event decided replies
