use Rattle.doc_tokens.proofs.MaximalRuns.{segments_signs, segments_maximal}
use Rattle.doc_tokens.proofs.laws.segments_are_maximal_runs.Goals as goal

pub returns-clause-all : goal.returns-clause-all
returns-clause-all c = segments_signs

pub returns-clause-maximal : goal.returns-clause-maximal
returns-clause-maximal c = segments_maximal
