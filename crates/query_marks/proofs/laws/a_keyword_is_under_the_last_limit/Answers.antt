use Rattle.query_marks.proofs.LastLimits.{under_last_limit}
use Rattle.query_marks.proofs.PieceMarks.{each_mark}
use Rattle.query_marks.proofs.laws.a_keyword_is_under_the_last_limit.Goals as goal

pub returns-clause-limits : goal.returns-clause-limits
returns-clause-limits c = under_last_limit

pub returns-clause-pieces : goal.returns-clause-pieces
returns-clause-pieces c = each_mark
