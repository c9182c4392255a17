use Rattle.std.proofs.Common.{length}
use Rattle.ql_answers.proofs.found.+push_facets.Given as goal

abbrev pub decreases-push_facets : goal.decreases-push_facets
decreases-push_facets l = length l.columns.now
