use Rattle.query_pieces.proofs.ByteRuns.{ends_last}
use Rattle.query_pieces.proofs.operators.read_quoted.Goals as goal

pub returns-else-to-text-clause-ends : goal.returns-else-to-text-clause-ends
returns-else-to-text-clause-ends c = ends_last c.args.text.now c.args.at c.requires.within
