use Rattle.query_pieces.proofs.operators.read_fields_from.Goals as goal

pub returns-in-Some-clause-ends : goal.returns-in-Some-clause-ends
returns-in-Some-clause-ends c = c.limited-in-Some.ensures.ends c.args.at c.in-Some.ensures.ends
