use Rattle.std.proofs.Common.{ap, ◌∙◌}
use Rattle.token_grammar.specs.Reading.{first_place}
use Rattle.token_grammar.proofs.Rows.{fails_at}
use Rattle.query_grammar.specs.steps.MarkAlphabet.{query_marks}
use Rattle.query_read.proofs.RecognizedRows.{taken}
use Rattle.query_read.proofs.recognizer.expect.Goals as goal

pub returns-then-takes : goal.returns-then-takes
returns-then-takes c = taken c.if-takes.ensures.0

pub returns-else-takes : goal.returns-else-takes
returns-else-takes c = fails_at c.if-takes.ensures.1 (c.place.ensures ∙ ap (first_place query_marks) c.if-takes.ensures.0)
