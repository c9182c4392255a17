use Rattle.std.proofs.Common.{[]}
use Rattle.token_grammar.proofs.Rows.{any_follows, plain_next}
use Rattle.query_grammar.specs.steps.MarkAlphabet.{query_marks}
use Rattle.query_grammar.specs.steps.QueryGrammar.{leaf}
use Rattle.query_read.proofs.RecognizedRows.{stops_with, taken, part_then, itself, row_goes, row_stops, row_ends}
use Rattle.query_read.proofs.recognizer.joined.Goals as goal

pub leaves-preserved : goal.leaves-preserved
leaves-preserved c = row_goes c.leaves.invariant c.leaves-test.ensures.1 (part_then (taken c.leaves-test.ensures.0) (any_follows query_marks leaf []) c.in_ok-expect.ensures)

pub returns-in_err-expect : goal.returns-in_err-expect
returns-in_err-expect c =
    stops_with _ c.from_residual.result c.from_residual.ensures.1 (row_stops c.leaves.invariant c.leaves-test.ensures.1 (plain_next c.leaves-test.ensures.0 c.in_err-expect.ensures))

pub returns : goal.returns
returns c = row_ends c.leaves.invariant c.leaves-test.ensures.0 c.leaves-test.ensures.1 (itself c.args.class)
