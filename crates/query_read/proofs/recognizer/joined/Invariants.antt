use Rattle.std.proofs.Common.{length}
use Rattle.token_grammar.specs.Language.{one, ◌⨾◌}
use Rattle.query_grammar.specs.steps.QueryGrammar.{leaf}
use Rattle.query_read.proofs.RecognizedRows.{RowRead}
use Rattle.query_read.proofs.recognizer.joined.Given as goal

abbrev pub invariant-leaves : goal.invariant-leaves
invariant-leaves l = RowRead l.fn.class (one l.fn.class ⨾ leaf) l.fn.input l.input

abbrev pub decreases-leaves : goal.decreases-leaves
decreases-leaves l = length l.input
