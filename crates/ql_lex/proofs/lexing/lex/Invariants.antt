use Rattle.std.proofs.Common.{◌-◌, length, map}
use Rattle.ql_lex.specs.Tokens.{lexeme_of}
use Rattle.ql_lex.proofs.Readings.{Read}
use Rattle.ql_lex.proofs.lexing.lex.Given as goal

abbrev pub invariant-loop-at : goal.invariant-loop-at
invariant-loop-at l = Read l.text l.at (map lexeme_of l.tokens.items)

abbrev pub decreases-loop-at : goal.decreases-loop-at
decreases-loop-at l = length l.text - l.at
