use Rattle.std.proofs.Common.{length, ◌-◌}
use Rattle.ql_lex.proofs.Searching.{Searched}
use Rattle.ql_lex.proofs.texts.text_end.Given as goal

abbrev pub invariant-pieces : goal.invariant-pieces
invariant-pieces l = Searched l.quote l.text l.from l.at

abbrev pub decreases-pieces : goal.decreases-pieces
decreases-pieces l = length l.text - l.at
