use Rattle.std.proofs.Common.{length, ◌-◌, get_or}
use Rattle.ql_lex.proofs.Unescaping.{Resolving}
use Rattle.ql_lex.proofs.values.put_text.Given as goal

abbrev pub invariant-pieces : goal.invariant-pieces
invariant-pieces l = Resolving (get_or l.token 0 0) l.inner l.fn.out.items l.at l.out

abbrev pub decreases-pieces : goal.decreases-pieces
decreases-pieces l = length l.inner - l.at
