use Rattle.std.proofs.Common.{Bool, sym, subst}
use Rattle.ql_grammar.specs.Classes.{the_sign}
use Rattle.ql_grammar.specs.Parts.{IsSign}
use Rattle.token_grammar.specs.Reading.{TakesIf}
use Rattle.ql_read.proofs.Steps.{takes_sign}
use Rattle.ql_grammar.specs.Alphabet.{sphinxql}
use Rattle.ql_read.proofs.cursor.TokenCursor.takes_sign.Goals as goal

pub returns-then-found : goal.returns-then-found
returns-then-found c =
    subst (λ (b : Bool). TakesIf sphinxql (the_sign c.args.sign) (IsSign c.args.sign) c.args.self.now b c.skip.new.self) (sym c.if-found.true) (takes_sign c.if-found.ensures c.skip.ensures.next, c.if-found.ensures)
