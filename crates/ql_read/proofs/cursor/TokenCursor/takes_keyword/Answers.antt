use Rattle.std.proofs.Common.{Bool, sym, subst}
use Rattle.ql_grammar.specs.Classes.{the_keyword}
use Rattle.ql_grammar.specs.Parts.{IsKeyword}
use Rattle.token_grammar.specs.Reading.{TakesIf}
use Rattle.ql_read.proofs.Steps.{takes_keyword}
use Rattle.ql_grammar.specs.Alphabet.{sphinxql}
use Rattle.ql_read.proofs.cursor.TokenCursor.takes_keyword.Goals as goal

pub returns-then-found : goal.returns-then-found
returns-then-found c =
    subst (λ (b : Bool). TakesIf sphinxql (the_keyword c.args.keyword) (IsKeyword c.args.keyword) c.args.self.now b c.skip.new.self) (sym c.if-found.true) (takes_keyword c.if-found.ensures c.skip.ensures.next, c.if-found.ensures)
