use Rattle.std.proofs.Common.{◌≡◌, Bool, sym, subst, true}
use Rattle.token_grammar.specs.Reading.{TakesIf}
use Rattle.token_grammar.specs.Values.{IsOne}
use Rattle.query_marks.specs.declared.mark.Mark.{Mark}
use Rattle.query_grammar.specs.steps.Classes.{fits}
use Rattle.query_grammar.specs.steps.MarkAlphabet.{query_marks}
use Rattle.query_read.proofs.MarkTaken.{mark_taken, no_end}
use Rattle.query_read.proofs.cursor.MarkCursor.takes.Goals as goal

pub skip-requires : goal.skip-requires
skip-requires c = no_end c.requires c.if-found.ensures

pub returns-then-found : goal.returns-then-found
returns-then-found c =
    subst (λ (b : Bool). TakesIf query_marks c.args.class (IsOne {T = Mark} (λ m. fits c.args.class m ≡ true)) c.args.self.now b c.skip.new.self) (sym c.if-found.true) (mark_taken c.if-found.ensures c.skip.ensures, c.if-found.ensures)
