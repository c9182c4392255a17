use Rattle.std.proofs.Common.{◌≡◌, Bool, true, sym, subst, nat_eq}
use Rattle.std.proofs.lemmas.Bool.{eq-eqb}
use Rattle.token_grammar.specs.Reading.{TakesIf}
use Rattle.token_grammar.specs.Values.{IsOne}
use Rattle.rank_expr.specs.declared.mark.Mark.{Mark}
use Rattle.rank_expr.specs.steps.Classes.{fits}
use Rattle.rank_expr.specs.steps.MarkAlphabet.{expr_marks}
use Rattle.rank_expr.proofs.MarkSigns.{mark_taken, next_numbered}
use Rattle.rank_expr.proofs.cursor.MarkCursor.takes.Goals as goal

pub returns-then-found : goal.returns-then-found
returns-then-found c =
    let found : nat_eq c.number_of.result c.number_of-2.result ≡ true = eq-eqb c.number_of.result c.number_of-2.result c.if-found.true in
    let n = next_numbered c.args.class true c.sign-sign.ensures c.number_of.ensures c.class_of.ensures c.number_of-2.ensures found in
    subst (λ (b : Bool). TakesIf expr_marks c.args.class (IsOne {T = Mark} (λ m. fits c.args.class m ≡ true)) c.args.self.now b c.skip.new.self) (sym found) (mark_taken n c.skip.ensures, n)
