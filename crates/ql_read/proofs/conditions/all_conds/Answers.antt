use Rattle.std.proofs.Common.{refl, [], ◌∷◌, ◌++◌, sym, ap, ◌∙◌, subst}
use Rattle.token_grammar.proofs.Rows.{fails_first, fails_with, now_there}
use Rattle.token_grammar.proofs.Lists.{listed_one, listed_more, listed_done, listed_fails}
use Rattle.ql_grammar.specs.declared.keyword.Keyword.TheVariants as keywords
use Rattle.ql_grammar.specs.Classes.{the_keyword}
use Rattle.ql_grammar.specs.steps.Grammar.{cond}
use Rattle.token_grammar.specs.Language.{listed}
use Rattle.ql_grammar.specs.Parts.{IsKeyword}
use Rattle.token_grammar.specs.Values.{AreListed}
use Rattle.token_grammar.specs.Reading.{TakesPart}
use Rattle.token_grammar.specs.steps.Progress.{TakesListed}
use Rattle.ql_grammar.specs.Selects.{IsCond}
use Rattle.ql_grammar.specs.Alphabet.{sphinxql}
use Rattle.ql_read.proofs.conditions.all_conds.Goals as goal

pub returns-in_err-cond : goal.returns-in_err-cond
returns-in_err-cond c = fails_with _ _ c.from_residual.result c.from_residual.ensures.1 (fails_first c.in_err-cond.ensures refl)

pub conds-init : goal.conds-init
conds-init c =
    let is = c.in_ok-push.ensures.items ∙ ap (λ xs. xs ++ c.in_ok-cond.field-0 ∷ []) c.new-conds.ensures.items in
    subst (λ xs. TakesListed sphinxql (the_keyword keywords.And) (IsKeyword keywords.And) cond (the_keyword keywords.And ∷ []) IsCond c.args.input.now xs c.cond.new.input) (sym is) (listed_one c.in_ok-cond.ensures refl)

pub returns-in_err-cond-2 : goal.returns-in_err-cond-2
returns-in_err-cond-2 c = fails_with _ _ c.from_residual-in_err-cond-2.result c.from_residual-in_err-cond-2.ensures.1 (listed_fails c.conds.invariant c.conds-test.ensures.0 c.conds-test.ensures.1 c.in_err-cond-2.ensures refl)

pub conds-preserved : goal.conds-preserved
conds-preserved c =
    subst (λ xs. TakesListed sphinxql (the_keyword keywords.And) (IsKeyword keywords.And) cond (the_keyword keywords.And ∷ []) IsCond c.args.input.now xs c.cond-in-conds.new.input) (sym c.in_ok-push-2.ensures.items) (listed_more c.conds.invariant c.conds-test.ensures.0 c.conds-test.ensures.1 c.in_ok-cond-2.ensures refl)

pub returns : goal.returns
returns c =
    subst (λ xs. TakesPart sphinxql (listed (the_keyword keywords.And) cond) (the_keyword keywords.And ∷ []) (AreListed (IsKeyword keywords.And) IsCond xs) c.args.input.now c.takes_keyword.new.self) (sym c.new.ensures) (now_there c.conds-test.ensures.0 (listed_done c.conds.invariant c.conds-test.ensures.1))
