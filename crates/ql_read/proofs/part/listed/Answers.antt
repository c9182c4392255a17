use Rattle.std.proofs.Common.{[], ◌∷◌, ◌++◌, sym, ap, ◌∙◌, subst}
use Rattle.ql_grammar.specs.Classes.{the_sign}
use Rattle.token_grammar.specs.Reading.{TakesPart}
use Rattle.token_grammar.specs.steps.Progress.{TakesListed}
use Rattle.token_grammar.specs.Language.{listed}
use Rattle.ql_grammar.specs.Parts.{IsSign}
use Rattle.token_grammar.specs.Values.{AreListed}
use Rattle.token_grammar.proofs.Rows.{fails_first, fails_with, now_there}
use Rattle.token_grammar.proofs.Lists.{listed_one, listed_more, listed_done, listed_fails}
use Rattle.ql_grammar.specs.Alphabet.{sphinxql}
use Rattle.ql_read.proofs.part.listed.Goals as goal

pub returns-in_err-read : goal.returns-in_err-read
returns-in_err-read g c = fails_with _ _ c.from_residual.result c.from_residual.ensures.1 (fails_first c.in_err-read.ensures c.requires)

pub parts-init : goal.parts-init
parts-init g c =
    let is = c.in_ok-push.ensures.items ∙ ap (λ xs. xs ++ c.in_ok-read.field-0 ∷ []) c.new-list.ensures.items in
    subst (λ xs. TakesListed sphinxql (the_sign c.args.sign) (IsSign c.args.sign) g.P.Part.grammar (the_sign c.args.sign ∷ g.P.Part.goes_on) g.P.Part.is c.args.input.now xs c.read.new.input) (sym is) (listed_one c.in_ok-read.ensures c.requires)

pub returns-in_err-read-2 : goal.returns-in_err-read-2
returns-in_err-read-2 g c = fails_with _ _ c.from_residual-in_err-read-2.result c.from_residual-in_err-read-2.ensures.1 (listed_fails c.parts.invariant c.parts-test.ensures.0 c.parts-test.ensures.1 c.in_err-read-2.ensures c.requires)

pub parts-preserved : goal.parts-preserved
parts-preserved g c =
    subst (λ xs. TakesListed sphinxql (the_sign c.args.sign) (IsSign c.args.sign) g.P.Part.grammar (the_sign c.args.sign ∷ g.P.Part.goes_on) g.P.Part.is c.args.input.now xs c.read-in-parts.new.input) (sym c.in_ok-push-2.ensures.items) (listed_more c.parts.invariant c.parts-test.ensures.0 c.parts-test.ensures.1 c.in_ok-read-2.ensures c.requires)

pub returns : goal.returns
returns g c = subst (λ xs. TakesPart sphinxql (listed (the_sign c.args.sign) g.P.Part.grammar) (the_sign c.args.sign ∷ g.P.Part.goes_on) (AreListed (IsSign c.args.sign) g.P.Part.is xs) c.args.input.now c.takes_sign.new.self) (sym c.new.ensures) (now_there c.parts-test.ensures.0 (listed_done c.parts.invariant c.parts-test.ensures.1))
