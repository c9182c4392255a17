use Rattle.std.proofs.Common.{refl, ◌∷◌, sym, subst}
use Rattle.token_grammar.proofs.Rows.{fails_with, plain_seq, plain_next, now_there}
use Rattle.token_grammar.proofs.Lists.{row_none, row_more, row_fails, row_done}
use Rattle.ql_grammar.specs.declared.keyword.Keyword.TheVariants as keywords
use Rattle.ql_grammar.specs.Classes.{the_keyword}
use Rattle.ql_grammar.specs.steps.Grammar.{facet}
use Rattle.token_grammar.specs.Language.{many}
use Rattle.token_grammar.specs.Values.{AreInRow}
use Rattle.token_grammar.specs.Reading.{TakesPart}
use Rattle.token_grammar.specs.steps.Progress.{TakesRow}
use Rattle.ql_grammar.specs.steps.GoingOn.{facet_goes_on}
use Rattle.ql_grammar.specs.Selects.{IsFacet}
use Rattle.ql_grammar.specs.Alphabet.{sphinxql}
use Rattle.ql_read.proofs.select_parts.facets.Goals as goal

pub facets-init : goal.facets-init
facets-init c = subst (λ xs. TakesRow sphinxql facet (the_keyword keywords.Facet ∷ facet_goes_on) IsFacet c.args.input.now xs c.args.input.now) (sym c.new-facets.ensures.items) row_none

pub returns-in_err-facet_parts : goal.returns-in_err-facet_parts
returns-in_err-facet_parts c = fails_with _ _ c.from_residual.result c.from_residual.ensures.1 (row_fails c.facets.invariant c.facets-test.ensures.1 (plain_next c.facets-test.ensures.0 c.in_err-facet_parts.ensures) refl)

pub facets-preserved : goal.facets-preserved
facets-preserved c =
    subst (λ xs. TakesRow sphinxql facet (the_keyword keywords.Facet ∷ facet_goes_on) IsFacet c.args.input.now xs c.facet_parts.new.input) (sym c.in_ok-push.ensures.items) (row_more c.facets.invariant c.facets-test.ensures.1 (plain_seq c.facets-test.ensures.0 c.in_ok-facet_parts.ensures) refl)

pub returns : goal.returns
returns c =
    subst (λ xs. TakesPart sphinxql (many facet) (the_keyword keywords.Facet ∷ facet_goes_on) (AreInRow IsFacet xs) c.args.input.now c.takes_keyword.new.self) (sym c.new.ensures) (now_there c.facets-test.ensures.0 (row_done c.facets.invariant c.facets-test.ensures.1 refl))
