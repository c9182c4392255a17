use Rattle.std.proofs.Common.{◌∷◌, length}
use Rattle.ql_grammar.specs.declared.keyword.Keyword.TheVariants as keywords
use Rattle.ql_grammar.specs.Classes.{the_keyword}
use Rattle.ql_grammar.specs.steps.Grammar.{facet}
use Rattle.token_grammar.specs.steps.Progress.{TakesRow}
use Rattle.ql_grammar.specs.steps.GoingOn.{facet_goes_on}
use Rattle.ql_grammar.specs.Selects.{IsFacet}
use Rattle.ql_grammar.specs.Alphabet.{sphinxql}
use Rattle.ql_read.proofs.select_parts.facets.Given as goal

abbrev pub invariant-facets : goal.invariant-facets
invariant-facets l = TakesRow sphinxql facet (the_keyword keywords.Facet ∷ facet_goes_on) IsFacet l.fn.input l.facets.items l.input

abbrev pub decreases-facets : goal.decreases-facets
decreases-facets l = length l.input
