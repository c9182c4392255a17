use Rattle.std.proofs.Common.{[], ◌∷◌, length}
use Rattle.ql_grammar.specs.declared.keyword.Keyword.TheVariants as keywords
use Rattle.ql_grammar.specs.Classes.{the_keyword}
use Rattle.ql_grammar.specs.steps.Grammar.{cond}
use Rattle.ql_grammar.specs.Parts.{IsKeyword}
use Rattle.token_grammar.specs.steps.Progress.{TakesListed}
use Rattle.ql_grammar.specs.Selects.{IsCond}
use Rattle.ql_grammar.specs.Alphabet.{sphinxql}
use Rattle.ql_read.proofs.conditions.all_conds.Given as goal

abbrev pub invariant-conds : goal.invariant-conds
invariant-conds l = TakesListed sphinxql (the_keyword keywords.And) (IsKeyword keywords.And) cond (the_keyword keywords.And ∷ []) IsCond l.fn.input l.conds.items l.input

abbrev pub decreases-conds : goal.decreases-conds
decreases-conds l = length l.input
