use Rattle.std.proofs.Common.{◌∷◌, length}
use Rattle.ql_grammar.specs.Classes.{the_sign}
use Rattle.ql_grammar.specs.Parts.{IsSign}
use Rattle.token_grammar.specs.steps.Progress.{TakesListed}
use Rattle.ql_grammar.specs.Alphabet.{sphinxql}
use Rattle.ql_read.proofs.part.listed.Given as goal

abbrev pub invariant-parts : goal.invariant-parts
invariant-parts g l = TakesListed sphinxql (the_sign l.sign) (IsSign l.sign) g.P.Part.grammar (the_sign l.sign ∷ g.P.Part.goes_on) g.P.Part.is l.fn.input l.list.items l.input

abbrev pub decreases-parts : goal.decreases-parts
decreases-parts g l = length l.input
