use Rattle.std.proofs.Common.{refl, ap, ◌∙◌}
use Rattle.token_grammar.specs.Reading.{first_place}
use Rattle.query_grammar.specs.steps.MarkAlphabet.{query_marks}
use Rattle.token_grammar.proofs.Rows.{takes_as, fails_at}
use Rattle.query_marks.specs.declared.mark.Sign.TheVariants as signs
use Rattle.query_grammar.specs.declared.class.Class.TheVariants as classes
use Rattle.query_read.proofs.SignSteps.{takes_as_sign}
use Rattle.query_read.proofs.reader.closed.Goals as goal

pub returns-then-takes : goal.returns-then-takes
returns-then-takes c = takes_as (λ u h. (refl, h)) (takes_as_sign classes.Close signs.Close (λ s e. e) c.if-takes.ensures.0)

pub returns-else-takes : goal.returns-else-takes
returns-else-takes c = fails_at c.if-takes.ensures.1 (c.place.ensures ∙ ap (first_place query_marks) c.if-takes.ensures.0)
