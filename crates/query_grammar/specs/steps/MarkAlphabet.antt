-- The marks of extended queries, and the classes by which the grammar names them.
use Rattle.token_grammar.specs.Alphabets.{Alphabet}
use Rattle.query_marks.specs.declared.mark.Mark.{Mark}
use Rattle.query_grammar.specs.declared.class.Class.{Class}
use Rattle.query_grammar.specs.steps.Classes.{same_class, fits}
use Rattle.query_grammar.specs.steps.ClassLaws.{some_mark, meeting, inside}

abbrev pub query_marks : Alphabet Class Mark
query_marks = record { fits = fits; meets = same_class; within = same_class; at = λ m. m.at; some = some_mark; meeting = meeting; inside = inside }
