-- The marks of ranking expressions, and the classes by which the grammar names them.
use Rattle.token_grammar.specs.Alphabets.{Alphabet}
use Rattle.rank_expr.specs.declared.mark.Mark.{Mark}
use Rattle.rank_expr.specs.declared.class.Class.{Class}
use Rattle.rank_expr.specs.steps.Classes.{same_class, fits}
use Rattle.rank_expr.specs.steps.ClassLaws.{some_mark, meeting, inside}

abbrev pub expr_marks : Alphabet Class Mark
expr_marks = record { fits = fits; meets = same_class; within = same_class; at = λ m. m.at; some = some_mark; meeting = meeting; inside = inside }
