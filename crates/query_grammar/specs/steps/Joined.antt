-- Where a group can't begin, how deep it may be: after SENTENCE and PARAGRAPH, which join leaves alone.
use Rattle.std.specs.Prelude.{List, [], ◌∷◌, Bool, false, ◌||◌}
use Rattle.query_marks.specs.declared.mark.Mark.{Mark}
use Rattle.query_grammar.specs.declared.class.Class.TheVariants as classes
use Rattle.query_grammar.specs.steps.Classes.{fits}

-- it joins the leaf before it with the one after it
abbrev pub is_joining : Mark → Bool
is_joining m = fits classes.Sentence m || fits classes.Paragraph m

-- the last mark joins leaves
abbrev pub ends_joined : List Mark → Bool
ends_joined [] = false
ends_joined (m ∷ []) = is_joining m
ends_joined (m ∷ n ∷ marks) = ends_joined (n ∷ marks)
