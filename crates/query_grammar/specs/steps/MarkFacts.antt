-- What holds of the marks of each text.
use Rattle.std.specs.Prelude.{◌≡◌, ◌<◌, List, [], ◌∷◌, true, None, Contains}
use Rattle.query_marks.specs.declared.mark.Mark.{Mark}
use Rattle.query_marks.specs.declared.mark.Sign.TheVariants as signs
use Rattle.query_grammar.specs.steps.Classes.{is_ended}

-- each stands before those after it
abbrev pub Ascend : List Mark → Type 0
Ascend [] = Unit {0}
Ascend (m ∷ marks) = ((n : Mark) → Contains marks n → m.at < n.at) × Ascend marks

-- The last is the end and no other is, they ascend, and nothing is wrong with NOT by itself.
pub record AreOrderly (marks : List Mark) : Type 0 where
  pub ended : is_ended marks ≡ true
  pub ascend : Ascend marks
  pub clean : (m : Mark) → Contains marks m → m.sign ≡ signs.Not → m.wrong ≡ None
