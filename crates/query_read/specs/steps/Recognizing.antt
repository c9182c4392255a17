-- What the recognizers answer, which build nothing.
use Rattle.std.specs.Prelude.{◌≡◌, ◌⊎◌, ℕ, List, [], Bool, true, false, Result, Ok, Err}
use Rattle.srch_base.specs.declared.faults.Or.TheVariants.{Fault}
use Rattle.token_grammar.specs.Language.{Re, one, In}
use Rattle.token_grammar.specs.Reading.{TakesPart, FailsPart, IsNextOf}
use Rattle.query_marks.specs.declared.mark.Mark.{Mark}
use Rattle.query_grammar.specs.declared.class.Class.{Class}
use Rattle.query_grammar.specs.steps.MarkAlphabet.{query_marks}

-- a part of the grammar has been read, by a text of it
abbrev pub Recognized : Re Class → List Class → List Mark → List Mark → Type 0
Recognized r goes_on before now = TakesPart query_marks r goes_on (In query_marks r) before now

-- A recognizer of the part r answered so: the place is where reading stops, whatever follows the part.
abbrev pub Recognizes : Re Class → List Class → List Mark → Result (Unit {0}) ℕ → List Mark → Type 0
Recognizes r goes_on before (Ok done) now = Recognized r goes_on before now
Recognizes r goes_on before (Err place) now = FailsPart query_marks r goes_on before (Fault place)

-- the next mark was of the class, and was taken
abbrev pub Taken : Class → List Mark → List Mark → Type 0
Taken c before now = Recognized (one c) [] before now × IsNextOf query_marks c before true

-- Whether the next mark was of one of two classes: then it was taken.
abbrev pub TakesEither : Class → Class → List Mark → Bool → List Mark → Type 0
TakesEither c d before true now = Taken c before now ⊎ Taken d before now
TakesEither c d before false now = (now ≡ before) × IsNextOf query_marks c before false × IsNextOf query_marks d before false
