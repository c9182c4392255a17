use Rattle.charset_map.specs.Spans.{folded}
use Rattle.query_marks.proofs.LetterSteps.{Folds}
use Rattle.query_marks.proofs.words.letters.Given as goal

abbrev pub invariant-loop-c : goal.invariant-loop-c
invariant-loop-c l = Folds (folded l.charset) l.characters l.c-index l.escaped l.letters.items
