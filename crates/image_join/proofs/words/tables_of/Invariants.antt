use Rattle.image_join.proofs.Merged.{AreMerged}
use Rattle.image_join.proofs.words.tables_of.Given as goal

abbrev pub invariant-words : goal.invariant-words
invariant-words g l = AreMerged l.parts l.numbers l.nexts.items l.tables
