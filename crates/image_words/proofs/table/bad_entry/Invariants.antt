use Rattle.image_words.proofs.TableReading.{Entered}
use Rattle.image_words.proofs.table.bad_entry.Given as goal

abbrev pub invariant-words : goal.invariant-words
invariant-words l = Entered l.table l.postings l.rows l.dictionary l.at l.last l.word l.list
