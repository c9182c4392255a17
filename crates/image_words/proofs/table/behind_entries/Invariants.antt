use Rattle.image_words.proofs.HeadReading.{Skipped}
use Rattle.image_words.proofs.table.behind_entries.Given as goal

abbrev pub invariant-entries : goal.invariant-entries
invariant-entries l = Skipped l.postings l.at l.place l.counter
