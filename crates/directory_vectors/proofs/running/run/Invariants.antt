use Rattle.store_keep.specs.Opens.{base_of}
use Rattle.directory_vectors.proofs.running.run.Given as goal

-- the store's own books and beginning, and the columns that it was opened with
abbrev pub ghosts-run_opened : goal.ghosts-run_opened
ghosts-run_opened g a = record {
  book = λ index. a.opened.book.past.seen.book;
  faults = λ index. a.opened.faults.past.seen.book;
  stops = λ index. a.opened.stops.past.seen.book;
  schema = λ index. a.schema.now;
  base = λ index. base_of a.opened;
  opened = λ index. record { faults = a.opened.disk.faults; file = a.opened.files.next_file; root = a.opened.files.root.number };
}
