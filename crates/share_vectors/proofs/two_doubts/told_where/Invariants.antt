use Rattle.share_vectors.specs.Users.{plain}
use Rattle.snap_share.specs.Opens.{base_of}
use Rattle.share_vectors.proofs.two_doubts.told_where.Given as goal

-- the store's own books and beginning
abbrev pub ghosts-run : goal.ghosts-run
ghosts-run g a = record {
  book = λ index. a.opened.book.past.seen.book;
  faults = λ index. a.opened.faults.past.seen.book;
  stops = λ index. a.opened.stops.past.seen.book;
  schema = λ index. plain;
  base = λ index. base_of a.opened;
  opened = λ index. record { faults = a.opened.disk.faults; file = a.opened.files.next_file; root = a.opened.files.root.number };
}
