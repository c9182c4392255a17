use Rattle.std.proofs.Common.{[], false}
use Rattle.step_book.specs.Tellings.{nothing_opened}
use Rattle.share_vectors.proofs.calls.each_call_once.Given as goal

-- the books that were just made, and an index without documents
abbrev pub ghosts-calls : goal.ghosts-calls
ghosts-calls g a = record {
  book = λ index. a.opened.steps.past.seen.book;
  faults = λ index. a.opened.faults.past.seen.book;
  stops = λ index. a.opened.stops.past.seen.book;
  schema = λ index. record { name = []; fields = []; attrs = []; zones = []; sp = false; min_prefix = 0 };
  base = λ index. record { opening = record { number = 0; shape = 0; layers = [] }; log = 0 };
  opened = λ index. nothing_opened;
}
