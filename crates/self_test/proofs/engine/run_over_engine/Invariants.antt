use Rattle.chunk_store.specs.contracts.memory_disk.MemoryDiskDisk.TheImpl as memory
use Rattle.store_keep.specs.Opens.{base_of, opening_of}
use Rattle.self_test.proofs.engine.run_over_engine.Given as goal

-- the store's own books, columns and beginning, and what its disk had counted
abbrev pub ghosts-run_over_store : goal.ghosts-run_over_store
ghosts-run_over_store g a = record {
  book = λ place. a.store.book.past.seen.book;
  faults = λ place. a.store.faults.past.seen.book;
  stops = λ place. a.store.stops.past.seen.book;
  schema = λ place. a.index.schema;
  base = λ place. base_of a.store;
  opened = λ place. opening_of memory.ghosts a.store;
}
