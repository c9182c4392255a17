use Rattle.std.proofs.Common.{All}
use Rattle.chunk_store.specs.contracts.memory_disk.MemoryDiskDisk.TheImpl as memory_words
use Rattle.store_keep.specs.Opens.{HidesNothing}
use Rattle.search_vectors.proofs.disks.stores_of.Given as goal

abbrev pub invariant-loop-index : goal.invariant-loop-index
invariant-loop-index l = All (λ store. HidesNothing memory_words.ghosts store.1) l.stores.items
