use Rattle.std.proofs.Common.{ℕ, List, [], ◌∷◌, All, subst, sym}
use Rattle.std.proofs.ResultArms.{chosen}
use Rattle.std.proofs.lemmas.List.Elements.{All-append, All-cons, All-nil}
use Rattle.chunk_store.specs.contracts.memory_disk.MemoryDiskDisk.TheImpl as memory_words
use Rattle.chunk_store.specs.declared.memory_disk.MemoryDisk.{MemoryDisk}
use Rattle.store_keep.specs.Opens.{HidesNothing}
use Rattle.search_vectors.proofs.disks.stores_of.Goals as goal

-- a store of which a crash hides nothing
abbrev IsShown : List ℕ × MemoryDisk → Type 0
IsShown store = HidesNothing memory_words.ghosts store.1

pub loop-index-preserved : goal.loop-index-preserved
loop-index-preserved c =
    let pushed = chosen _ _ _ _ c.push.ensures.items (sym c.in_ok-ok.ensures.variant) in
    subst (All IsShown) (sym pushed) (All-append IsShown c.loop-index.stores.items (c.in_ok-store.store ∷ []) c.loop-index.invariant (All-cons IsShown c.in_ok-store.store [] c.in_ok-store.ensures (All-nil IsShown)))
