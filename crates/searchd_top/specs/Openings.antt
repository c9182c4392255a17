-- Stores that were opened for indexes, each as it was given and as it was then.
use Rattle.std.specs.Prelude.{⊤, List, [], ◌∷◌}
use Rattle.std.specs.Arc.{arc_value}
use Rattle.chunk_store.specs.Images.{Told}
use Rattle.chunk_store.specs.declared.disk.Disk.{Ghosts as DiskWords}
use Rattle.index_conf.specs.declared.conf.IndexConf.{IndexConf}
use Rattle.store_keep.specs.Opens.{HidesNothing, IsFoundIn, IsOpened, LeavesBegun}
use Rattle.store_keep.specs.declared.opening.Opened.{Opened}
use Rattle.program_host.specs.Lending.{Lent}

-- What opening leaves of a store: a crash leaves what it might have left before, or the index without documents that was begun.
abbrev pub Leaves : {S : Type 0} → DiskWords S → IndexConf → Lent S → Type 0
Leaves store index lent = HidesNothing store lent.given → LeavesBegun store index.schema lent.given lent.back

-- The store was given and opened for the index: the documents are those that its files stand for.
pub record IsOpenedFrom {S : Type 0} (store : DiskWords S) (index : IndexConf) (given : S) (opened : Opened S) : Type 0 where
  pub found : Told (IsFoundIn index.schema (arc_value opened.snapshot) opened.records) (store.told given)
  pub leaves : Leaves store index (record { given = given; back = opened.disk })
  pub is : IsOpened store index.schema opened

-- So were those of indexes, in their order.
abbrev pub AreOpenedFrom : {S : Type 0} → DiskWords S → List IndexConf → List S → List (Opened S) → Type 0
AreOpenedFrom store [] [] [] = ⊤
AreOpenedFrom store (index ∷ indexes) (given ∷ stores) (opened ∷ others) = IsOpenedFrom store index given opened × AreOpenedFrom store indexes stores others
AreOpenedFrom store indexes stores opened = ⊥
