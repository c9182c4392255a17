-- What was read of the chunks of a root.
use Rattle.std.specs.Prelude.{◌⊎◌, List, Option, Vec, Result, Ok, Err, All}
use Rattle.std.specs.declared.alloc.Global.{Global}
use Rattle.chunk_files.specs.Reads as chunks
use Rattle.chunk_store.specs.Images.{Image, Told}
use Rattle.doc_types.specs.declared.schema.Schema.{Schema}
use Rattle.doc_types.specs.Snapshots.{IsLayer, LayerValue}
use Rattle.root_slots.specs.declared.state.RootState.{RootState}
use Rattle.store_steps.specs.Damage.{AreBadChunks, HasIdTwice}
use Rattle.store_reads.specs.declared.fault.StoreFault.{StoreFault}
use Rattle.store_reads.specs.declared.fault.StoreFault.TheVariants as faults

-- The layers of a root's chunks were read.
pub record IsBaseRead (schema : Schema) (state : RootState) (told : Option Image) (layers : List LayerValue) : Type 0 where
  pub read : chunks.AreRead schema state told layers
  pub sound : All IsLayer layers

-- what reading them comes to
abbrev pub ReadsBase : Schema → RootState → Option Image → Result (Vec LayerValue Global) StoreFault → Type 0
ReadsBase schema state told (Ok layers) = IsBaseRead schema state told layers.items
ReadsBase schema state told (Err faults.NoMemory) = Unit {0}
ReadsBase schema state told (Err faults.DiskFault) = Unit {0}
ReadsBase schema state told (Err (faults.Damaged damage)) = Told (λ x. AreBadChunks schema state.through x damage state.chunks ⊎ HasIdTwice schema state x damage) told
