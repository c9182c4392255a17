-- What reading chunks two at a time comes to.
use Rattle.std.specs.Prelude.{◌≡◌, ◌⊎◌, ℕ, List, [], ◌∷◌, ◌++◌, Option, Result, Ok, Err}
use Rattle.srch_base.specs.declared.faults.Or.{Or}
use Rattle.srch_base.specs.declared.faults.Or.TheVariants as causes
use Rattle.chunk_store.specs.Images.{Image}
use Rattle.doc_types.specs.declared.schema.Schema.{Schema}
use Rattle.doc_types.specs.Snapshots.{LayerValue}
use Rattle.root_slots.specs.declared.state.ChunkEntry.{ChunkEntry}
use Rattle.store_steps.specs.declared.damage.Damage.{Damage}
use Rattle.chunk_files.specs.declared.fault.ChunkFault.{ChunkFault}
use Rattle.chunk_files.specs.declared.fault.ChunkFault.TheVariants as faults
use Rattle.chunk_files.specs.steps.Files.{ReadsFile}
use Rattle.chunk_files.specs.steps.Rests.{AreFront, Refuses}

-- what is wrong with a chunk, among the faults of chunks
abbrev pub chunk_fault : Or Damage → Or ChunkFault
chunk_fault causes.NoMemory = causes.NoMemory
chunk_fault (causes.Fault damage) = causes.Fault (faults.Damaged damage)

-- A fault isn't damage.
abbrev pub IsCause : {T : Type 0} → Result T (Or ChunkFault) → Type 0
IsCause (Err (causes.Fault (faults.Damaged damage))) = ⊥
IsCause result = Unit {0}

-- Of this fault and what is wrong with the file of a chunk before, the first is told.
abbrev pub IsFirstFault : Schema → ℕ → ChunkEntry → Option (List ℕ) → Or ChunkFault → Or ChunkFault → Type 0
IsFirstFault schema through entry file fault told = (told ≡ fault) ⊎ ((sooner : Or Damage) × ReadsFile schema through entry file (Err sooner) × (told ≡ chunk_fault sooner))

-- what checking two files comes to
abbrev pub ReadsBoth : Schema → ℕ → ChunkEntry → ChunkEntry → Option (List ℕ) → Option (List ℕ) → Result (LayerValue × LayerValue) (Or Damage) → Type 0
ReadsBoth schema through first second file other (Ok layers) = ReadsFile schema through first file (Ok layers.0) × ReadsFile schema through second other (Ok layers.1)
ReadsBoth schema through first second file other (Err fault) =
    ReadsFile schema through first file (Err fault) ⊎ ((layer : LayerValue) × ReadsFile schema through first file (Ok layer) × ReadsFile schema through second other (Err fault))

-- what reading two chunks comes to
abbrev pub ReadsTwo : Schema → ℕ → ChunkEntry → ChunkEntry → Option Image → Result (LayerValue × LayerValue) (Or ChunkFault) → Type 0
ReadsTwo schema through first second told (Ok layers) = AreFront schema through (first ∷ second ∷ []) told (layers.0 ∷ layers.1 ∷ [])
ReadsTwo schema through first second told (Err fault) = Refuses schema through (first ∷ second ∷ []) told fault

-- what reading chunks comes to, whose layers are put behind others
abbrev pub ReadsMore : Schema → ℕ → List ChunkEntry → Option Image → List LayerValue → List LayerValue → Result Unit (Or ChunkFault) → Type 0
ReadsMore schema through entries told old new (Ok done) = (more : List LayerValue) × (new ≡ old ++ more) × AreFront schema through entries told more
ReadsMore schema through entries told old new (Err fault) = Refuses schema through entries told fault
