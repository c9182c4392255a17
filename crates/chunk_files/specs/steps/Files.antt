-- What reading the file of one chunk comes to.
use Rattle.std.specs.Prelude.{◌≡◌, ◌⊎◌, ℕ, ◌<◌, ◌≤◌, List, Option, Some, Vec, Result, Ok, Err, All, length, nat_lt}
use Rattle.std.specs.declared.alloc.Global.{Global}
use Rattle.std.specs.List.{position}
use Rattle.std.specs.Option.{option_map}
use Rattle.srch_base.specs.declared.faults.Or.{Or}
use Rattle.srch_base.specs.declared.faults.Or.TheVariants as causes
use Rattle.chunk_damage.specs.Header.{row_at}
use Rattle.doc_types.specs.declared.documents.DocRow.{DocRow}
use Rattle.doc_types.specs.declared.schema.Schema.{Schema}
use Rattle.doc_types.specs.Snapshots.{LayerValue}
use Rattle.root_slots.specs.declared.state.ChunkEntry.{ChunkEntry}
use Rattle.store_steps.specs.Damage.{AreBytesOf, IsBadFile}
use Rattle.store_steps.specs.Directory.{layer_from}
use Rattle.store_steps.specs.declared.damage.Damage.{Damage}
use Rattle.store_steps.specs.declared.damage.DamageKind.{DamageKind}
use Rattle.store_steps.specs.declared.damage.DamageKind.TheVariants as kinds

-- the bytes of a file that was found
abbrev pub file_of : Option (Vec ℕ Global) → Option (List ℕ)
file_of found = option_map (λ bytes. bytes.items) found

abbrev pub damaged : ℕ → ℕ → DamageKind → Damage
damaged file place kind = record { file = file; place = place; kind = kind }

-- The file has the image of these rows, which the root's entry fits.
pub record IsRead (schema : Schema) (through : ℕ) (entry : ChunkEntry) (file : Option (List ℕ)) (rows : List DocRow) : Type 0 where
  pub bytes : List ℕ
  pub is : file ≡ Some bytes
  pub are : AreBytesOf schema entry rows bytes
  pub dead : All (λ row. row < length rows) entry.dead
  pub born : All (λ row. row.born ≤ through) rows

-- what a chunk's file is read as
abbrev pub ReadsFile : Schema → ℕ → ChunkEntry → Option (List ℕ) → Result LayerValue (Or Damage) → Type 0
ReadsFile schema through entry file (Ok layer) = (rows : List DocRow) × (layer ≡ layer_from entry rows) × IsRead schema through entry file rows
ReadsFile schema through entry file (Err causes.NoMemory) = Unit {0}
ReadsFile schema through entry file (Err (causes.Fault damage)) = (damage.file ≡ entry.file) × IsBadFile schema through entry damage.kind damage.place file

-- what the rows of an image come to, by the root's entry
abbrev pub Fits : Schema → ℕ → ChunkEntry → List DocRow → Result LayerValue (Or Damage) → Type 0
Fits schema through entry rows (Ok layer) = (layer ≡ layer_from entry rows) × All (λ row. row < length rows) entry.dead × All (λ row. row.born ≤ through) rows
Fits schema through entry rows (Err causes.NoMemory) = Unit {0}
Fits schema through entry rows (Err (causes.Fault damage)) =
    ((damage ≡ damaged entry.file 0 kinds.DeadRows) × (All (λ row. row < length rows) entry.dead → ⊥))
    ⊎ (All (λ row. row < length rows) entry.dead × ((row : ℕ) × (position (λ row. nat_lt through row.born) rows ≡ Some row) × (damage ≡ damaged entry.file (row_at schema row) kinds.Born)))
