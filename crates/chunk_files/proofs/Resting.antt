-- Chunks that are read one after the other.
use Rattle.std.proofs.Common.{◌≡◌, inl, inr, ℕ, arith, List, [], ◌∷◌, ◌++◌, Option, Some, None, Vec, Ok, Err, refl, sym, ◌∙◌, subst}
use Rattle.std.specs.declared.alloc.Global.{Global}
use Rattle.std.specs.List.{AllZip}
use Rattle.srch_base.specs.declared.faults.Or.TheVariants as causes
use Rattle.chunk_store.specs.Calls.{Finds, OnlyReads}
use Rattle.chunk_store.specs.declared.disk.Disk.{Ghosts as DiskWords}
use Rattle.chunk_store.specs.Images.{Image, Told}
use Rattle.doc_types.specs.declared.documents.DocRow.{DocRow}
use Rattle.doc_types.specs.declared.schema.Schema.{Schema}
use Rattle.doc_types.specs.Snapshots.{LayerValue}
use Rattle.root_slots.specs.declared.state.ChunkEntry.{ChunkEntry}
use Rattle.store_steps.specs.Damage.{AreBadChunks, IsBadFile}
use Rattle.store_steps.specs.Directory.{IsChunkFile, IsChunkOf}
use Rattle.store_steps.specs.declared.damage.Damage.{Damage}
use Rattle.chunk_files.specs.declared.fault.ChunkFault.TheVariants as faults
use Rattle.chunk_files.specs.steps.Files.{ReadsFile, file_of}
use Rattle.chunk_files.specs.steps.Rests.{ReadsOne}

-- ---- chunks one after the other

-- chunks that were read, and behind them one that is wrong
pub bad-behind : (schema : Schema) (through : ℕ) (x : Image) (damage : Damage) (before behind : List ChunkEntry) (chunks : List (List DocRow)) → AllZip (IsChunkFile schema x) before chunks → AllZip (IsChunkOf schema through) before chunks → AreBadChunks schema through x damage behind → AreBadChunks schema through x damage (before ++ behind)
bad-behind schema through x damage [] behind chunks files rows bad = bad
bad-behind schema through x damage (entry ∷ before) behind [] files rows bad = absurd files
bad-behind schema through x damage (entry ∷ before) behind (rs ∷ chunks) files rows bad = inr (rs, files.0, rows.0, bad-behind schema through x damage before behind chunks files.1 rows.1 bad)

-- ---- one file

pub one_read : (schema : Schema) (through : ℕ) (entry : ChunkEntry) (told : Option Image) (file : Option (List ℕ)) (layer : LayerValue) → Told (λ image. image entry.file ≡ file) told → ReadsFile schema through entry file (Ok layer) → ReadsOne schema through entry told (Ok layer)
one_read schema through entry told file layer found (rows, is, read) = (
  rows,
  is,
  record { of = read.are.of; small = read.are.small; zones = read.are.zones; dead = read.dead; born = read.born },
  λ image at. record { bytes = read.bytes; is = found image at ∙ read.is; size = read.are.size; image = read.are.image },
)

pub one_bad : (schema : Schema) (through : ℕ) (entry : ChunkEntry) (told : Option Image) (file : Option (List ℕ)) (damage : Damage) → Told (λ image. image entry.file ≡ file) told → ReadsFile schema through entry file (Err (causes.Fault damage)) → ReadsOne schema through entry told (Err (causes.Fault (faults.Damaged damage)))
one_bad schema through entry told file damage found (same, bad) = (same, λ image at. subst (λ (f : Option (List ℕ)). IsBadFile schema through entry damage.kind damage.place f) (sym (found image at)) bad)

found_is : (found : Option (Vec ℕ Global)) (file : Option (List ℕ)) → Finds found file → file ≡ file_of found
found_is None file is = is
found_is (Some bytes) file is = is

pub finds_file : (found : Option (Vec ℕ Global)) (file : ℕ) (told : Option Image) → Told (λ image. Finds found (image file)) told → Told (λ image. image file ≡ file_of found) told
finds_file found file told finds = λ image is. found_is found (image file) (finds image is)

-- nothing was read yet, and nothing was looked at
pub looks_same : {D : Type 0} (words : DiskWords D) (disk : D) → OnlyReads words disk disk
looks_same words disk = record { same = refl; later = omega arith; now = λ x left. left; since = λ t x le left. inl left }
