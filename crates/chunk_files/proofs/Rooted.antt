-- Chunks of a root that keeps the layout.
use Rattle.std.proofs.Common.{◌≡◌, ◌⊎◌, inr, ℕ, suc, ◌+◌, ◌≤◌, ◌<◌, List, [], ◌∷◌, Option, Some, length, refl, sym, ap, subst, arith, All, AllPairs}
use Rattle.std.specs.List.{AllZip}
use Rattle.std.proofs.lemmas.List.Elements.{All-cons, All-head, All-nil, All-tail}
use Rattle.std.proofs.lemmas.List.Kept.{AllPairs-cons}
use Rattle.chunk_store.specs.Images.{Image, Told}
use Rattle.doc_types.specs.declared.documents.DocRow.{DocRow}
use Rattle.doc_types.specs.declared.schema.Schema.{Schema}
use Rattle.doc_types.specs.Schemas.{IsSchema}
use Rattle.doc_types.specs.Snapshots.{IsLayer, LayerValue}
use Rattle.root_slots.specs.States.{AreEntries, AreRows, naming}
use Rattle.root_slots.specs.declared.state.ChunkEntry.{ChunkEntry}
use Rattle.root_slots.specs.declared.state.RootState.{RootState}
use Rattle.store_steps.specs.Damage.{AreBadChunks, HasIdTwice}
use Rattle.store_steps.specs.Directory.{IsChunkOf, layer_from, layers_from}
use Rattle.store_steps.specs.declared.damage.Damage.{Damage}
use Rattle.chunk_files.specs.Reads.{AreRead}
use Rattle.chunk_files.specs.steps.Rests.{AreFront, AscendAll, NoneAgain, ReadsAgain}
use Rattle.chunk_files.proofs.Once.{apart_all}

-- ---- dead rows ascend

low_rows : (low : ℕ) (rows : List ℕ) → AreRows low rows → All (λ row. low ≤ row) rows
low_rows low [] are = All-nil (λ (row : ℕ). low ≤ row)
low_rows low (r ∷ rows) are =
    let here = are.0.later in
    All-cons (λ (row : ℕ). low ≤ row) r rows here (λ k d h. (let more = low_rows (r + 1) rows are.1 k d h in omega (arith, here, more)))

rows_ascend : (low : ℕ) (rows : List ℕ) → AreRows low rows → AllPairs (λ row later. row < later) rows
rows_ascend low [] are = λ i j d l h. absurd (omega (arith, h))
rows_ascend low (r ∷ rows) are = AllPairs-cons (λ (row later : ℕ). row < later) r rows (λ k d h. (let more = low_rows (r + 1) rows are.1 k d h in omega (arith, more))) (rows_ascend (r + 1) rows are.1)

pub ascend_all : (next : ℕ) (named : List ℕ) (entries : List ChunkEntry) → AreEntries next named entries → AscendAll entries
ascend_all next named [] are = All-nil (λ (entry : ChunkEntry). AllPairs (λ (row later : ℕ). row < later) entry.dead)
ascend_all next named (entry ∷ entries) are =
    All-cons (λ (entry : ChunkEntry). AllPairs (λ (row later : ℕ). row < later) entry.dead) entry entries (rows_ascend 0 entry.dead are.0.dead) (ascend_all next (naming named entry) entries are.1)

-- ---- the layers are sound

pub are_layers : (schema : Schema) (through : ℕ) (entries : List ChunkEntry) (chunks : List (List DocRow)) → IsSchema schema → AscendAll entries → AllZip (IsChunkOf schema through) entries chunks → All IsLayer (layers_from entries chunks)
are_layers schema through [] chunks limits up rows = All-nil IsLayer
are_layers schema through (entry ∷ entries) [] limits up rows = absurd rows
are_layers schema through (entry ∷ entries) (rs ∷ chunks) limits up rows =
    All-cons IsLayer (layer_from entry rs) (layers_from entries chunks)
    (record {
      content = record { schema = schema; limits = limits; of = rows.0.of; small = rows.0.small };
      ascend = All-head (λ (entry : ChunkEntry). AllPairs (λ (row later : ℕ). row < later) entry.dead) entry entries up;
      rows = rows.0.dead;
    })
    (are_layers schema through entries chunks limits (All-tail (λ (entry : ChunkEntry). AllPairs (λ (row later : ℕ). row < later) entry.dead) entry entries up) rows.1)

pub as_many : (schema : Schema) (through : ℕ) (entries : List ChunkEntry) (chunks : List (List DocRow)) → AllZip (IsChunkOf schema through) entries chunks → length entries ≡ length (layers_from entries chunks)
as_many schema through [] chunks rows = refl
as_many schema through (entry ∷ entries) [] rows = absurd rows
as_many schema through (entry ∷ entries) (rs ∷ chunks) rows = ap suc (as_many schema through entries chunks rows.1)

-- ---- what was read

pub all_read : (schema : Schema) (state : RootState) (told : Option Image) (entries : List ChunkEntry) (layers : List LayerValue) → entries ≡ state.chunks → (front : AreFront schema state.through entries told layers) → NoneAgain [] entries front.chunks → AreRead schema state told layers
all_read schema state told entries layers are front none =
    subst (λ (es : List ChunkEntry). (front : AreFront schema state.through es told layers) → NoneAgain [] es front.chunks → AreRead schema state told layers) (sym are)
    (λ front none. record {
      chunks = front.chunks;
      are = front.are;
      rows = front.rows;
      files = front.files;
      once = apart_all schema state.through [] state.chunks front.chunks front.rows (λ i j d l h. absurd (omega (arith, h))) none;
    })
    front none

pub twice_read : (schema : Schema) (state : RootState) (told : Option Image) (entries : List ChunkEntry) (layers : List LayerValue) (damage : Damage) → entries ≡ state.chunks → (front : AreFront schema state.through entries told layers) → ReadsAgain schema [] entries front.chunks (Some damage)
    → Told (λ x. AreBadChunks schema state.through x damage state.chunks ⊎ HasIdTwice schema state x damage) told
twice_read schema state told entries layers damage are front again =
    subst (λ (es : List ChunkEntry). (front : AreFront schema state.through es told layers) → ReadsAgain schema [] es front.chunks (Some damage) → Told (λ x. AreBadChunks schema state.through x damage state.chunks ⊎ HasIdTwice schema state x damage) told) (sym are)
    (λ front again image is. inr (record {
      chunks = front.chunks;
      are = record { files = front.files image is; rows = front.rows };
      row = again.0;
      again = again.1;
      kind = ap (λ (d : Damage). d.kind) again.2;
      place = ap (λ (d : Damage). d.place) again.2;
    }))
    front again
