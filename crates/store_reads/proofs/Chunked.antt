-- Chunks of a root as layers, over which logs are laid.
use Rattle.std.proofs.Common.{◌≡◌, ℕ, suc, ◌+◌, ◌≤◌, List, [], ◌∷◌, true, not, Option, Some, refl, sym, ap, subst, map, length, All}
use Rattle.std.specs.List.{AllZip, enumerate_from, filter}
use Rattle.std.proofs.lemmas.List.Elements.{All-append, All-cons, All-filter, All-head, All-map, All-nil, All-tail}
use Rattle.chunk_files.specs.Reads as read
use Rattle.chunk_store.specs.Images.{Image}
use Rattle.doc_types.specs.declared.documents.DocRow.{DocRow}
use Rattle.doc_types.specs.declared.schema.Schema.{Schema}
use Rattle.doc_types.specs.Documents.{AreRowsOf}
use Rattle.doc_types.specs.Snapshots.{LayerValue, all_living, is_dead, living}
use Rattle.root_slots.specs.declared.state.ChunkEntry.{ChunkEntry}
use Rattle.root_slots.specs.declared.state.RootState.{RootState}
use Rattle.store_steps.specs.Directory.{IsChunkOf, layers_from}
use Rattle.store_reads.specs.steps.Pieces.{AreChunks}

-- ---- what holds of the rows of a layer holds of those that live

all_seconds : (P : DocRow → Type 0) (n : ℕ) (rows : List DocRow) → All P rows → All (λ (e : ℕ × DocRow). P e.1) (enumerate_from n rows)
all_seconds P n [] all = All-nil (λ (e : ℕ × DocRow). P e.1)
all_seconds P n (row ∷ rows) all = All-cons (λ (e : ℕ × DocRow). P e.1) (n, row) (enumerate_from (n + 1) rows) (All-head P row rows all) (all_seconds P (n + 1) rows (All-tail P row rows all))

all_of : (P : DocRow → Type 0) (layer : LayerValue) → All P layer.rows → All P (living layer)
all_of P layer all =
    All-map P (λ (e : ℕ × DocRow). e.1) (filter (λ (e : ℕ × DocRow). not (is_dead layer e.0)) (enumerate_from 0 layer.rows))
    (All-filter (λ (e : ℕ × DocRow). not (is_dead layer e.0)) (λ (e : ℕ × DocRow). P e.1) (enumerate_from 0 layer.rows) (all_seconds P 0 layer.rows all))

-- ---- layers of entries

module _ (schema : Schema) (through : ℕ) where
  abbrev Old : DocRow → Type 0
  Old row = row.born ≤ through

  on_disk : (entries : List ChunkEntry) (chunks : List (List DocRow)) → AllZip (IsChunkOf schema through) entries chunks → All (λ layer. layer.disk ≡ true) (layers_from entries chunks)
  on_disk [] chunks are = All-nil (λ (layer : LayerValue). layer.disk ≡ true)
  on_disk (entry ∷ entries) [] are = absurd are
  on_disk (entry ∷ entries) (rows ∷ chunks) are =
      All-cons (λ (layer : LayerValue). layer.disk ≡ true) (record { rows = rows; disk = true; dead = entry.dead }) (layers_from entries chunks) refl (on_disk entries chunks are.1)

  all_old : (entries : List ChunkEntry) (chunks : List (List DocRow)) → AllZip (IsChunkOf schema through) entries chunks → All Old (all_living (layers_from entries chunks))
  all_old [] chunks are = All-nil Old
  all_old (entry ∷ entries) [] are = absurd are
  all_old (entry ∷ entries) (rows ∷ chunks) are =
      let layer : LayerValue = record { rows = rows; disk = true; dead = entry.dead } in
      All-append Old (living layer) (all_living (layers_from entries chunks)) (all_of Old layer are.0.born) (all_old entries chunks are.1)

  all_rows : (entries : List ChunkEntry) (chunks : List (List DocRow)) → AllZip (IsChunkOf schema through) entries chunks → All (λ layer. AreRowsOf schema layer.rows) (layers_from entries chunks)
  all_rows [] chunks are = All-nil (λ (layer : LayerValue). AreRowsOf schema layer.rows)
  all_rows (entry ∷ entries) [] are = absurd are
  all_rows (entry ∷ entries) (rows ∷ chunks) are =
      All-cons (λ (layer : LayerValue). AreRowsOf schema layer.rows) (record { rows = rows; disk = true; dead = entry.dead }) (layers_from entries chunks) are.0.of (all_rows entries chunks are.1)

  pub rows_back : (entries : List ChunkEntry) (chunks : List (List DocRow)) → AllZip (IsChunkOf schema through) entries chunks → map (λ layer. layer.rows) (layers_from entries chunks) ≡ chunks
  rows_back [] [] are = refl
  rows_back [] (rows ∷ chunks) are = absurd are
  rows_back (entry ∷ entries) [] are = absurd are
  rows_back (entry ∷ entries) (rows ∷ chunks) are = ap (λ (l : List (List DocRow)). rows ∷ l) (rows_back entries chunks are.1)

  pub as_many : (entries : List ChunkEntry) (chunks : List (List DocRow)) → AllZip (IsChunkOf schema through) entries chunks → length chunks ≡ length entries
  as_many [] [] are = refl
  as_many [] (rows ∷ chunks) are = absurd are
  as_many (entry ∷ entries) [] are = absurd are
  as_many (entry ∷ entries) (rows ∷ chunks) are = ap suc (as_many entries chunks are.1)

-- logs may be laid over them
pub are_chunks : (schema : Schema) (state : RootState) (told : Option Image) (layers : List LayerValue) → read.AreRead schema state told layers → AreChunks schema state.through layers
are_chunks schema state told layers base = record {
  disk = subst (All (λ (layer : LayerValue). layer.disk ≡ true)) (sym base.are) (on_disk schema state.through state.chunks base.chunks base.rows);
  old = subst (λ (ls : List LayerValue). All (λ (row : DocRow). row.born ≤ state.through) (all_living ls)) (sym base.are) (all_old schema state.through state.chunks base.chunks base.rows);
  of = subst (All (λ (layer : LayerValue). AreRowsOf schema layer.rows)) (sym base.are) (all_rows schema state.through state.chunks base.chunks base.rows);
}
