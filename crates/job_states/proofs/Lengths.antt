-- The state of a job is short: it has few chunks, and few rows of these are dead.
use Rattle.std.proofs.Common.{◌≡◌, ℕ, ◌+◌, ◌*◌, ◌<◌, ◌≤◌, ◌^◌, List, [], ◌∷◌, ◌++◌, Option, Some, None, length, length-append, refl, arith, All}
use Rattle.std.specs.Int.{w16, w32, to_le_bytes}
use Rattle.std.specs.List.{flat_map}
use Rattle.std.proofs.lemmas.List.Elements.{All-append, All-cons, All-filter, All-head, All-nil, All-tail}
use Rattle.doc_types.specs.Snapshots.{IsLayer, LayerValue, SnapshotValue}
use Rattle.doc_types.proofs.Living.{all_rows}
use Rattle.job_chunks.specs.Chunks.{HasFewRows}
use Rattle.reshape_laws.specs.Rebasing.{staying}
use Rattle.root_slots.specs.States.{chunks_bytes, entry_bytes, most_chunks, numbers_bytes, state_bytes, text_bytes}
use Rattle.root_slots.specs.declared.state.ChunkEntry.{ChunkEntry}
use Rattle.root_slots.specs.declared.state.RootState.{RootState}
use Rattle.step_history.specs.declared.job.Job.{Job}
use Rattle.step_history.specs.declared.job.Job.TheVariants.{Flush, Optimize}
use Rattle.step_history.specs.Places.{disk_layers}
use Rattle.job_states.specs.States.{kept_entries, new_entries, with_dead}

abbrev HasFewDead : ChunkEntry → Type 0
HasFewDead entry = 20 * length entry.dead ≤ 536870912

-- ---- how many chunks

with_dead_count : (entries : List ChunkEntry) (layers : List LayerValue) → length (with_dead entries layers) ≤ length layers
with_dead_count [] layers = omega arith
with_dead_count (entry ∷ entries) [] = omega arith
with_dead_count (entry ∷ entries) (layer ∷ layers) = omega (arith, with_dead_count entries layers)

kept_count : (job : Job) (entries : List ChunkEntry) (from : SnapshotValue) → length (kept_entries job entries from) ≤ length (staying job from)
kept_count Flush entries from = with_dead_count entries (disk_layers from)
kept_count Optimize entries from = omega arith

pub few_entries : (job : Job) (entries : List ChunkEntry) (from : SnapshotValue) (file : ℕ) (chunk : Option (List ℕ)) → length (staying job from) + length (new_entries file chunk) ≤ most_chunks → length (kept_entries job entries from ++ new_entries file chunk) ≤ most_chunks
few_entries job entries from file chunk few = omega (arith, few, kept_count job entries from, length-append (kept_entries job entries from) (new_entries file chunk))

-- ---- how many dead rows

with_dead_few : (entries : List ChunkEntry) (layers : List LayerValue) → All IsLayer layers → All (λ (layer : LayerValue). HasFewRows layer.rows) layers → All HasFewDead (with_dead entries layers)
with_dead_few [] layers is short = All-nil HasFewDead
with_dead_few (entry ∷ entries) [] is short = All-nil HasFewDead
with_dead_few (entry ∷ entries) (layer ∷ layers) is short =
    let rows : HasFewRows layer.rows = All-head (λ (l : LayerValue). HasFewRows l.rows) layer layers short in
    All-cons HasFewDead (record { file = entry.file; length = entry.length; dead = layer.dead }) (with_dead entries layers) (omega (arith, rows, all_rows layer (All-head IsLayer layer layers is)))
    (with_dead_few entries layers (All-tail IsLayer layer layers is) (All-tail (λ (l : LayerValue). HasFewRows l.rows) layer layers short))

kept_few : (job : Job) (entries : List ChunkEntry) (from : SnapshotValue) → All IsLayer from.layers → All (λ (layer : LayerValue). HasFewRows layer.rows) from.layers → All HasFewDead (kept_entries job entries from)
kept_few Flush entries from is short =
    with_dead_few entries (disk_layers from) (All-filter (λ (layer : LayerValue). layer.disk) IsLayer from.layers is) (All-filter (λ (layer : LayerValue). layer.disk) (λ (layer : LayerValue). HasFewRows layer.rows) from.layers short)
kept_few Optimize entries from is short = All-nil HasFewDead

new_few : (file : ℕ) (chunk : Option (List ℕ)) → All HasFewDead (new_entries file chunk)
new_few file None = All-nil HasFewDead
new_few file (Some bytes) = All-cons HasFewDead (record { file = file; length = length bytes; dead = [] }) [] (omega arith) (All-nil HasFewDead)

pub few_dead_rows : (job : Job) (entries : List ChunkEntry) (from : SnapshotValue) (file : ℕ) (chunk : Option (List ℕ)) → All IsLayer from.layers → All (λ (layer : LayerValue). HasFewRows layer.rows) from.layers → All HasFewDead (kept_entries job entries from ++ new_entries file chunk)
few_dead_rows job entries from file chunk is short = All-append HasFewDead (kept_entries job entries from) (new_entries file chunk) (kept_few job entries from is short) (new_few file chunk)

-- ---- how many bytes

rows_size : (rows : List ℕ) → length (flat_map (to_le_bytes w32) rows) ≡ 4 * length rows
rows_size [] = omega arith
rows_size (row ∷ rows) = omega (arith, length-append (to_le_bytes w32 row) (flat_map (to_le_bytes w32) rows), rows_size rows)

entry_size : (entry : ChunkEntry) → length (entry_bytes entry) ≡ 12 + 4 * length entry.dead
entry_size entry = omega (arith, rows_size entry.dead)

entries_size : (entries : List ChunkEntry) → All HasFewDead entries → length (flat_map entry_bytes entries) ≤ 107374194 * length entries
entries_size [] few = omega arith
entries_size (entry ∷ entries) few =
    let here : HasFewDead entry = All-head HasFewDead entry entries few in
    omega (arith, length-append (entry_bytes entry) (flat_map entry_bytes entries), entry_size entry, here, entries_size entries (All-tail HasFewDead entry entries few))

chunks_size : (entries : List ChunkEntry) → length (chunks_bytes entries) ≡ 2 + length (flat_map entry_bytes entries)
chunks_size entries = omega (arith, length-append (to_le_bytes w16 (length entries)) (flat_map entry_bytes entries))

text_size : (text : List ℕ) → length (text_bytes text) ≡ 2 + length text
text_size text = omega (arith, length-append (to_le_bytes w16 (length text)) text)

numbers_size : (s : RootState) → length (numbers_bytes s) ≡ 20
numbers_size s = refl

pub state_short : (s : RootState) → length s.schema_text < 2 ^ 16 → length s.chunks ≤ most_chunks → All HasFewDead s.chunks → length (state_bytes s) < 2 ^ 32
state_short s text few dead =
    omega (arith, text, few, entries_size s.chunks dead, chunks_size s.chunks, text_size s.schema_text, numbers_size s, length-append (text_bytes s.schema_text ++ numbers_bytes s) (chunks_bytes s.chunks), length-append (text_bytes s.schema_text) (numbers_bytes s))
