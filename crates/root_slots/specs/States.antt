-- States as bytes. Numbers have the low byte first.
use Rattle.std.specs.Prelude.{◌≡◌, ◌⊎◌, ℕ, ◌+◌, ◌<◌, ◌≤◌, ◌^◌, List, [], ◌∷◌, ◌++◌, false, length, ◌==◌}
use Rattle.std.specs.List.{flat_map, list_any}
use Rattle.std.specs.Int.{w16, w32, w64, to_le_bytes}
use Rattle.byte_fields.specs.Fields.{AllFrom}
use Rattle.root_slots.specs.declared.state.ChunkEntry.{ChunkEntry}
use Rattle.root_slots.specs.declared.state.RootState.{RootState}

-- a chunk: its file, its length, and its dead rows with their number
abbrev pub entry_bytes : ChunkEntry → List ℕ
entry_bytes c = to_le_bytes w32 c.file ++ to_le_bytes w32 c.length ++ to_le_bytes w32 (length c.dead) ++ flat_map (to_le_bytes w32) c.dead

-- a schema's text, with its length
abbrev pub text_bytes : List ℕ → List ℕ
text_bytes text = to_le_bytes w16 (length text) ++ text

-- the last commit that the chunks have, the next file, the older log and the newer one
abbrev pub numbers_bytes : RootState → List ℕ
numbers_bytes s = to_le_bytes w64 s.through ++ to_le_bytes w32 s.next_file ++ to_le_bytes w32 s.older ++ to_le_bytes w32 s.newer

-- chunks, with their number
abbrev pub chunks_bytes : List ChunkEntry → List ℕ
chunks_bytes chunks = to_le_bytes w16 (length chunks) ++ flat_map entry_bytes chunks

-- a state
abbrev pub state_bytes : RootState → List ℕ
state_bytes s = text_bytes s.schema_text ++ numbers_bytes s ++ chunks_bytes s.chunks

-- The most chunks that an index has.
abbrev pub most_chunks : ℕ
most_chunks = 16

-- A log or a chunk may have this file: none of the two slots, one that was made, and none of those named before.
pub record MayName (next_file : ℕ) (named : List ℕ) (file : ℕ) : Type 0 where
  pub no_slot : 2 ≤ file
  pub made : file < next_file
  pub apart : list_any (λ other. other == file) named ≡ false

-- A row that is none of those below this number.
pub record IsRow (low row : ℕ) : Type 0 where
  pub later : low ≤ row
  pub fits : row < 2 ^ 32

-- the lowest row that may follow
abbrev pub after_row : ℕ → ℕ
after_row row = row + 1

-- Rows ascend, from this number.
abbrev pub AreRows : ℕ → List ℕ → Type 0
AreRows low rows = AllFrom IsRow after_row low rows

-- A chunk, where these files are named before.
pub record IsEntry (next_file : ℕ) (named : List ℕ) (c : ChunkEntry) : Type 0 where
  pub file : MayName next_file named c.file
  pub size : c.length < 2 ^ 32
  pub few : length c.dead < 2 ^ 32
  pub dead : AreRows 0 c.dead

-- the files that are named once a chunk is
abbrev pub naming : List ℕ → ChunkEntry → List ℕ
naming named c = named ++ c.file ∷ []

-- Chunks, where these files are named before.
abbrev pub AreEntries : ℕ → List ℕ → List ChunkEntry → Type 0
AreEntries next_file named [] = Unit {0}
AreEntries next_file named (c ∷ chunks) = IsEntry next_file named c × AreEntries next_file (naming named c) chunks

-- The state keeps the layout.
pub record IsState (s : RootState) : Type 0 where
  pub text : length s.schema_text < 2 ^ 16
  pub through : s.through < 2 ^ 63
  pub next_file : s.next_file < 2 ^ 32
  pub older : (s.older ≡ 0) ⊎ MayName s.next_file [] s.older
  pub newer : MayName s.next_file (s.older ∷ []) s.newer
  pub few : length s.chunks ≤ most_chunks
  pub chunks : AreEntries s.next_file (s.older ∷ s.newer ∷ []) s.chunks
  pub fits : length (state_bytes s) < 2 ^ 32
