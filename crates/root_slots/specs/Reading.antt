-- A state read from left to right: its fields in order, each as soon as it is there held against those before it.
use Rattle.std.specs.Prelude.{ℕ, zero, suc, ◌^◌, List, [], ◌∷◌, length, take, drop, Bool, Result, Ok, Err, nat_lt, nat_le, not, ◌==◌, ◌||◌, ◌&&◌, if◌then◌else◌}
use Rattle.std.specs.List.{list_any}
use Rattle.std.specs.Int.{w16, w32, w64}
use Rattle.byte_fields.specs.Fields.{◌>>=◌, Read, checked, many, number_at}
use Rattle.root_slots.specs.States.{after_row, most_chunks, naming}
use Rattle.root_slots.specs.declared.state.ChunkEntry.{ChunkEntry}
use Rattle.root_slots.specs.declared.state.RootState.{RootState}

-- whether a log or a chunk may have this file: it is no slot's, it was made, and it isn't named before
abbrev pub may_name : ℕ → List ℕ → ℕ → Bool
may_name next_file named file = nat_le 2 file && nat_lt file next_file && not (list_any (λ other. other == file) named)

-- the schema's text: one field, which begins with its length
unfoldable pub text_at : List ℕ → Read (List ℕ)
text_at bytes = do
  size ← number_at w16 bytes
  if nat_lt (length size.1) size.0 then Err (length bytes) else Ok (take size.0 size.1, drop size.0 size.1)

unfoldable pub through_at : List ℕ → Read ℕ
through_at bytes = checked (λ n. nat_lt n (2 ^ 63)) (number_at w64) bytes

unfoldable pub file_at : ℕ → List ℕ → List ℕ → Read ℕ
file_at next_file named bytes = checked (may_name next_file named) (number_at w32) bytes

-- the older log, 0 for none
unfoldable pub older_at : ℕ → List ℕ → Read ℕ
older_at next_file bytes = checked (λ n. (n == 0) || may_name next_file [] n) (number_at w32) bytes

unfoldable pub count_at : List ℕ → Read ℕ
count_at bytes = checked (λ n. nat_le n most_chunks) (number_at w16) bytes

-- a dead row that is none of those below this number
unfoldable pub row_at : ℕ → List ℕ → Read ℕ
row_at low bytes = checked (nat_le low) (number_at w32) bytes

abbrev pub rows_at : ℕ → ℕ → List ℕ → Read (List ℕ)
rows_at count low bytes = many row_at after_row count low bytes

unfoldable pub entry_at : ℕ → List ℕ → List ℕ → Read ChunkEntry
entry_at next_file named bytes = do
  file ← file_at next_file named bytes
  size ← number_at w32 file.1
  count ← number_at w32 size.1
  dead ← rows_at count.0 0 count.1
  Ok (record { file = file.0; length = size.0; dead = dead.0 }, dead.1)

-- so many chunks
unfoldable pub entries_at : ℕ → ℕ → List ℕ → List ℕ → Read (List ChunkEntry)
entries_at next_file zero named bytes = Ok ([], bytes)
entries_at next_file (suc n) named bytes = do
  first ← entry_at next_file named bytes
  others ← entries_at next_file n (naming named first.0) first.1
  Ok (first.0 ∷ others.0, others.1)

-- the chunks with their number, and nothing behind them
unfoldable pub chunks_at : ℕ → List ℕ → List ℕ → Result (List ChunkEntry) ℕ
chunks_at next_file named bytes = do
  count ← count_at bytes
  chunks ← entries_at next_file count.0 named count.1
  if length chunks.1 == 0 then Ok chunks.0 else Err (length chunks.1)

-- a whole state
unfoldable pub state_at : List ℕ → Result RootState ℕ
state_at bytes = do
  text ← text_at bytes
  through ← through_at text.1
  next_file ← number_at w32 through.1
  older ← older_at next_file.0 next_file.1
  newer ← file_at next_file.0 (older.0 ∷ []) older.1
  chunks ← chunks_at next_file.0 (older.0 ∷ newer.0 ∷ []) newer.1
  Ok (record { schema_text = text.0; through = through.0; next_file = next_file.0; older = older.0; newer = newer.0; chunks = chunks })

-- what was read, or a state of nothing
abbrev pub state_or_none : Result RootState ℕ → RootState
state_or_none (Ok state) = state
state_or_none (Err left) = record { schema_text = []; through = 0; next_file = 0; older = 0; newer = 0; chunks = [] }

-- the state behind a length
abbrev pub state_in : List ℕ → RootState
state_in bytes = state_or_none (state_at (drop 4 bytes))
