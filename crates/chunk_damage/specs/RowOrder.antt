-- Rows by their ids, which ascend.
use Rattle.std.specs.Prelude.{ℕ, ◌+◌, ◌-◌, ◌<◌, ◌≤◌, List}
use Rattle.doc_types.specs.declared.schema.Schema.{Schema}
use Rattle.chunk_damage.specs.Header.{eight_in, row_at}

-- the id of a row
abbrev pub id_in : Schema → List ℕ → ℕ → ℕ
id_in schema bytes row = eight_in bytes (row_at schema row)

-- the ids of so many rows ascend
abbrev pub AreAscending : Schema → List ℕ → ℕ → Type 0
AreAscending schema bytes rows = (row : ℕ) → row + 1 < rows → id_in schema bytes row < id_in schema bytes (row + 1)

-- the ids before that of this row ascend, and that one isn't above the one before it
pub record IsUnordered (schema : Schema) (bytes : List ℕ) (row : ℕ) : Type 0 where
  pub ascend : AreAscending schema bytes row
  pub some : 1 ≤ row
  pub low : id_in schema bytes row ≤ id_in schema bytes (row - 1)
