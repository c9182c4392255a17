-- What lines are made of.
use Rattle.std.specs.Prelude.{ℕ, List, ◌++◌, codes, decimal, length}
use Rattle.doc_types.specs.declared.documents.DocRow.{DocRow}
use Rattle.program_host.specs.Statuses.{line}
use Rattle.root_slots.specs.declared.state.ChunkEntry.{ChunkEntry}
use Rattle.index_tool.specs.declared.lines.Counts.{Counts}

-- the line of an index that holds so much
abbrev pub counts_of : List ℕ → Counts → List ℕ
counts_of name counts =
    line (name ++ codes ": ok, " ++ decimal counts.documents ++ codes " documents, " ++ decimal counts.chunks ++ codes " disk chunks, " ++ decimal counts.records ++ codes " log records")

-- the line of a chunk behind its first word
abbrev pub chunk_counts : ChunkEntry → List DocRow → List (List ℕ) → List ℕ
chunk_counts entry rows words =
    line (decimal entry.file ++ codes ": " ++ decimal (length rows) ++ codes " rows, " ++ decimal (length entry.dead) ++ codes " dead, " ++ decimal (length words) ++ codes " words, " ++ decimal entry.length ++ codes " bytes")
