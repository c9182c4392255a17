-- What is shown of chunks.
use Rattle.std.specs.Prelude.{ℕ, ◌<◌, List, [], Option, Some, None, All, AllPairs, length, map}
use Rattle.std.specs.Arc.{arc_value}
use Rattle.std.specs.List.{filter}
use Rattle.doc_types.specs.Snapshots.{LayerValue}
use Rattle.doc_types.specs.declared.documents.DocRow.{DocRow}
use Rattle.root_slots.specs.declared.state.ChunkEntry.{ChunkEntry}
use Rattle.store_reads.specs.declared.found.Found.{Found}
use Rattle.index_tool.specs.ToolLines.{chunk_line, hit_lines, word_lines}
use Rattle.index_tool.specs.declared.chunks.Part.{Part}
use Rattle.index_tool.specs.declared.chunks.Part.TheVariants as parts
use Rattle.index_tool.specs.declared.lines.Counts.{Counts}

-- the rows of the layers that are on the disk
abbrev pub rows_on_disk : List LayerValue → List (List DocRow)
rows_on_disk layers = map (λ layer. layer.rows) (filter (λ layer. layer.disk) layers)

-- the lines of a chunk
abbrev pub lines_of : Part → ChunkEntry → List DocRow → List (List ℕ) → List ℕ
lines_of parts.Summary entry rows words = chunk_line entry rows words
lines_of parts.Words entry rows words = word_lines entry rows words
lines_of (parts.Hits schema word) entry rows words = hit_lines schema.now word.now entry rows

-- how much was found
abbrev pub counts_found : Option Found → Counts
counts_found None = record { documents = 0; chunks = 0; records = 0 }
counts_found (Some found) = record { documents = found.documents; chunks = length found.files.state.chunks; records = found.records }

-- the root's entries of the chunks that were found, and the rows of each
abbrev pub entries_found : Option Found → List ChunkEntry
entries_found None = []
entries_found (Some found) = found.files.state.chunks

abbrev pub rows_found : Option Found → List (List DocRow)
rows_found None = []
rows_found (Some found) = rows_on_disk (arc_value found.snapshot).layers

-- The dead rows of each chunk that was found ascend.
abbrev pub AreAscending : Option Found → Type 0
AreAscending found = All (λ entry. AllPairs (λ row later. row < later) entry.dead) (entries_found found)
