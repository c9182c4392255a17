-- The lines of the tool: what it prints of the files of an index.
--
-- A check has a line of the index and one of each chunk, a dictionary one of each word of each chunk, and a hit list one of each place
-- of a word in the rows of the chunks that aren't dead. Chunks come in the order of the root, words and rows in their own.
use Rattle.std.specs.Prelude.{ℕ, ◌≤◌, List, [], ◌∷◌, ◌++◌, Option, codes, decimal, length, slice_get}
use Rattle.std.specs.FinMap as finite
use Rattle.std.specs.List.{AllZip, flat_map}
use Rattle.std.specs.Option.{option_map_or}
use Rattle.charset_map.specs.Spans.{folded}
use Rattle.chunk_store.specs.Images.{Image}
use Rattle.doc_types.specs.Chunks.{AreWordsOf, hits_of, rows_with}
use Rattle.doc_types.specs.Snapshots.{living}
use Rattle.doc_types.specs.declared.documents.DocRow.{DocRow}
use Rattle.doc_types.specs.declared.schema.Schema.{Schema}
use Rattle.index_conf.specs.declared.conf.IndexConf.{IndexConf}
use Rattle.program_host.specs.Statuses.{line}
use Rattle.root_slots.specs.declared.state.ChunkEntry.{ChunkEntry}
use Rattle.store_reads.specs.Reads.{chunks_in, taken_in}
use Rattle.store_steps.specs.Directory.{Directory, Holds, layer_from, rows_in}
use Rattle.store_steps.specs.declared.damage.TheConstants.{MOST_OPENED_CHUNKS}
use Rattle.index_tool.specs.Asking.{Mode, check, dictionary, hits}
use Rattle.index_tool.specs.Folding.{folded_word}

-- What the files of an index hold, or nothing where no slot is open; and the words of each chunk.
pub record Contents : Type 0 where
  pub found : Option Directory
  pub words : List (List (List ℕ))

-- Such are those of an image: no more chunks than are opened, and of each the words of its rows.
pub record HasContents (schema : Schema) (has : Contents) (image : Image) : Type 0 where
  pub holds : Holds schema has.found image
  pub few : length (chunks_in has.found) ≤ MOST_OPENED_CHUNKS
  pub words : AllZip AreWordsOf (chunks_in has.found) has.words

-- the line of an index: its documents, its chunks, and the records of its logs that no chunk has
abbrev pub index_line : List ℕ → Option Directory → List ℕ
index_line name found =
    line (name ++ codes ": ok, " ++ decimal (finite.len (rows_in found)) ++ codes " documents, " ++ decimal (length (chunks_in found)) ++ codes " disk chunks, " ++ decimal (length (taken_in found)) ++ codes " log records")

-- the line of a chunk, as its root names it: of its rows, also those that the root says are dead
abbrev pub chunk_line : ChunkEntry → List DocRow → List (List ℕ) → List ℕ
chunk_line entry rows words =
    line (codes "chunk " ++ decimal entry.file ++ codes ": " ++ decimal (length rows) ++ codes " rows, " ++ decimal (length entry.dead) ++ codes " dead, " ++ decimal (length words) ++ codes " words, " ++ decimal entry.length ++ codes " bytes")

-- the lines of a chunk's words, each with how many rows have it, dead rows among them
abbrev pub word_line : ChunkEntry → List DocRow → List ℕ → List ℕ
word_line entry rows word = line (decimal entry.file ++ codes " " ++ decimal (length (rows_with word rows)) ++ codes " " ++ word)

abbrev pub word_lines : ChunkEntry → List DocRow → List (List ℕ) → List ℕ
word_lines entry rows words = flat_map (word_line entry rows) words

-- the name of a field
abbrev pub field_name : Schema → ℕ → List ℕ
field_name schema field = option_map_or (λ name. name) (slice_get schema.fields field) []

-- the lines of a word's places in the rows of a chunk that aren't dead
abbrev pub hit_line : Schema → ChunkEntry → DocRow → ℕ × ℕ → List ℕ
hit_line schema entry row hit = line (decimal entry.file ++ codes " " ++ decimal row.doc.id ++ codes " " ++ field_name schema hit.0 ++ codes " " ++ decimal hit.1)

abbrev pub hit_lines : Schema → List ℕ → ChunkEntry → List DocRow → List ℕ
hit_lines schema word entry rows = flat_map (λ row. flat_map (hit_line schema entry row) (hits_of word row)) (living (layer_from entry rows))

-- the lines of each chunk
abbrev pub each_chunk : (ChunkEntry → List DocRow → List (List ℕ) → List ℕ) → List ChunkEntry → List (List DocRow) → List (List (List ℕ)) → List ℕ
each_chunk lines (entry ∷ entries) (rows ∷ chunks) (words ∷ others) = lines entry rows words ++ each_chunk lines entries chunks others
each_chunk lines entries chunks words = []

abbrev pub of_chunks : (ChunkEntry → List DocRow → List (List ℕ) → List ℕ) → Contents → List ℕ
of_chunks lines has = option_map_or (λ dir. each_chunk lines dir.state.chunks dir.chunks has.words) has.found []

-- the lines of a question
abbrev pub tool_lines : Mode → IndexConf → Contents → List ℕ
tool_lines check index has = index_line index.schema.name has.found ++ of_chunks chunk_line has
tool_lines dictionary index has = of_chunks word_lines has
tool_lines (hits text) index has = option_map_or (λ word. of_chunks (λ entry rows words. hit_lines index.schema word entry rows) has) (folded_word (folded index.charset) text) []
