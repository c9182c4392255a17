-- What was found of an index's files is what they hold, and its lines are theirs.
use Rattle.std.proofs.Common.{◌≡◌, ℕ, ◌<◌, List, [], ◌∷◌, ◌++◌, Result, refl, sym, ◌∙◌, ap, subst, arith, length, map, All, AllPairs}
use Rattle.std.specs.Prelude.{Option, Some, None, codes, decimal}
use Rattle.std.specs.FinMap as finite
use Rattle.std.specs.List.{AllZip}
use Rattle.std.specs.Option.{option_map_or}
use Rattle.std.specs.Ordering.{nat_cmp}
use Rattle.charset_map.specs.Spans.{folded}
use Rattle.chunk_files.proofs.Rooted.{ascend_all}
use Rattle.chunk_store.specs.Images.{Image, Told}
use Rattle.doc_types.specs.Chunks.{AreWordsOf}
use Rattle.doc_types.specs.Rows.{Rows}
use Rattle.doc_types.specs.declared.documents.DocRow.{DocRow}
use Rattle.doc_types.specs.declared.schema.Schema.{Schema}
use Rattle.gate_log.proofs.Standing.{gives_records}
use Rattle.index_conf.specs.declared.conf.IndexConf.{IndexConf}
use Rattle.program_host.specs.Statuses.{line}
use Rattle.root_slots.proofs.Standing.{root_leaves}
use Rattle.root_slots.specs.Openings.{Opens}
use Rattle.root_slots.specs.Slots.{slots_of}
use Rattle.root_slots.specs.States.{IsState}
use Rattle.root_slots.specs.declared.root.Root.{Root}
use Rattle.root_slots.specs.declared.state.ChunkEntry.{ChunkEntry}
use Rattle.root_slots.specs.declared.state.RootState.{RootState}
use Rattle.store_reads.proofs.Chunked.{as_many}
use Rattle.store_reads.proofs.Founds.{files_of}
use Rattle.store_reads.specs.Reads.{IsDirectory, log_in}
use Rattle.store_reads.specs.declared.found.Found.{Found}
use Rattle.store_steps.specs.Batches.{record_of}
use Rattle.store_steps.specs.Directory.{Directory, directory_rows, taken}
use Rattle.store_steps.specs.declared.files.Files.{Files}
use Rattle.index_tool.specs.Asking.{check, dictionary, hits}
use Rattle.index_tool.specs.Folding.{folded_word}
use Rattle.index_tool.specs.ToolLines.{Contents, HasContents, chunk_line, each_chunk, hit_lines, index_line, of_chunks, word_lines}
use Rattle.index_tool.specs.declared.host.ToolHost.{Ghosts as HostWords}
use Rattle.index_tool.specs.declared.printing.Stop.{Stop}
use Rattle.index_tool.specs.steps.Pieces.{counts_of}
use Rattle.index_tool.specs.steps.Reads.{IsRead, ShowsMode}
use Rattle.index_tool.specs.steps.Shown.{AreAscending, counts_found, entries_found, rows_found}
use Rattle.index_tool.specs.steps.Sides.{PrintsLines}

abbrev Words : Type 0
Words = List (List (List ℕ))

abbrev Lines : Type 0
Lines = ChunkEntry → List DocRow → List (List ℕ) → List ℕ

-- ---- reading

-- the state that was read is that of the files
state_is : (schema : Schema) (root : Root) (state : RootState) (told : Option Image) (found : Found) → IsDirectory schema root state told found → found.files.state ≡ state
state_is schema root state told found is = ap (λ (files : Files). files.state) is.files_are

pub ascending : (schema : Schema) (root : Root) (state : RootState) (told : Option Image) (found : Found) → IsState state → IsDirectory schema root state told found → AreAscending (Some found)
ascending schema root state told found keeps is =
    subst (λ (s : RootState). All (λ (entry : ChunkEntry). AllPairs (λ (row later : ℕ). row < later) entry.dead) s.chunks) (sym (state_is schema root state told found is))
    (ascend_all state.next_file (state.older ∷ state.newer ∷ []) state.chunks keeps.chunks)

-- no slot is open
pub nothing_read : (schema : Schema) (root : Root) (told : Option Image) → Told (λ image. Opens root None (slots_of image)) told → IsRead schema told None
nothing_read schema root told opens = λ image is. root_leaves root None None (slots_of image) (opens image is).stands

-- ---- what was found is held

-- Files hold these contents, whose lines are those of what was found.
pub record AreHeld (schema : Schema) (told : Option Image) (found : Option Found) (words : Words) : Type 0 where
  pub has : Contents
  pub files : Told (HasContents schema has) told
  pub index_is : (name : List ℕ) → index_line name has.found ≡ counts_of name (counts_found found)
  pub chunks_are : (lines : Lines) → of_chunks lines has ≡ each_chunk lines (entries_found found) (rows_found found) words

pub are_held : (schema : Schema) (told : Option Image) (found : Option Found) (words : Words) → IsRead schema told found → AllZip AreWordsOf (rows_found found) words → AreHeld schema told found words
are_held schema told None words read are = record {
  has = record { found = None; words = words };
  files = λ image is. record { holds = read image is; few = omega arith; words = are };
  index_is = λ name. ap (λ (n : ℕ). line (name ++ codes ": ok, " ++ decimal n ++ codes " documents, " ++ decimal 0 ++ codes " disk chunks, " ++ decimal 0 ++ codes " log records")) (finite.len-empty nat_cmp DocRow);
  chunks_are = λ lines. refl;
}
are_held schema told (Some found) words (root, state, is) are =
    let dir : Directory = is.dir in
    let state_here : found.files.state ≡ dir.state = state_is schema root state told found is ∙ sym is.state_is in
    let chunks : rows_found (Some found) ≡ dir.chunks = sym is.says.chunks in
    let documents : finite.len (directory_rows dir) ≡ found.documents = ap (λ (rows : Rows). finite.len rows) is.says.rows ∙ sym is.documents_are in
    let many : length dir.chunks ≡ length found.files.state.chunks = as_many schema dir.state.through dir.state.chunks dir.chunks is.in_order.chunks ∙ ap (λ (s : RootState). length s.chunks) (sym state_here) in
    record {
      has = record { found = Some dir; words = words };
      files = λ image told_is. record {
        holds = (
          record {
            number = root.number;
            files = files_of root dir image (is.image image told_is);
            newer = gives_records (log_in dir) (map record_of dir.newer) (image dir.state.newer) refl (is.image image told_is).newer;
            in_order = is.in_order;
          },
          is.reaches,
        );
        few = is.few;
        words = subst (λ (rows : List (List DocRow)). AllZip AreWordsOf rows words) chunks are;
      };
      index_is = λ name.
          ap (λ (n : ℕ). line (name ++ codes ": ok, " ++ decimal n ++ codes " documents, " ++ decimal (length dir.chunks) ++ codes " disk chunks, " ++ decimal (length (taken dir)) ++ codes " log records")) documents
          ∙ ap (λ (n : ℕ). line (name ++ codes ": ok, " ++ decimal found.documents ++ codes " documents, " ++ decimal n ++ codes " disk chunks, " ++ decimal (length (taken dir)) ++ codes " log records")) many
          ∙ ap (λ (n : ℕ). line (name ++ codes ": ok, " ++ decimal found.documents ++ codes " documents, " ++ decimal (length found.files.state.chunks) ++ codes " disk chunks, " ++ decimal n ++ codes " log records")) (sym is.records_are);
      chunks_are = λ lines.
          ap (λ (s : RootState). each_chunk lines s.chunks dir.chunks words) (sym state_here) ∙ ap (λ (rows : List (List DocRow)). each_chunk lines found.files.state.chunks rows words) (sym chunks);
    }

-- ---- and shown

module _ {H S T : Type 0} (host : HostWords H S) (r : Result T Stop) (index : IndexConf) (told : Option Image) (found : Option Found) (words : Words) (held : AreHeld index.schema told found words) (old new : H) where
  abbrev shown : Lines → List ℕ
  shown lines = each_chunk lines (entries_found found) (rows_found found) words

  pub shows_check : PrintsLines host r (counts_of index.schema.name (counts_found found) ++ shown chunk_line) old new → ShowsMode host check index told r old new
  shows_check prints = (
    held.has,
    held.files,
    subst (λ (l : List ℕ). PrintsLines host r l old new) (sym (ap (λ (l : List ℕ). l ++ of_chunks chunk_line held.has) (held.index_is index.schema.name) ∙ ap (λ (l : List ℕ). counts_of index.schema.name (counts_found found) ++ l) (held.chunks_are chunk_line))) prints,
  )

  pub shows_dictionary : PrintsLines host r (shown word_lines) old new → ShowsMode host dictionary index told r old new
  shows_dictionary prints = (held.has, held.files, subst (λ (l : List ℕ). PrintsLines host r l old new) (sym (held.chunks_are word_lines)) prints)

  pub shows_hits : (text word : List ℕ) → folded_word (folded index.charset) text ≡ Some word → PrintsLines host r (shown (λ entry rows words. hit_lines index.schema word entry rows)) old new → ShowsMode host (hits text) index told r old new
  shows_hits text word is prints = (
    held.has,
    held.files,
    subst (λ (l : List ℕ). PrintsLines host r l old new) (sym (ap (λ (o : Option (List ℕ)). option_map_or (λ word. of_chunks (λ entry rows words. hit_lines index.schema word entry rows) held.has) o []) is ∙ held.chunks_are (λ entry rows words. hit_lines index.schema word entry rows))) prints,
  )

  pub shows_none : (text : List ℕ) → folded_word (folded index.charset) text ≡ None → PrintsLines host r [] old new → ShowsMode host (hits text) index told r old new
  shows_none text is prints = (
    held.has,
    held.files,
    subst (λ (l : List ℕ). PrintsLines host r l old new) (sym (ap (λ (o : Option (List ℕ)). option_map_or (λ word. of_chunks (λ entry rows words. hit_lines index.schema word entry rows) held.has) o []) is)) prints,
  )
