-- The parts of an image are one.
use Rattle.std.proofs.Common.{◌≡◌, ◌<◌, ◌^◌, ℕ, List, ◌++◌, length, ap, ◌∙◌, arith, All}
use Rattle.doc_types.specs.declared.documents.DocRow.{DocRow}
use Rattle.doc_types.specs.declared.schema.Schema.{Schema}
use Rattle.doc_types.specs.Chunks.{AreWordsOf}
use Rattle.chunk_image.specs.ChunkImage.{HasRoom, IsImageOf, dictionary_bytes, header_bytes, marks_bytes, postings_bytes, rows_bytes, table_bytes}
use Rattle.image_write.specs.declared.image.Counts.{Counts}
use Rattle.image_write.specs.Headers.{counted}
use Rattle.image_write.specs.declared.words.Tables.{Tables}
use Rattle.image_join.specs.steps.Merging.{AreTables}

-- the counts of an image with these words
record AreCounts (schema : Schema) (rows : List DocRow) (words : List (List ℕ)) (counts : Counts) : Type 0 where
  rows_n : counts.rows ≡ length rows
  fields_n : counts.fields ≡ length schema.fields
  attrs_n : counts.attrs ≡ length schema.attrs
  words_n : counts.words ≡ length words
  marks_n : counts.marks ≡ length (marks_bytes rows)
  dictionary_n : counts.dictionary ≡ length (dictionary_bytes words)
  postings_n : counts.postings ≡ length (postings_bytes rows words)

header : (schema : Schema) (rows : List DocRow) (words : List (List ℕ)) (counts : Counts) → AreCounts schema rows words counts → counted counts ≡ header_bytes schema rows words
header schema rows words counts is =
    λ i. counted (record { rows = is.rows_n i; fields = is.fields_n i; attrs = is.attrs_n i; words = is.words_n i; marks = is.marks_n i; dictionary = is.dictionary_n i; postings = is.postings_n i })

pub image_is : (schema : Schema) (rows : List DocRow) (words : List (List ℕ)) (tables : Tables) (counts : Counts) (columns marks bytes : List ℕ)
    → AreWordsOf rows words → AreTables rows words tables → All HasRoom rows → columns ≡ rows_bytes 0 rows → marks ≡ marks_bytes rows
    → counts.rows ≡ length rows → counts.fields ≡ length schema.fields → counts.attrs ≡ length schema.attrs → counts.words ≡ tables.words → counts.words < 2 ^ 32
    → counts.marks ≡ length marks → counts.dictionary ≡ length tables.dictionary.items → counts.postings ≡ length tables.postings.items
    → bytes ≡ counted counts ++ columns ++ marks ++ tables.table.items ++ tables.dictionary.items ++ tables.postings.items
    → IsImageOf schema rows bytes
image_is schema rows words tables counts columns marks bytes are tabled room cs ms rn fn an wn few mn dn pn is =
    let counts_are : AreCounts schema rows words counts = record {
      rows_n = rn;
      fields_n = fn;
      attrs_n = an;
      words_n = wn ∙ tabled.count;
      marks_n = mn ∙ ap length ms;
      dictionary_n = dn ∙ ap length tabled.dictionary;
      postings_n = pn ∙ ap length tabled.postings;
    } in
    let h = header_bytes schema rows words in
    record {
      words = words;
      are = are;
      few_words = omega (arith, few, wn, tabled.count);
      room = room;
      is =
          is ∙ ap (λ l. l ++ columns ++ marks ++ tables.table.items ++ tables.dictionary.items ++ tables.postings.items) (header schema rows words counts counts_are)
          ∙ ap (λ l. h ++ l ++ marks ++ tables.table.items ++ tables.dictionary.items ++ tables.postings.items) cs
          ∙ ap (λ l. h ++ rows_bytes 0 rows ++ l ++ tables.table.items ++ tables.dictionary.items ++ tables.postings.items) ms
          ∙ ap (λ l. h ++ rows_bytes 0 rows ++ marks_bytes rows ++ l ++ tables.dictionary.items ++ tables.postings.items) tabled.table
          ∙ ap (λ l. h ++ rows_bytes 0 rows ++ marks_bytes rows ++ table_bytes rows 0 0 words ++ l ++ tables.postings.items) tabled.dictionary
          ∙ ap (λ l. h ++ rows_bytes 0 rows ++ marks_bytes rows ++ table_bytes rows 0 0 words ++ dictionary_bytes words ++ l) tabled.postings;
    }
