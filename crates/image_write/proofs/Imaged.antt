-- The parts are an image.
use Rattle.std.proofs.Common.{◌≡◌, ℕ, ◌<◌, ◌^◌, List, [], ◌++◌, Option, Some, None, length, get_or, map, refl, sym, ap, ◌∙◌, arith, All, Contains}
use Rattle.std.specs.List.{position}
use Rattle.std.specs.Str.{bytes_eq}
use Rattle.std.proofs.Math.ListN.{get_or-map}
use Rattle.std.proofs.lemmas.List.{length-map}
use Rattle.std.proofs.lemmas.List.Quantifiers.{position-Some}
use Rattle.std.proofs.lemmas.Slice.Eq.{bytes_eq-Decides}
use Rattle.doc_types.specs.declared.documents.DocRow.{DocRow}
use Rattle.doc_types.specs.declared.schema.Schema.{Schema}
use Rattle.doc_types.specs.Chunks.{AreWordsOf, rows_with}
use Rattle.chunk_image.specs.ChunkImage.{HasRoom, IsImageOf, dictionary_bytes, marks_bytes, postings_bytes, rows_bytes, table_bytes}
use Rattle.image_write.specs.Written.{IsWritten}
use Rattle.image_write.specs.declared.image.Counts.{Counts}
use Rattle.image_write.specs.steps.Gathering.{AreGathered, CanPost, IsGathered, WordPlaces}
use Rattle.image_write.specs.Headers.{counted}
use Rattle.image_write.proofs.Tabled.{word_of}

pub can_post : (rows : List DocRow) (words : List WordPlaces) → All (IsGathered rows) words → All CanPost words
can_post rows words each k d h = record { fits = (each k d h).fits }

abbrev blank : List ℕ → WordPlaces
blank word = record { word = word; places = [] }

word_at : (words : List WordPlaces) (k : ℕ) (d : List ℕ) → get_or (map word_of words) k d ≡ (get_or words k (blank d)).word
word_at words k d = get_or-map word_of words k (blank d)

contained : (rows : List DocRow) (words : List WordPlaces) → AreGathered rows words → (word : List ℕ) → 0 < length (rows_with word rows) → (found : Option ℕ) → position (λ entry. bytes_eq entry.word word) words ≡ found → Contains (map word_of words) word
contained rows words is word some None e = absurd (omega (arith, some, ap length (is.others word e)))
contained rows words is word some (Some n) e =
    let its = position-Some (λ (entry : WordPlaces). bytes_eq entry.word word) words n (blank word) e in
    (n, omega (arith, length-map words word_of, its.0), word_at words n word ∙ (bytes_eq-Decides (get_or words n (blank word)).word word).0 its.1)

pub are_words : (rows : List DocRow) (words : List WordPlaces) → AreGathered rows words → AreWordsOf rows (map word_of words)
are_words rows words is = record {
  ascend = λ i j d l h.
      let low : j < length words = omega (arith, length-map words word_of, h) in
      rw (word_at words i d, word_at words j d) (is.ascend i j (blank d) l low);
  each = λ k d h.
      let low : k < length words = omega (arith, length-map words word_of, h) in
      rw (word_at words k d) (is.each k (blank d) low).some;
  all = λ word some. contained rows words is word some (position (λ entry. bytes_eq entry.word word) words) refl;
}

-- the counts of these parts
pub record AreCounts (rows : List DocRow) (words : List WordPlaces) (fields attrs : ℕ) (counts : Counts) : Type 0 where
  pub rows_n : counts.rows ≡ length rows
  pub fields_n : counts.fields ≡ fields
  pub attrs_n : counts.attrs ≡ attrs
  pub words_n : counts.words ≡ length words
  pub marks_n : counts.marks ≡ length (marks_bytes rows)
  pub dictionary_n : counts.dictionary ≡ length (dictionary_bytes (map word_of words))
  pub postings_n : counts.postings ≡ length (postings_bytes rows (map word_of words))

header : (schema : Schema) (rows : List DocRow) (words : List WordPlaces) (fields attrs : ℕ) (counts : Counts) → IsWritten schema rows fields attrs → AreCounts rows words fields attrs counts
    → counted counts ≡ counted (record { rows = length rows; fields = length schema.fields; attrs = length schema.attrs; words = length (map word_of words); marks = length (marks_bytes rows); dictionary = length (dictionary_bytes (map word_of words)); postings = length (postings_bytes rows (map word_of words)) })
header schema rows words fields attrs counts written is =
    let f : counts.fields ≡ length schema.fields = is.fields_n ∙ sym written.fields_n in
    let a : counts.attrs ≡ length schema.attrs = is.attrs_n ∙ sym written.attrs_n in
    let w : counts.words ≡ length (map word_of words) = is.words_n ∙ sym (length-map words word_of) in
    λ i. counted (record { rows = is.rows_n i; fields = f i; attrs = a i; words = w i; marks = is.marks_n i; dictionary = is.dictionary_n i; postings = is.postings_n i })

pub assembled : (schema : Schema) (rows : List DocRow) (words : List WordPlaces) (fields attrs : ℕ) (counts : Counts) (columns marks table dictionary postings image : List ℕ)
    → IsWritten schema rows fields attrs → AreGathered rows words → length words < 2 ^ 32 → AreCounts rows words fields attrs counts → All HasRoom rows
    → columns ≡ rows_bytes 0 rows → marks ≡ marks_bytes rows → table ≡ table_bytes rows 0 0 (map word_of words) → dictionary ≡ dictionary_bytes (map word_of words) → postings ≡ postings_bytes rows (map word_of words)
    → image ≡ counted counts ++ columns ++ marks ++ table ++ dictionary ++ postings
    → IsImageOf schema rows image
assembled schema rows words fields attrs counts columns marks table dictionary postings image written gathered few counts_are room cs ms ts ds ps is =
    let h = header schema rows words fields attrs counts written counts_are in
    let d = dictionary_bytes (map word_of words) in
    let t = table_bytes rows 0 0 (map word_of words) in
    let c = counted counts in
    record {
      words = map word_of words;
      are = are_words rows words gathered;
      few_words = omega (arith, few, length-map words word_of);
      room = room;
      is =
          is ∙ ap (λ l. c ++ l ++ marks ++ table ++ dictionary ++ postings) cs
          ∙ ap (λ l. c ++ rows_bytes 0 rows ++ l ++ table ++ dictionary ++ postings) ms
          ∙ ap (λ l. c ++ rows_bytes 0 rows ++ marks_bytes rows ++ l ++ dictionary ++ postings) ts
          ∙ ap (λ l. c ++ rows_bytes 0 rows ++ marks_bytes rows ++ t ++ l ++ postings) ds
          ∙ ap (λ l. c ++ rows_bytes 0 rows ++ marks_bytes rows ++ t ++ d ++ l) ps
          ∙ ap (λ l. l ++ rows_bytes 0 rows ++ marks_bytes rows ++ t ++ d ++ postings_bytes rows (map word_of words)) h;
    }
