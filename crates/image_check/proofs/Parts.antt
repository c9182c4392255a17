-- Where the parts of an image lie, by the sizes of its header.
use Rattle.std.proofs.Common.{◌≡◌, ℕ, ◌+◌, ◌-◌, ◌*◌, ◌<◌, ◌≤◌, List, length, take, drop, sym, ap, ◌∙◌, arith, length-append}
use Rattle.std.specs.List.{slice_range}
use Rattle.std.proofs.lemmas.List.{length-drop, length-take, take_all}
use Rattle.std.proofs.lemmas.Nat.{row_fits}
use Rattle.doc_types.specs.declared.schema.Schema.{Schema}
use Rattle.item_lists.specs.Items.{IsFirstWrong, spelled}
use Rattle.chunk_damage.specs.Header.{dictionary_at, dictionary_part, four_in, marks_at, marks_part, postings_at, postings_part, row_at, row_size, table_at, table_part, words_in}
use Rattle.image_head.specs.declared.header.Sizes.{Sizes}
use Rattle.image_check.specs.Begun.{IsBegun}

module _ (schema : Schema) (bytes : List ℕ) (sizes : Sizes) (is : IsBegun schema bytes sizes) where
  -- places lie one behind the other
  pub record AreWithin : Type 0 where
    pub rows : row_at schema sizes.rows ≤ length bytes
    pub marks : sizes.marks ≤ sizes.table
    pub table : sizes.table ≤ sizes.dictionary
    pub dictionary : sizes.dictionary ≤ sizes.postings
    pub postings : sizes.postings ≤ length bytes

  pub within : AreWithin
  within =
      let same : row_at schema sizes.rows ≡ marks_at schema bytes = ap (row_at schema) is.head.are.rows in
      record {
        rows = omega (arith, same, is.head.sums_up.sum);
        marks = omega (arith, is.head.are.marks, is.head.are.table);
        table = omega (arith, is.head.are.table, is.head.are.dictionary);
        dictionary = omega (arith, is.head.are.dictionary, is.head.are.postings);
        postings = omega (arith, is.head.are.postings, is.head.sums_up.sum);
      }

  pub marks_is : slice_range bytes sizes.marks sizes.table ≡ marks_part schema bytes
  marks_is =
      let size : sizes.table - sizes.marks ≡ four_in bytes 20 = omega (arith, is.head.are.marks, is.head.are.table) in
      ap (λ n. take n (drop sizes.marks bytes)) size ∙ ap (λ at. take (four_in bytes 20) (drop at bytes)) is.head.are.marks

  pub table_is : slice_range bytes sizes.table sizes.dictionary ≡ table_part schema bytes
  table_is =
      let size : sizes.dictionary - sizes.table ≡ 12 * words_in bytes = omega (arith, is.head.are.table, is.head.are.dictionary) in
      ap (λ n. take n (drop sizes.table bytes)) size ∙ ap (λ at. take (12 * words_in bytes) (drop at bytes)) is.head.are.table

  pub dictionary_is : slice_range bytes sizes.dictionary sizes.postings ≡ dictionary_part schema bytes
  dictionary_is =
      let size : sizes.postings - sizes.dictionary ≡ four_in bytes 24 = omega (arith, is.head.are.dictionary, is.head.are.postings) in
      ap (λ n. take n (drop sizes.dictionary bytes)) size ∙ ap (λ at. take (four_in bytes 24) (drop at bytes)) is.head.are.dictionary

  pub postings_is : slice_range bytes sizes.postings (length bytes) ≡ postings_part schema bytes
  postings_is =
      take_all (length bytes - sizes.postings) (drop sizes.postings bytes) (omega (arith, length-drop sizes.postings bytes)) ∙ ap (λ at. drop at bytes) is.head.are.postings

  -- how long they are
  part_long : (n at : ℕ) → at + n ≤ length bytes → length (take n (drop at bytes)) ≡ n
  part_long n at long = omega (arith, length-take n (drop at bytes), length-drop at bytes, long)

  pub marks_long : length (marks_part schema bytes) ≡ four_in bytes 20
  marks_long = part_long (four_in bytes 20) (marks_at schema bytes) (omega (arith, is.head.sums_up.sum))

  pub table_long : length (table_part schema bytes) ≡ 12 * words_in bytes
  table_long = part_long (12 * words_in bytes) (table_at schema bytes) (omega (arith, is.head.sums_up.sum))

  pub dictionary_long : length (dictionary_part schema bytes) ≡ four_in bytes 24
  dictionary_long = part_long (four_in bytes 24) (dictionary_at schema bytes) (omega (arith, is.head.sums_up.sum))

  pub postings_long : length (postings_part schema bytes) ≡ four_in bytes 28
  postings_long = omega (arith, length-drop (postings_at schema bytes) bytes, is.head.sums_up.sum)

  -- parts without an item are empty
  pub no_marks : sizes.rows ≡ 0 → length (marks_part schema bytes) ≡ 0
  no_marks none = marks_long ∙ is.head.sums_up.no_rows (sym is.head.are.rows ∙ none)

  pub no_dictionary : sizes.words ≡ 0 → length (dictionary_part schema bytes) ≡ 0
  no_dictionary none = dictionary_long ∙ (is.head.sums_up.no_words (sym is.head.are.words ∙ none)).0

  pub no_postings : sizes.words ≡ 0 → length (postings_part schema bytes) ≡ 0
  no_postings none = postings_long ∙ (is.head.sums_up.no_words (sym is.head.are.words ∙ none)).1

  pub entries_fit : 12 * sizes.words ≤ length (table_part schema bytes)
  entries_fit = omega (arith, table_long, is.head.are.words)

  -- a row lies within
  pub row_within : (row : ℕ) → row < sizes.rows → row_at schema row ≤ length bytes
  row_within row low = omega (arith, within.rows, row_fits row (row_size schema) sizes.rows (row_size schema) low (omega arith))

-- what is first wrong lies within
pub first_within : {S A : Type 0} (write : S → A → List ℕ) (next : S → A → S) (Fits : S → A → Type 0) (bytes : List ℕ) (s : S) (count place : ℕ) → IsFirstWrong write next Fits bytes s count place → place ≤ length bytes
first_within write next Fits bytes s count place bad = omega (arith, bad.place_is, ap length bad.is, length-append (spelled write next s bad.before) bad.rest)
