-- Parts that are good are those of rows of the schema, whose image they spell.
use Rattle.std.proofs.Common.{◌≡◌, ℕ, ◌+◌, ◌*◌, ◌<◌, ◌≤◌, Bool, true, false, cond, List, [], ◌∷◌, ◌||◌, length, get_or, refl, sym, ap, subst, ◌∙◌, arith}
use Rattle.std.specs.List.{AllByRecursion, AllPairs, AllZip, Contains, enumerate_from, filter, list_any, sum_by}
use Rattle.std.proofs.lemmas.List.{get_or_default, length-map}
use Rattle.std.proofs.lemmas.List.Elements.{All-from_recursion, recursion_from_All}
use Rattle.std.proofs.lemmas.List.Kept.{AllPairs-cons}
use Rattle.std.proofs.lemmas.List.Sums.{sum_by-cons}
use Rattle.std.proofs.lemmas.Slice.Eq.{bytes_eq-Decides}
use Rattle.doc_types.specs.declared.documents.DocRow.{DocRow}
use Rattle.doc_types.specs.declared.schema.Schema.{Schema}
use Rattle.doc_types.specs.declared.tokens.FieldTokens.{FieldTokens}
use Rattle.doc_types.specs.declared.tokens.TokenWord.{TokenWord}
use Rattle.doc_types.specs.declared.tokens.Gap.TheVariants as kinds
use Rattle.doc_types.specs.Documents.{AreRowsOf, AreSmall, IsDocOf, IsWord, word_count}
use Rattle.doc_types.specs.Schemas.{IsSchema}
use Rattle.doc_types.specs.Chunks.{has_word, is_word, rows_with}
use Rattle.doc_bytes.specs.Reading.{FieldSpan, later_spans, with_spans}
use Rattle.chunk_image.specs.AlikeRows.{postings}
use Rattle.chunk_image.specs.ChunkImage.{HasRoom, IsImageOf}
use Rattle.chunk_image.proofs.WordsTold.{many}
use Rattle.chunk_damage.specs.WordLists.{Entry}
use Rattle.chunk_damage.specs.RowMarks.{FieldMarks, RowMarks, is_taken}
use Rattle.chunk_damage.specs.Cover.{hits_in, owners}
use Rattle.image_rows.specs.steps.Between.{from_on, words_between}
use Rattle.image_rows.specs.steps.Owned.{AreOwned, row_words, word_at}
use Rattle.image_rows.specs.steps.Counts.{total}
use Rattle.image_rows.specs.steps.Contents.{Contents, RowColumns, contents_image, row_made, rows_made}
use Rattle.image_rows.specs.steps.ContentsOf.{AllDiffer, AreContentsOf, GoodRows, IdsAscend, AreColumns}
use Rattle.image_rows.proofs.Fields.{placed_between}
use Rattle.image_rows.proofs.Rowing.{lower, of_word, one_free, places_ascend, well_placed}
use Rattle.image_rows.proofs.RowMade.{field_count, span_total, tokens}
use Rattle.image_rows.proofs.Counting.{lists_total, row_count}
use Rattle.image_rows.proofs.Made.{all_posted, counted, image_is}

module _ (fields attrs : ℕ) (words : List (List ℕ)) (lists : List (List Entry)) (few : fields ≤ 32) (long : length words ≡ length lists) (are : AllByRecursion IsWord words) (apart : AllDiffer words) where
  -- ids ascend
  ids_above : (id n : ℕ) (columns : List RowColumns) (marks : List RowMarks) → AllByRecursion (λ (k : RowColumns). id < k.id) columns
      → AllByRecursion (λ (r : DocRow). id < r.doc.id) (rows_made words lists n columns marks)
  ids_above id n [] marks all = tt
  ids_above id n (k ∷ columns) [] all = tt
  ids_above id n (k ∷ columns) (m ∷ marks) all = (all.0, ids_above id (n + 1) columns marks all.1)

  ids_ascend : (n : ℕ) (columns : List RowColumns) (marks : List RowMarks) → IdsAscend columns
      → AllPairs (λ (row later : DocRow). row.doc.id < later.doc.id) (rows_made words lists n columns marks)
  ids_ascend n [] marks all = λ i j d low high. absurd (omega arith)
  ids_ascend n (k ∷ columns) [] all = λ i j d low high. absurd (omega arith)
  ids_ascend n (k ∷ columns) (m ∷ marks) all =
      AllPairs-cons (λ (row later : DocRow). row.doc.id < later.doc.id) (row_made words lists n k m) (rows_made words lists (n + 1) columns marks)
      (All-from_recursion (λ (r : DocRow). k.id < r.doc.id) (rows_made words lists (n + 1) columns marks) (ids_above k.id (n + 1) columns marks all.0)) (ids_ascend (n + 1) columns marks all.1)

  -- each row is a document of the schema
  docs_are : (schema : Schema) (n : ℕ) (columns : List RowColumns) (marks : List RowMarks) → length schema.fields ≡ fields → length schema.attrs ≡ attrs
      → AllByRecursion (AreColumns attrs) columns → GoodRows fields words lists n marks
      → AllByRecursion (λ (r : DocRow). IsDocOf schema r.doc) (rows_made words lists n columns marks)
  docs_are schema n [] marks f a is good = tt
  docs_are schema n (k ∷ columns) [] f a is good = tt
  docs_are schema n (k ∷ columns) (m ∷ marks) f a is good = (
    record {
      fields = field_count fields words lists n k m few long are apart good.0 ∙ sym f;
      values = is.0.many ∙ sym a;
      tokens = tokens fields words lists n k m few long are apart good.0;
      few_spans = span_total fields words lists n k m few long are apart good.0;
    },
    docs_are schema (n + 1) columns marks f a is.1 good.1,
  )

  rooms : (n : ℕ) (columns : List RowColumns) (marks : List RowMarks) → AllByRecursion (AreColumns attrs) columns
      → AllByRecursion HasRoom (rows_made words lists n columns marks)
  rooms n [] marks is = tt
  rooms n (k ∷ columns) [] is = tt
  rooms n (k ∷ columns) (m ∷ marks) is = (record { id = is.0.id; born = is.0.born; values = is.0.values }, rooms (n + 1) columns marks is.1)

  -- no more words than hits
  few_in_all : (n : ℕ) (columns : List RowColumns) (marks : List RowMarks) → GoodRows fields words lists n marks
      → sum_by word_count (rows_made words lists n columns marks) ≤ total (λ row. total (λ (list : List Entry). length (hits_in row list)) lists) (from_on (length marks) n)
  few_in_all n [] marks good = omega arith
  few_in_all n (k ∷ columns) [] good = omega arith
  few_in_all n (k ∷ columns) (m ∷ marks) good =
      let its = row_count words lists n m.fields m.spans good.0.covered (places_ascend 0 m.fields (omega (arith, good.0.many, few)) (well_placed lists n 0 m.fields good.0.covered)) good.0.within good.0.ascend in
      omega (arith, few_in_all (n + 1) columns marks good.1, its, sum_by-cons word_count (row_made words lists n k m) (rows_made words lists (n + 1) columns marks))

  -- a word that a row has is one of them
  in_words : (w : List ℕ) (ts : List TokenWord) → AllByRecursion (λ (t : TokenWord). Contains words t.word) ts → list_any (is_word w) ts ≡ true → Contains words w
  in_words w [] all e = absurd cc
  in_words w (t ∷ ts) all e = by (in_words w ts all.1) (is_word w t) refl e
    where
      by : (list_any (is_word w) ts ≡ true → Contains words w) → (b : Bool) → is_word w t ≡ b → (b || list_any (is_word w) ts) ≡ true → Contains words w
      by later true is e = subst (Contains words) ((bytes_eq-Decides t.word w).0 is) all.0
      by later false is e = later e

  in_fields : (w : List ℕ) (row n : ℕ) (ms : List FieldMarks) (spans : List FieldSpan) → AllByRecursion (Contains words) words → AreOwned lists row n ms
      → list_any (λ (f : FieldTokens). list_any (is_word w) f.words) (with_spans n (row_words (word_at words lists row) n ms) spans) ≡ true → Contains words w
  in_fields w row n [] spans all cover e = absurd cc
  in_fields w row n (m ∷ ms) spans all cover e =
      let ts = words_between (λ p. word_at words lists row (n * 65536 + p)) m.last 1 kinds.None m.gaps in
      let each = placed_between (λ (t : TokenWord). Contains words t.word) (λ p. word_at words lists row (n * 65536 + p)) m.last 1 m.last kinds.None m.gaps [] (omega arith) (lower m.last m.gaps cover.0.placed.between)
      (λ at gap low up free. of_word (Contains words) row (n * 65536 + at) words lists long all (omega (arith, one_free (is_taken m.gaps at) (owners lists row (n * 65536 + at)) (cover.0.each at low up) free))) in
      by (in_words w ts each) (in_fields w row (n + 1) ms (later_spans n spans) all cover.1) (list_any (is_word w) ts) refl e
    where
      by : (list_any (is_word w) (words_between (λ p. word_at words lists row (n * 65536 + p)) m.last 1 kinds.None m.gaps) ≡ true → Contains words w)
          → (list_any (λ (f : FieldTokens). list_any (is_word w) f.words) (with_spans (n + 1) (row_words (word_at words lists row) (n + 1) ms) (later_spans n spans)) ≡ true → Contains words w)
          → (b : Bool) → list_any (is_word w) (words_between (λ p. word_at words lists row (n * 65536 + p)) m.last 1 kinds.None m.gaps) ≡ b → (b || list_any (λ (f : FieldTokens). list_any (is_word w) f.words) (with_spans (n + 1) (row_words (word_at words lists row) (n + 1) ms) (later_spans n spans))) ≡ true → Contains words w
      by here later true is e = here is
      by here later false is e = later e

  in_rows : (w : List ℕ) (n k : ℕ) (columns : List RowColumns) (marks : List RowMarks) → AllByRecursion (Contains words) words → GoodRows fields words lists n marks
      → 1 ≤ length (filter (λ (e : ℕ × DocRow). has_word w e.1) (enumerate_from k (rows_made words lists n columns marks))) → Contains words w
  in_rows w n k [] marks all good some = absurd (omega (arith, some))
  in_rows w n k (first ∷ columns) [] all good some = absurd (omega (arith, some))
  in_rows w n k (first ∷ columns) (m ∷ marks) all good some =
      by (in_fields w n 0 m.fields m.spans all good.0.covered) (in_rows w (n + 1) (k + 1) columns marks all good.1) (has_word w (row_made words lists n first m)) refl some
    where
      by : (has_word w (row_made words lists n first m) ≡ true → Contains words w)
          → (1 ≤ length (filter (λ (e : ℕ × DocRow). has_word w e.1) (enumerate_from (k + 1) (rows_made words lists (n + 1) columns marks))) → Contains words w)
          → (b : Bool) → has_word w (row_made words lists n first m) ≡ b
          → 1 ≤ length (cond b ((k, row_made words lists n first m) ∷ filter (λ (e : ℕ × DocRow). has_word w e.1) (enumerate_from (k + 1) (rows_made words lists (n + 1) columns marks))) (filter (λ (e : ℕ × DocRow). has_word w e.1) (enumerate_from (k + 1) (rows_made words lists (n + 1) columns marks)))) → Contains words w
      by here later true is some = here is
      by here later false is some = later some

contains_own : (words : List (List ℕ)) → AllByRecursion (Contains words) words
contains_own words = recursion_from_All (Contains words) words (λ i d h. (i, h, get_or_default words i (get_or words i d) d h))

some_rows : (rows : List DocRow) (ws : List (List ℕ)) (ls : List (List Entry)) → AllZip (λ w l. postings w 0 rows ≡ l) ws ls → AllByRecursion (λ l. 1 ≤ length l) ls
    → AllByRecursion (λ w. 0 < length (rows_with w rows)) ws
some_rows rows [] [] zip some = tt
some_rows rows [] (l ∷ ls) zip some = absurd zip
some_rows rows (w ∷ ws) [] zip some = absurd zip
some_rows rows (w ∷ ws) (l ∷ ls) zip some = (omega (arith, many w rows, ap length zip.0, some.0), some_rows rows ws ls zip.1 some.1)

-- what good parts spell is the image of rows of the schema
pub whole : (schema : Schema) (c : Contents) (bytes : List ℕ) → IsSchema schema → AreContentsOf schema c → bytes ≡ contents_image schema c
    → AreRowsOf schema (rows_made c.words c.lists 0 c.columns c.marks) × AreSmall (rows_made c.words c.lists 0 c.columns c.marks) × IsImageOf schema (rows_made c.words c.lists 0 c.columns c.marks) bytes
whole schema c bytes limits good is =
    let few : length schema.fields ≤ 32 = limits.few_fields in
    let F = length schema.fields in let A = length schema.attrs in
    let rows = rows_made c.words c.lists 0 c.columns c.marks in
    let zip = all_posted F c.words c.lists few good.words_n good.are good.apart c.columns c.marks good.rows_n good.rows good.lists in
    let n : length rows ≡ length c.columns = counted F c.words c.lists few good.words_n good.are good.apart 0 c.columns c.marks good.rows_n in (
      record {
        ids = ids_ascend F A c.words c.lists few good.words_n good.are good.apart 0 c.columns c.marks good.ids;
        docs = All-from_recursion (λ (r : DocRow). IsDocOf schema r.doc) rows (docs_are F A c.words c.lists few good.words_n good.are good.apart schema 0 c.columns c.marks refl refl good.columns good.rows);
      },
      record { few_rows = omega (arith, n, good.few_rows); few_words = omega (arith, few_in_all F A c.words c.lists few good.words_n good.are good.apart 0 c.columns c.marks good.rows, lists_total (length c.marks) 0 c.lists, good.few_hits) },
      record {
        words = c.words;
        are = record {
          ascend = good.ascend;
          each = All-from_recursion (λ w. 0 < length (rows_with w rows)) c.words (some_rows rows c.words c.lists zip good.some);
          all = λ w some. in_rows F A c.words c.lists few good.words_n good.are good.apart w 0 0 c.columns c.marks (contains_own c.words) good.rows (omega (arith, some, length-map {B = ℕ} (filter (λ (e : ℕ × DocRow). has_word w e.1) (enumerate_from 0 rows)) (λ (e : ℕ × DocRow). e.0)));
        };
        few_words = good.few_words;
        room = All-from_recursion HasRoom rows (rooms F A c.words c.lists few good.words_n good.are good.apart 0 c.columns c.marks good.columns);
        is = is ∙ sym (image_is schema c limits good);
      },
    )
