-- Parts that are good are those of rows.
use Rattle.std.proofs.Common.{◌≡◌, ℕ, suc, ◌+◌, ◌≤◌, List, [], ◌∷◌, ◌++◌, length, refl, sym, ap, ◌∙◌, arith}
use Rattle.std.specs.Int.{w32, to_le_bytes}
use Rattle.std.specs.List.{AllByRecursion, AllZip, flat_map}
use Rattle.doc_types.specs.declared.documents.DocRow.{DocRow}
use Rattle.doc_types.specs.declared.schema.Schema.{Schema}
use Rattle.doc_types.specs.Documents.{IsWord}
use Rattle.doc_types.specs.Schemas.{IsSchema}
use Rattle.doc_types.specs.Chunks.{hits_of, rows_with}
use Rattle.posting_codec.specs.PostingLists.{posting_list}
use Rattle.chunk_image.specs.AlikeRows.{postings}
use Rattle.chunk_image.specs.ChunkImage.{image, marks_bytes, postings_bytes, rows_bytes, table_bytes, word_postings}
use Rattle.chunk_image.specs.Marks.{row_marks}
use Rattle.chunk_image.proofs.WordsTold.{many}
use Rattle.chunk_damage.specs.WordLists.{AreEntries, Entry}
use Rattle.chunk_damage.specs.RowMarks.{RowMarks, mark_bytes}
use Rattle.chunk_damage.specs.Cover.{hits_in}
use Rattle.image_rows.specs.steps.Contents.{Contents, RowColumns, contents_image, entries_bytes, row_spelled as first_spelled, rows_spelled, lists_bytes, row_made, rows_made}
use Rattle.image_rows.specs.steps.ContentsOf.{AllDiffer, AreContentsOf, GoodRows}
use Rattle.image_rows.proofs.Posting.{HaveHits, posted}
use Rattle.image_rows.proofs.RowHits.{both_zip, map_zip, of_lists, row_hits}
use Rattle.image_rows.proofs.RowMade.{marks_same}

module _ (fields : ℕ) (words : List (List ℕ)) (lists : List (List Entry)) (few : fields ≤ 32) (long : length words ≡ length lists) (are : AllByRecursion IsWord words) (apart : AllDiffer words) where
  marks_are : (n : ℕ) (columns : List RowColumns) (marks : List RowMarks) → length columns ≡ length marks → GoodRows fields words lists n marks
      → marks_bytes (rows_made words lists n columns marks) ≡ flat_map mark_bytes marks
  marks_are n [] [] same good = refl
  marks_are n [] (m ∷ marks) same good = absurd (omega (arith, same))
  marks_are n (first ∷ columns) [] same good = refl
  marks_are n (first ∷ columns) (m ∷ marks) same good =
      ap (λ l. l ++ marks_bytes (rows_made words lists (n + 1) columns marks)) (marks_same fields words lists n first m few long are apart good.0)
      ∙ ap (λ l. mark_bytes m ++ l) (marks_are (n + 1) columns marks (omega (arith, same)) good.1)

  rows_are : (n at : ℕ) (columns : List RowColumns) (marks : List RowMarks) → length columns ≡ length marks → GoodRows fields words lists n marks
      → rows_bytes at (rows_made words lists n columns marks) ≡ rows_spelled at columns marks
  rows_are n at [] marks same good = refl
  rows_are n at (first ∷ columns) [] same good = refl
  rows_are n at (first ∷ columns) (m ∷ marks) same good =
      let here : at + length (row_marks (row_made words lists n first m)) ≡ at + length (mark_bytes m) = ap (λ l. at + length l) (marks_same fields words lists n first m few long are apart good.0) in
      ap (λ k. first_spelled at first ++ rows_bytes k (rows_made words lists (n + 1) columns marks)) here
      ∙ ap (λ l. first_spelled at first ++ l) (rows_are (n + 1) (at + length (mark_bytes m)) columns marks (omega (arith, same)) good.1)

  pub counted : (n : ℕ) (columns : List RowColumns) (marks : List RowMarks) → length columns ≡ length marks
      → length (rows_made words lists n columns marks) ≡ length columns
  counted n [] marks same = refl
  counted n (first ∷ columns) [] same = absurd (omega (arith, same))
  counted n (first ∷ columns) (m ∷ marks) same = ap suc (counted (n + 1) columns marks (omega (arith, same)))

  -- each word has its hits in each row
  all_hits : (n : ℕ) (columns : List RowColumns) (marks : List RowMarks) → length columns ≡ length marks → GoodRows fields words lists n marks
      → AllZip (λ w l. HaveHits w l n (rows_made words lists n columns marks)) words lists
  all_hits n [] marks same good = of_lists (λ l. Unit {0}) words lists long (all_tt lists)
    where
      all_tt : (ls : List (List Entry)) → AllByRecursion (λ (l : List Entry). Unit {0}) ls
      all_tt [] = tt
      all_tt (l ∷ ls) = (tt, all_tt ls)
  all_hits n (first ∷ columns) [] same good = absurd (omega (arith, same))
  all_hits n (first ∷ columns) (m ∷ marks) same good =
      both_zip (λ w l. hits_of w (row_made words lists n first m) ≡ hits_in n l) (λ w l. HaveHits w l (n + 1) (rows_made words lists (n + 1) columns marks)) words lists (row_hits fields words lists n first m few long apart good.0) (all_hits (n + 1) columns marks (omega (arith, same)) good.1)

  pub all_posted : (columns : List RowColumns) (marks : List RowMarks) → length columns ≡ length marks → GoodRows fields words lists 0 marks
      → AllByRecursion (AreEntries (length columns) 0) lists → AllZip (λ w l. postings w 0 (rows_made words lists 0 columns marks) ≡ l) words lists
  all_posted columns marks same good entries =
      let all = both_zip (λ w l. HaveHits w l 0 (rows_made words lists 0 columns marks)) (λ w l. AreEntries (length columns) 0 l) words lists (all_hits 0 columns marks same good) (of_lists (AreEntries (length columns) 0) words lists long entries) in
      map_zip _ (λ w l. postings w 0 (rows_made words lists 0 columns marks) ≡ l) words lists (λ w l its. posted w (length columns) 0 0 (rows_made words lists 0 columns marks) l (omega (arith, counted 0 columns marks same)) (omega arith) its.1 its.0) all

-- the posting lists of words whose entries are these
lists_are : (rows : List DocRow) (ws : List (List ℕ)) (ls : List (List Entry)) → AllZip (λ w l. postings w 0 rows ≡ l) ws ls → postings_bytes rows ws ≡ lists_bytes ls
unfolding word_postings
lists_are rows [] [] all = refl
lists_are rows [] (l ∷ ls) all = absurd all
lists_are rows (w ∷ ws) [] all = absurd all
lists_are rows (w ∷ ws) (l ∷ ls) all = ap (λ e. posting_list 0 e ++ postings_bytes rows ws) all.0 ∙ ap (λ b. posting_list 0 l ++ b) (lists_are rows ws ls all.1)

table_is : (rows : List DocRow) (a b : ℕ) (ws : List (List ℕ)) (ls : List (List Entry)) → AllZip (λ w l. postings w 0 rows ≡ l) ws ls
    → table_bytes rows a b ws ≡ entries_bytes a b ws ls
unfolding word_postings
table_is rows a b [] [] all = refl
table_is rows a b [] (l ∷ ls) all = absurd all
table_is rows a b (w ∷ ws) [] all = absurd all
table_is rows a b (w ∷ ws) (l ∷ ls) all =
    let count : length (rows_with w rows) ≡ length l = sym (many w rows) ∙ ap length all.0 in
    let size : b + length (posting_list 0 (postings w 0 rows)) ≡ b + length (posting_list 0 l) = ap (λ e. b + length (posting_list 0 e)) all.0 in
    ap (λ c. to_le_bytes w32 a ++ to_le_bytes w32 c ++ to_le_bytes w32 b ++ table_bytes rows (a + 1 + length w) (b + length (posting_list 0 (postings w 0 rows))) ws) count
    ∙ ap (λ k. to_le_bytes w32 a ++ to_le_bytes w32 (length l) ++ to_le_bytes w32 b ++ table_bytes rows (a + 1 + length w) k ws) size
    ∙ ap (λ t. to_le_bytes w32 a ++ to_le_bytes w32 (length l) ++ to_le_bytes w32 b ++ t) (table_is rows (a + 1 + length w) (b + length (posting_list 0 l)) ws ls all.1)

-- the image of the rows is that of the parts
pub image_is : (schema : Schema) (c : Contents) → IsSchema schema → AreContentsOf schema c
    → image schema (rows_made c.words c.lists 0 c.columns c.marks) c.words ≡ contents_image schema c
image_is schema c limits good =
    let few : length schema.fields ≤ 32 = limits.few_fields in
    let rows = rows_made c.words c.lists 0 c.columns c.marks in
    let zip = all_posted (length schema.fields) c.words c.lists few good.words_n good.are good.apart c.columns c.marks good.rows_n good.rows good.lists in
    let n : length rows ≡ length c.columns = counted (length schema.fields) c.words c.lists few good.words_n good.are good.apart 0 c.columns c.marks good.rows_n in
    let m : marks_bytes rows ≡ flat_map mark_bytes c.marks = marks_are (length schema.fields) c.words c.lists few good.words_n good.are good.apart 0 c.columns c.marks good.rows_n good.rows in
    let k : rows_bytes 0 rows ≡ rows_spelled 0 c.columns c.marks = rows_are (length schema.fields) c.words c.lists few good.words_n good.are good.apart 0 0 c.columns c.marks good.rows_n good.rows in
    let t : table_bytes rows 0 0 c.words ≡ entries_bytes 0 0 c.words c.lists = table_is rows 0 0 c.words c.lists zip in
    let l : postings_bytes rows c.words ≡ lists_bytes c.lists = lists_are rows c.words c.lists zip in
    rw (n, m, k, t, l) refl
