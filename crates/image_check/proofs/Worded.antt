-- Words and lists that were read of parts by themselves are those of the image.
use Rattle.std.proofs.Common.{◌≡◌, ℕ, ◌<◌, ◌≤◌, List, [], ◌∷◌, Option, MatchOption, length, sym, ap, subst, ◌∙◌, arith, length-append}
use Rattle.std.specs.List.{AllByRecursion}
use Rattle.doc_types.specs.declared.schema.Schema.{Schema}
use Rattle.chunk_damage.specs.Header.{dictionary_part, postings_part, rows_in, table_part, words_in}
use Rattle.chunk_damage.specs.WordTable.{IsBadEntry}
use Rattle.chunk_damage.specs.WordOrder.{IsBadWord}
use Rattle.chunk_damage.specs.WordLists.{AreEntries, Entry, IsBadList}
use Rattle.chunk_damage.specs.RowMarks.{RowMarks}
use Rattle.chunk_damage.specs.Cover.{AllCovered, IsUncovered}
use Rattle.chunk_damage.specs.Damage.{HasTable, HasWordOrder}
use Rattle.image_words.specs.Parts.{AreEnteredIn, AreOrderedIn, IsBadEntryIn, IsBadWordIn}
use Rattle.image_cover.specs.Lists.{AreListsIn, IsBadListIn, places_of_lists}
use Rattle.image_cover.specs.Layouts.{AreLaid}
use Rattle.image_cover.specs.Places.{Seen, take_all}
use Rattle.image_cover.proofs.Taken.{all_long}
use Rattle.covered_rows.specs.Marked.{AllShort, AreMarked, ArePassed, IsStopped}
use Rattle.image_marks.proofs.Fronts.{laid_fit}
use Rattle.image_marks.proofs.Marking.{all_short, marks_fit}
use Rattle.image_marks.proofs.RowLaying.{laid_many}
use Rattle.image_head.specs.declared.header.Sizes.{Sizes}
use Rattle.image_check.specs.Begun.{HaveLists, HaveMarks, IsBegun, laid_in, width_of}
use Rattle.image_check.proofs.Damages.{all_entries}
use Rattle.image_check.proofs.InFront.{of_kept}

module _ (schema : Schema) (bytes : List ℕ) (sizes : Sizes) (is : IsBegun schema bytes sizes) where
  abbrev rows_are : sizes.rows ≡ rows_in bytes
  rows_are = is.head.are.rows

  abbrev words_are : sizes.words ≡ words_in bytes
  words_are = is.head.are.words

  -- what is said of table, postings, dictionary, and of how many rows and words, is said of the image's
  entries_moved : (P : List ℕ → List ℕ → ℕ → ℕ → List ℕ → Type 0) (table postings dictionary : List ℕ) → table ≡ table_part schema bytes → postings ≡ postings_part schema bytes → dictionary ≡ dictionary_part schema bytes
      → P table postings sizes.rows sizes.words dictionary → P (table_part schema bytes) (postings_part schema bytes) (rows_in bytes) (words_in bytes) (dictionary_part schema bytes)
  entries_moved P table postings dictionary t p d its =
      subst (λ x. P x (postings_part schema bytes) (rows_in bytes) (words_in bytes) (dictionary_part schema bytes)) t
      (subst (λ x. P table x (rows_in bytes) (words_in bytes) (dictionary_part schema bytes)) p
      (subst (λ x. P table postings x (words_in bytes) (dictionary_part schema bytes)) rows_are
      (subst (λ x. P table postings sizes.rows x (dictionary_part schema bytes)) words_are
      (subst (λ x. P table postings sizes.rows sizes.words x) d its))))

  pub has_table : (table postings dictionary : List ℕ) → table ≡ table_part schema bytes → postings ≡ postings_part schema bytes → dictionary ≡ dictionary_part schema bytes
      → (list : List (List ℕ)) × AreEnteredIn table postings sizes.rows sizes.words dictionary list → HasTable schema bytes
  has_table table postings dictionary t p d its = entries_moved (λ t p r w d. (list : List (List ℕ)) × AreEnteredIn t p r w d list) table postings dictionary t p d its

  pub wrong_entry : (table postings dictionary : List ℕ) (number : ℕ) → table ≡ table_part schema bytes → postings ≡ postings_part schema bytes → dictionary ≡ dictionary_part schema bytes
      → (at : ℕ) × (bad : IsBadEntryIn table postings sizes.rows sizes.words dictionary at) × (length bad.before ≡ number) → IsBadEntry schema bytes number
  wrong_entry table postings dictionary number t p d its =
      let moved = entries_moved (λ t p r w d. (at : ℕ) × (bad : IsBadEntryIn t p r w d at) × (length bad.before ≡ number)) table postings dictionary t p d its in
      record { place = moved.0; wrong = moved.1; number_is = sym moved.2 }

  pub entry_low : (number : ℕ) → (bad : IsBadEntry schema bytes number) → number < sizes.words
  entry_low number bad = omega (arith, bad.number_is, bad.wrong.some, words_are)

  pub has_order : (dictionary : List ℕ) → dictionary ≡ dictionary_part schema bytes → (list : List (List ℕ)) × AreOrderedIn sizes.words dictionary list → HasWordOrder schema bytes
  has_order dictionary d its =
      subst (λ x. (list : List (List ℕ)) × AreOrderedIn (words_in bytes) x list) d (subst (λ x. (list : List (List ℕ)) × AreOrderedIn x dictionary list) words_are its)

  pub wrong_word : (dictionary : List ℕ) (at : ℕ) → dictionary ≡ dictionary_part schema bytes → IsBadWordIn sizes.words dictionary at → IsBadWord schema bytes at
  wrong_word dictionary at d its = subst (λ x. IsBadWordIn (words_in bytes) x at) d (subst (λ x. IsBadWordIn x dictionary at) words_are its)

  lists_moved : (P : List ℕ → ℕ → ℕ → List ℕ → Type 0) (table postings : List ℕ) → table ≡ table_part schema bytes → postings ≡ postings_part schema bytes → P table sizes.rows sizes.words postings
      → P (table_part schema bytes) (rows_in bytes) (words_in bytes) (postings_part schema bytes)
  lists_moved P table postings t p its =
      subst (λ x. P x (rows_in bytes) (words_in bytes) (postings_part schema bytes)) t
      (subst (λ x. P table x (words_in bytes) (postings_part schema bytes)) rows_are
      (subst (λ x. P table sizes.rows x (postings_part schema bytes)) words_are (subst (λ x. P table sizes.rows sizes.words x) p its)))

  pub have_lists : (table postings starts : List ℕ) (before after : Seen) (width : ℕ) → table ≡ table_part schema bytes → postings ≡ postings_part schema bytes → HaveMarks schema bytes starts before → width ≡ width_of schema
      → (lists : List (List Entry)) × AreListsIn table sizes.rows sizes.words postings lists × (after ≡ take_all before (places_of_lists starts width lists)) → HaveLists schema bytes starts after
  have_lists table postings starts before after width t p marks wide its = record {
    before = before;
    marks = marks;
    lists = its.0;
    are = lists_moved (λ t r w p. AreListsIn t r w p its.0) table postings t p its.1;
    taken = its.2 ∙ ap (λ w. take_all before (places_of_lists starts w its.0)) wide;
  }

  -- where places begin
  pub starts_are : (starts : List ℕ) (s : Seen) (width : ℕ) → width ≡ width_of schema → HaveMarks schema bytes starts s → AreLaid starts width sizes.rows (length s.0)
  starts_are starts s width wide marks =
      subst (λ w. AreLaid starts w sizes.rows (length s.0)) (sym wide) (subst (λ n. AreLaid starts (width_of schema) n (length s.0)) (laid_many (length bytes) [] marks.marks ∙ marks.are.counted ∙ sym rows_are) marks.marked.laid)

  pub starts_still : (starts : List ℕ) (s : Seen) (width : ℕ) → width ≡ width_of schema → HaveLists schema bytes starts s → AreLaid starts width sizes.rows (length s.0)
  starts_still starts s width wide have =
      let long : length s.0 ≡ length have.before.0 = ap (λ (t : Seen). length t.0) have.taken ∙ all_long have.before (places_of_lists starts (width_of schema) have.lists) in
      subst (λ n. AreLaid starts width sizes.rows n) (sym long) (starts_are starts have.before width wide have.marks)

  -- what is found of the rows as they are laid out is found of the image's
  pub found_rows : (starts : List ℕ) (s : Seen) (width : ℕ) (found : Option ℕ) → width ≡ width_of schema → (have : HaveLists schema bytes starts s) → MatchOption found (ArePassed starts width s sizes.rows) (λ row. IsStopped starts width s sizes.rows row)
      → ((before : Seen) (marks : List RowMarks) (lists : List (List Entry)) → AreMarked starts width before marks → length marks ≡ sizes.rows → AllShort marks → AllByRecursion (AreEntries sizes.rows 0) lists → width ≤ 33
      → s ≡ take_all before (places_of_lists starts width lists) → MatchOption found (AllCovered lists 0 marks) (λ row. IsUncovered lists marks row))
      → MatchOption found (AllCovered have.lists 0 have.marks.marks) (λ row. IsUncovered have.lists have.marks.marks row)
  found_rows starts s width found wide have passed tells =
      let marks = have.marks.marks in
      let kept = laid_in bytes marks in
      let many : length kept ≡ sizes.rows = laid_many (length bytes) [] marks ∙ have.marks.are.counted ∙ sym rows_are in
      let fit = laid_fit (length bytes) [] marks (marks_fit schema bytes (0, 0) marks have.marks.are.fit) in
      let entries = subst (λ n. AllByRecursion (AreEntries n 0) have.lists) (sym rows_are) (all_entries (table_part schema bytes) (rows_in bytes) 0 have.lists have.are.fit) in
      let its = tells have.before kept have.lists (subst (λ w. AreMarked starts w have.before kept) (sym wide) have.marks.marked) many (all_short kept fit) entries (omega (arith, wide, is.limits.few_fields)) (have.taken ∙ ap (λ w. take_all have.before (places_of_lists starts w have.lists)) (sym wide)) in
      of_kept schema bytes sizes is starts s have found (subst (λ w. MatchOption found (ArePassed starts w s sizes.rows) (λ row. IsStopped starts w s sizes.rows row)) wide passed) its

  pub uncovered_low : (starts : List ℕ) (s : Seen) (row : ℕ) (have : HaveLists schema bytes starts s) → IsUncovered have.lists have.marks.marks row → row < sizes.rows
  uncovered_low starts s row have bad = omega (arith, bad.number_is, ap length bad.are, length-append bad.before (bad.m ∷ bad.behind), have.marks.are.counted, rows_are)

  pub wrong_list : (table postings : List ℕ) (at : ℕ) → table ≡ table_part schema bytes → postings ≡ postings_part schema bytes → IsBadListIn table sizes.rows sizes.words postings at → IsBadList schema bytes at
  wrong_list table postings at t p its = lists_moved (λ t r w p. IsBadListIn t r w p at) table postings t p its
