-- Bytes without damage are an image of rows.
use Rattle.std.proofs.Common.{◌≡◌, ℕ, ◌+◌, ◌*◌, ◌<◌, ◌≤◌, Bool, true, false, cond, eqb, List, [], ◌∷◌, ◌++◌, length, All, refl, sym, ap, subst, ◌∙◌, arith, append_assoc, append-nil, inl, inr}
use Rattle.std.specs.Int.{w16, w32, to_le_bytes}
use Rattle.std.specs.List.{AllByRecursion, flat_map}
use Rattle.std.proofs.lemmas.List.{get_or_past, length-drop, take_all}
use Rattle.std.proofs.lemmas.Bool.{cases_lt}
use Rattle.std.proofs.lemmas.List.Elements.{All-from_recursion}
use Rattle.doc_types.specs.declared.documents.DocRow.{DocRow}
use Rattle.doc_types.specs.declared.schema.Schema.{Schema}
use Rattle.doc_types.specs.Schemas.{IsSchema}
use Rattle.byte_fields.proofs.Taking.{IsBytes}
use Rattle.posting_codec.specs.HitLists.{Ascend}
use Rattle.chunk_image.specs.ChunkImage.{dictionary_bytes, magic, word_bytes}
use Rattle.chunk_image.proofs.WordsTold.{words_told}
use Rattle.image_parts.specs.Images.{HasZones}
use Rattle.item_lists.specs.Items.{AllFit, spelled}
use Rattle.chunk_damage.specs.Header.{HasMagic, dictionary_at, dictionary_part, four_in, marks_at, marks_part, postings_at, postings_part, row_at, row_size, rows_in, table_at, table_part, two_in, words_in}
use Rattle.chunk_damage.specs.RowMarks.{AreTold, Before, RowMarks, and_marks, mark_bytes}
use Rattle.chunk_damage.specs.RowMarks.{bytes_of as marks_of}
use Rattle.chunk_damage.specs.WordTable.{IsEntered, and_word}
use Rattle.chunk_damage.specs.WordTable.{bytes_of as entered_of}
use Rattle.chunk_damage.specs.WordOrder.{and_word as and_next, bytes_of as ordered_of}
use Rattle.chunk_damage.specs.WordLists.{AreEntries, Entry, and_list}
use Rattle.chunk_damage.specs.WordLists.{bytes_of as list_of}
use Rattle.chunk_damage.specs.Cover.{AllCovered, hits_in}
use Rattle.chunk_damage.specs.Damage.{IsUndamaged}
use Rattle.image_rows.specs.Images.{IsImage}
use Rattle.image_rows.specs.steps.Owned.{word_at}
use Rattle.image_rows.specs.steps.Contents.{Contents, contents_image, entries_bytes, rows_spelled, lists_bytes, rows_made}
use Rattle.image_rows.specs.steps.ContentsOf.{AreContentsOf, GoodRows}
use Rattle.image_rows.proofs.Counting.{lists_long}
use Rattle.image_rows.proofs.Columns.{as_many, ids_ascend, rows_are, columns_fit, columns_in}
use Rattle.image_rows.proofs.Marked.{all_within, owned, spans_fit}
use Rattle.image_rows.proofs.Pieces.{are_bytes, four_back, four_small, piece, piece_long, rest_of, two_back, two_pieces}
use Rattle.image_rows.proofs.Rowing.{well_placed}
use Rattle.image_rows.proofs.Table.{Further, all_entries, at_front, entries_are, some_entries}
use Rattle.image_rows.proofs.Whole.{whole}
use Rattle.image_rows.proofs.Words.{apart, are_words, ascend}
use Rattle.image_rows.proofs.Zones.{rows_short}

-- a list of bytes has no greater number, past its end either
pub are_all_bytes : (bytes : List ℕ) → All (λ byte. byte < 256) bytes → IsBytes bytes
are_all_bytes bytes all i =
    elim (cases_lt i (length bytes)) [
      | inl low ↦ all i 0 low
      | inr past ↦ omega (arith, get_or_past bytes i 0 past)
    ]

-- ---- what parts are spelled as

marks_spelled : (before : Before) (marks : List RowMarks) → spelled marks_of and_marks before marks ≡ flat_map mark_bytes marks
marks_spelled before [] = refl
marks_spelled before (m ∷ marks) = ap (λ l. mark_bytes m ++ l) (marks_spelled (and_marks before m) marks)

entered_spelled : (before : ℕ × ℕ) (words : List (List ℕ)) → spelled entered_of and_word before words ≡ dictionary_bytes words
entered_spelled before [] = refl
entered_spelled before (w ∷ words) = ap (λ l. word_bytes w ++ l) (entered_spelled (and_word before w) words)

ordered_spelled : (before : List ℕ) (words : List (List ℕ)) → spelled ordered_of and_next before words ≡ dictionary_bytes words
ordered_spelled before [] = refl
ordered_spelled before (w ∷ words) = ap (λ l. word_bytes w ++ l) (ordered_spelled w words)

lists_spelled : (n : ℕ) (lists : List (List Entry)) → spelled list_of and_list n lists ≡ lists_bytes lists
lists_spelled n [] = refl
lists_spelled n (l ∷ lists) = ap (λ r. list_of n l ++ r) (lists_spelled (n + 1) lists)

-- ---- rows

hits_ascend : (rows least row : ℕ) (list : List Entry) → AreEntries rows least list → Ascend 0 (hits_in row list)
hits_ascend rows least row [] are = tt
hits_ascend rows least row (e ∷ list) are = by (eqb e.0 row) (hits_ascend rows (e.0 + 1) row list are.2)
  where
    by : (b : Bool) → Ascend 0 (hits_in row list) → Ascend 0 (cond b e.1 (hits_in row list))
    by true later = are.0.are.ascend
    by false later = later

all_ascend : (rows row : ℕ) (lists : List (List Entry)) → AllByRecursion (AreEntries rows 0) lists → AllByRecursion (λ list. Ascend 0 (hits_in row list)) lists
all_ascend rows row [] are = tt
all_ascend rows row (l ∷ lists) are = (hits_ascend rows 0 row l are.0, all_ascend rows row lists are.1)

good_rows : (schema : Schema) (bytes : List ℕ) (rows : ℕ) (words : List (List ℕ)) (lists : List (List Entry)) (n at : ℕ) (marks : List RowMarks)
    → length schema.fields ≤ 32 → AllByRecursion (AreEntries rows 0) lists → AllFit and_marks (AreTold schema bytes) (n, at) marks → AllCovered lists n marks
    → GoodRows (length schema.fields) words lists n marks
good_rows schema bytes rows words lists n at [] few are told cover = tt
good_rows schema bytes rows words lists n at (m ∷ marks) few are told cover =
    let own = owned lists n 0 m.fields told.0.fits.fields_fit cover.0.fields in (
      record {
        many = told.0.fits.many;
        covered = own;
        few_spans = told.0.fits.few;
        spans = spans_fit (word_at words lists n) m.fields _ m.spans (omega (arith, told.0.fits.many, few)) (well_placed lists n 0 m.fields own) told.0.fits.spans_fit;
        within = all_within m.fields (hits_in n) lists cover.0.inside;
        ascend = all_ascend rows n lists are;
      },
      good_rows schema bytes rows words lists (n + 1) (at + length (mark_bytes m)) marks few are told.1 cover.1,
    )

-- ---- the bytes, part by part

abbrev header_of : ℕ → ℕ → ℕ → ℕ → ℕ → ℕ → ℕ → List ℕ
header_of rows fields attrs words marks dictionary postings =
    magic ++ to_le_bytes w32 rows ++ to_le_bytes w16 fields ++ to_le_bytes w16 attrs ++ to_le_bytes w32 words ++ to_le_bytes w32 marks ++ to_le_bytes w32 dictionary ++ to_le_bytes w32 postings

header_is : (bytes : List ℕ) → IsBytes bytes → 32 ≤ length bytes → HasMagic bytes
    → piece 32 0 bytes ≡ header_of (rows_in bytes) (two_in bytes 12) (two_in bytes 14) (words_in bytes) (four_in bytes 20) (four_in bytes 24) (four_in bytes 28)
header_is bytes fit long begins =
    let a = four_back 8 bytes fit (omega (arith, long)) in
    let b = two_back 12 bytes fit (omega (arith, long)) in
    let c = two_back 14 bytes fit (omega (arith, long)) in
    let d = four_back 16 bytes fit (omega (arith, long)) in
    let e = four_back 20 bytes fit (omega (arith, long)) in
    let f = four_back 24 bytes fit (omega (arith, long)) in
    let g = four_back 28 bytes fit (omega (arith, long)) in
    let cut : piece 32 0 bytes ≡ piece 8 0 bytes ++ piece 4 8 bytes ++ piece 2 12 bytes ++ piece 2 14 bytes ++ piece 4 16 bytes ++ piece 4 20 bytes ++ piece 4 24 bytes ++ piece 4 28 bytes =
    two_pieces 28 4 0 bytes
    ∙ ap (λ l. l ++ piece 4 28 bytes) (two_pieces 24 4 0 bytes ∙ ap (λ l. l ++ piece 4 24 bytes) (two_pieces 20 4 0 bytes ∙ ap (λ l. l ++ piece 4 20 bytes) (two_pieces 16 4 0 bytes ∙ ap (λ l. l ++ piece 4 16 bytes)
    (two_pieces 14 2 0 bytes ∙ ap (λ l. l ++ piece 2 14 bytes) (two_pieces 12 2 0 bytes ∙ ap (λ l. l ++ piece 2 12 bytes) (two_pieces 8 4 0 bytes)))))) in
    cut ∙ (λ i. begins i ++ sym a i ++ sym b i ++ sym c i ++ sym d i ++ sym e i ++ sym f i ++ sym g i)

parts_are : (schema : Schema) (bytes : List ℕ)
    → bytes ≡ piece 32 0 bytes ++ piece (rows_in bytes * row_size schema) 32 bytes ++ marks_part schema bytes ++ table_part schema bytes ++ dictionary_part schema bytes ++ postings_part schema bytes
parts_are schema bytes =
    let a = piece 32 0 bytes in
    let b = piece (rows_in bytes * row_size schema) 32 bytes in
    let c = marks_part schema bytes in
    let d = table_part schema bytes in
    let e = dictionary_part schema bytes in
    let f = postings_part schema bytes in
    let nested : bytes ≡ a ++ (b ++ (c ++ (d ++ (e ++ f)))) =
    rest_of 32 0 bytes
    ∙ ap (λ l. a ++ l) (rest_of (rows_in bytes * row_size schema) 32 bytes ∙ ap (λ l. b ++ l) (rest_of (four_in bytes 20) (marks_at schema bytes) bytes ∙ ap (λ l. c ++ l) (rest_of (12 * words_in bytes) (table_at schema bytes) bytes ∙ ap (λ l. d ++ l) (rest_of (four_in bytes 24) (dictionary_at schema bytes) bytes)))) in
    nested
    ∙ sym (append_assoc (a ++ b ++ c ++ d) e f ∙ append_assoc (a ++ b ++ c) d (e ++ f) ∙ append_assoc (a ++ b) c (d ++ (e ++ f)) ∙ append_assoc a b (c ++ (d ++ (e ++ f))))

module _ (schema : Schema) (bytes : List ℕ) (fit : IsBytes bytes) (limits : IsSchema schema) (good : IsUndamaged schema bytes) where
  abbrev marks : List RowMarks
  marks = good.marks.0

  abbrev words : List (List ℕ)
  words = good.word_order.0

  abbrev lists : List (List Entry)
  lists = good.lists.0

  abbrev contents : Contents
  contents = record { columns = columns_in schema bytes 0 marks; marks = marks; words = words; lists = lists }

  abbrev table : List ℕ
  table = table_part schema bytes

  -- the lengths of parts
  marks_long : length (marks_part schema bytes) ≡ four_in bytes 20
  marks_long = piece_long (four_in bytes 20) (marks_at schema bytes) bytes (omega (arith, good.sizes.sum))

  table_long : length table ≡ 12 * words_in bytes
  table_long = piece_long (12 * words_in bytes) (table_at schema bytes) bytes (omega (arith, good.sizes.sum))

  dictionary_long : length (dictionary_part schema bytes) ≡ four_in bytes 24
  dictionary_long = piece_long (four_in bytes 24) (dictionary_at schema bytes) bytes (omega (arith, good.sizes.sum))

  postings_long : length (postings_part schema bytes) ≡ four_in bytes 28
  postings_long = omega (arith, length-drop (postings_at schema bytes) bytes, good.sizes.sum)

  -- and what they are
  marks_is : marks_part schema bytes ≡ flat_map mark_bytes marks
  marks_is = good.marks.1.is ∙ marks_spelled (0, 0) marks

  dictionary_is : dictionary_part schema bytes ≡ dictionary_bytes words
  dictionary_is = good.word_order.1.is ∙ ordered_spelled [] words

  postings_is : postings_part schema bytes ≡ lists_bytes lists
  postings_is = good.lists.1.is ∙ lists_spelled 0 lists

  same_words : good.table.0 ≡ words
  same_words =
      let its : dictionary_bytes good.table.0 ≡ dictionary_bytes words = sym (good.table.1.is ∙ entered_spelled (0, 0) good.table.0) ∙ dictionary_is in
      (words_told good.table.0 words [] [] (good.table.1.counted ∙ sym good.word_order.1.counted) (append-nil (dictionary_bytes good.table.0) ∙ its ∙ sym (append-nil (dictionary_bytes words)))).0

  entered : AllFit and_word (IsEntered table (postings_part schema bytes) (rows_in bytes)) (0, 0) words
  entered = subst (λ ws. AllFit and_word (IsEntered table (postings_part schema bytes) (rows_in bytes)) (0, 0) ws) same_words good.table.1.fit

  as_many_lists : length words ≡ length lists
  as_many_lists = good.word_order.1.counted ∙ sym good.lists.1.counted

  table_bytes : IsBytes table
  table_bytes = are_bytes (12 * words_in bytes) (table_at schema bytes) bytes fit

  table_is : table ≡ entries_bytes 0 0 words lists
  table_is =
      let long : 12 * 0 + 12 * length words ≤ length table = omega (arith, table_long, good.word_order.1.counted) in
      let its = entries_are table (postings_part schema bytes) (rows_in bytes) 0 0 0 words lists table_bytes as_many_lists long entered good.lists.1.fit (subst (λ l. Further table (postings_part schema bytes) 0 0 l) postings_is (at_front table (postings_part schema bytes))) in
      let all : piece (12 * length words) (12 * 0) table ≡ table = take_all (12 * length words) table (omega (arith, table_long, good.word_order.1.counted)) in
      sym all ∙ its

  rows_is : piece (rows_in bytes * row_size schema) 32 bytes ≡ rows_spelled 0 contents.columns marks
  rows_is =
      let n : length marks ≡ rows_in bytes = good.marks.1.counted in
      let size : length marks * row_size schema ≡ rows_in bytes * row_size schema = ap (λ k. k * row_size schema) n in
      let here : row_at schema 0 ≡ 32 = omega arith in
      let long : row_at schema 0 + length marks * row_size schema ≤ length bytes = omega (arith, here, size, good.sizes.sum) in
      ap (λ k. piece k 32 bytes) (sym size) ∙ ap (λ k. piece (length marks * row_size schema) k bytes) (sym here)
      ∙ rows_are schema bytes 0 0 marks fit long good.marks.1.fit

  head_is : piece 32 0 bytes ≡ header_of (length contents.columns) (length schema.fields) (length schema.attrs) (length words) (length (flat_map mark_bytes marks)) (length (dictionary_bytes words)) (length (lists_bytes lists))
  head_is =
      let a : rows_in bytes ≡ length contents.columns = sym (as_many schema bytes 0 marks ∙ good.marks.1.counted) in
      let d : words_in bytes ≡ length words = sym good.word_order.1.counted in
      let e : four_in bytes 20 ≡ length (flat_map mark_bytes marks) = sym marks_long ∙ ap length marks_is in
      let f : four_in bytes 24 ≡ length (dictionary_bytes words) = sym dictionary_long ∙ ap length dictionary_is in
      let g : four_in bytes 28 ≡ length (lists_bytes lists) = sym postings_long ∙ ap length postings_is in
      header_is bytes fit good.sizes.long good.magic_is ∙ (λ i. header_of (a i) (good.sizes.fields i) (good.sizes.attrs i) (d i) (e i) (f i) (g i))

  -- the bytes are those of the contents
  image_is : bytes ≡ contents_image schema contents
  image_is = parts_are schema bytes ∙ (λ i. head_is i ++ rows_is i ++ marks_is i ++ table_is i ++ dictionary_is i ++ postings_is i)

  its_entries : AllByRecursion (AreEntries (rows_in bytes) 0) lists
  its_entries = all_entries table (rows_in bytes) 0 lists good.lists.1.fit

  -- the contents are those of rows
  contents_are : AreContentsOf schema contents
  contents_are =
      let rows : length contents.columns ≡ length marks = as_many schema bytes 0 marks in
      let counted : length contents.columns ≡ rows_in bytes = rows ∙ good.marks.1.counted in
      record {
        rows_n = rows;
        words_n = as_many_lists;
        few_rows = omega (arith, counted, four_small 8 bytes fit);
        few_words = omega (arith, good.word_order.1.counted, four_small 16 bytes fit);
        few_hits = omega (arith, lists_long lists, ap length postings_is, postings_long, four_small 28 bytes fit);
        ids = ids_ascend schema bytes (rows_in bytes) 0 marks good.row_order (omega (arith, good.marks.1.counted));
        columns = columns_fit schema bytes 0 marks fit;
        rows = good_rows schema bytes (rows_in bytes) words lists 0 0 marks limits.few_fields its_entries good.marks.1.fit good.cover;
        lists = subst (λ k. AllByRecursion (AreEntries k 0) lists) (sym counted) its_entries;
        some = some_entries table (postings_part schema bytes) (rows_in bytes) 0 0 words lists as_many_lists entered good.lists.1.fit;
        ascend = ascend [] words good.word_order.1.fit;
        apart = apart [] words good.word_order.1.fit;
        are = are_words [] words good.word_order.1.fit;
      }

  pub undamaged : IsImage schema bytes
  undamaged =
      let rows : List DocRow = rows_made words lists 0 contents.columns marks in
      let its = whole schema contents bytes limits contents_are image_is in
      record {
        rows = rows;
        of = its.0;
        small = its.1;
        zones = All-from_recursion HasZones rows (rows_short (length schema.fields) words lists 0 contents.columns marks contents_are.rows);
        are = its.2;
      }
