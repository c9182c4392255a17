-- Bytes without damage have no place where they are wrong, and bytes have one first damage at most.
use Rattle.std.proofs.Common.{◌≡◌, ℕ, zero, suc, ◌+◌, ◌-◌, ◌*◌, ◌<◌, ◌≤◌, List, [], ◌∷◌, ◌++◌, length, refl, sym, ap, subst, ◌∙◌, arith, inl, inr, append-nil, length-append}
use Rattle.std.proofs.lemmas.Bool.{cases_lt}
use Rattle.doc_types.specs.declared.schema.Schema.{Schema}
use Rattle.item_lists.specs.Items.{AreAllItems, AreApart}
use Rattle.item_lists.proofs.Reading.{not_both, one_list, one_place}
use Rattle.chunk_damage.specs.declared.fault.BadChunk.{BadChunk}
use Rattle.chunk_damage.specs.declared.fault.ChunkKind.{ChunkKind}
use Rattle.chunk_damage.specs.declared.fault.ChunkKind.TheVariants as kinds
use Rattle.chunk_damage.specs.Header.{HasMagic, HasSizes, dictionary_at, dictionary_part, marks_at, marks_part, postings_at, postings_part, row_at, rows_in, table_at, table_part, words_in}
use Rattle.chunk_damage.specs.RowOrder.{AreAscending, IsUnordered, id_in}
use Rattle.chunk_damage.specs.RowMarks.{AreMarks, AreTold, RowMarks, and_marks, bytes_of as marks_bytes}
use Rattle.chunk_damage.specs.WordTable.{IsEntered, and_word, bytes_of as entered_bytes}
use Rattle.chunk_damage.specs.WordOrder.{IsNextWord, and_word as follow, bytes_of as ordered_bytes}
use Rattle.chunk_damage.specs.WordLists.{AreLists, Entry, IsList, and_list, bytes_of as list_bytes}
use Rattle.chunk_damage.specs.Cover.{AllCovered, IsCovered, IsUncovered}
use Rattle.chunk_damage.specs.Damage.{GoodBefore, HasLists, HasMarks, HasRowOrder, HasTable, HasWordOrder, IsBadChunk, IsBadCover, IsUndamaged, IsWrongAt}
use Rattle.chunk_damage.proofs.ListsApart.{lists_apart}
use Rattle.chunk_damage.proofs.MarksApart.{marks_apart}
use Rattle.chunk_damage.proofs.WordsApart.{entered_apart, ordered_apart}

-- bytes that are as many items are so once
one_all : {S A : Type 0} (write : S → A → List ℕ) (next : S → A → S) (Fits : S → A → Type 0) → AreApart write Fits → (bytes : List ℕ) (s : S) (count : ℕ) (xs ys : List A) → AreAllItems write next Fits bytes s count xs → AreAllItems write next Fits bytes s count ys → xs ≡ ys
one_all write next Fits apart bytes s count xs ys are aro = (one_list write next Fits apart s xs ys [] [] are.fit aro.fit (are.counted ∙ sym aro.counted) (ap (λ l. l ++ []) (sym are.is ∙ aro.is))).0

module _ (schema : Schema) (bytes : List ℕ) where
  one_marks : (marks others : List RowMarks) → AreMarks schema bytes marks → AreMarks schema bytes others → marks ≡ others
  one_marks marks others are aro = one_all marks_bytes and_marks (AreTold schema bytes) (marks_apart schema bytes) (marks_part schema bytes) (0, 0) (rows_in bytes) marks others are aro

  all_lists : (lists others : List (List Entry)) → AreLists schema bytes lists → AreLists schema bytes others → lists ≡ others
  all_lists lists others are aro =
      one_all list_bytes and_list (IsList (table_part schema bytes) (rows_in bytes)) (lists_apart (table_part schema bytes) (rows_in bytes)) (postings_part schema bytes) 0 (words_in bytes) lists others are aro

  -- ---- a part that is good isn't wrong

  before_it : (row : ℕ) → 1 ≤ row → row - 1 + 1 ≡ row
  before_it row some = omega (arith, some)

  in_order : (rows row : ℕ) → AreAscending schema bytes rows → row < rows → IsUnordered schema bytes row → ⊥
  in_order rows row order low bad =
      let same = before_it row bad.some in
      let above = order (row - 1) (omega (arith, same, low)) in
      omega (arith, above, bad.low, ap (id_in schema bytes) same)

  same_first : (lists : List (List Entry)) (n : ℕ) (a b : RowMarks) → a ≡ b → IsCovered lists n a → IsCovered lists (n + 0) b
  same_first lists n a b same covered = let number : n ≡ n + 0 = omega arith in subst (λ k. IsCovered lists k b) number (subst (IsCovered lists n) same covered)

  -- a row among those that are covered is
  covered_at : (lists : List (List Entry)) (n : ℕ) (before its : List RowMarks) (m : RowMarks) (behind rest : List RowMarks) → before ++ m ∷ behind ≡ its ++ rest → length before < length its → AllCovered lists n its → IsCovered lists (n + length before) m
  covered_at lists n before [] m behind rest e low all = absurd (omega (arith, low))
  covered_at lists n [] (x ∷ its) m behind rest e low all = let same : x ≡ m = cc in same_first lists n x m same all.0
  covered_at lists n (b ∷ before) (x ∷ its) m behind rest e low all =
      let tail : before ++ m ∷ behind ≡ its ++ rest = cc in
      let number : n + 1 + length before ≡ n + suc (length before) = omega arith in
      subst (λ k. IsCovered lists k m) number (covered_at lists (n + 1) before its m behind rest tail (omega (arith, low)) all.1)

  covered_row : (lists : List (List Entry)) (marks its rest : List RowMarks) (row : ℕ) (bad : IsUncovered lists marks row) → marks ≡ its ++ rest → row < length its → AllCovered lists 0 its → ⊥
  covered_row lists marks its rest row bad e low all =
      let number : 0 + length bad.before ≡ row = omega (arith, bad.number_is) in
      bad.bad (subst (λ k. IsCovered lists k bad.m) number (covered_at lists 0 bad.before its bad.m bad.behind rest (sym bad.are ∙ e) (omega (arith, bad.number_is, low)) all))

  -- where a part of this kind is good
  abbrev GoodPart : ChunkKind → Type 0
  GoodPart kinds.Magic = HasMagic bytes
  GoodPart kinds.Sizes = HasSizes schema bytes
  GoodPart kinds.RowOrder = HasRowOrder schema bytes
  GoodPart kinds.Marks = HasMarks schema bytes
  GoodPart kinds.WordTable = HasTable schema bytes
  GoodPart kinds.WordOrder = HasWordOrder schema bytes
  GoodPart kinds.Postings = HasLists schema bytes
  GoodPart kinds.Cover = (marks : List RowMarks) × (lists : List (List Entry)) × AreMarks schema bytes marks × AreLists schema bytes lists × AllCovered lists 0 marks

  not_wrong : (kind : ChunkKind) (place : ℕ) → GoodPart kind → IsWrongAt schema bytes kind place → ⊥
  not_wrong kinds.Magic place good wrong = wrong.0 good
  not_wrong kinds.Sizes place good wrong = wrong.0 good
  not_wrong kinds.RowOrder place good wrong = in_order (rows_in bytes) wrong.0 good wrong.1 wrong.2
  not_wrong kinds.Marks place good wrong = not_both marks_bytes and_marks (AreTold schema bytes) (marks_apart schema bytes) (marks_part schema bytes) (0, 0) (rows_in bytes) wrong.0 good.0 good.1 wrong.1
  not_wrong kinds.WordTable place good wrong =
      not_both entered_bytes and_word (IsEntered (table_part schema bytes) (postings_part schema bytes) (rows_in bytes)) (entered_apart (table_part schema bytes) (postings_part schema bytes) (rows_in bytes)) (dictionary_part schema bytes) (0, 0) (words_in bytes) wrong.1.place good.0 good.1 wrong.1.wrong
  not_wrong kinds.WordOrder place good wrong = not_both ordered_bytes follow IsNextWord ordered_apart (dictionary_part schema bytes) [] (words_in bytes) wrong.0 good.0 good.1 wrong.1
  not_wrong kinds.Postings place good wrong =
      not_both list_bytes and_list (IsList (table_part schema bytes) (rows_in bytes)) (lists_apart (table_part schema bytes) (rows_in bytes)) (postings_part schema bytes) 0 (words_in bytes) wrong.0 good.0 good.1 wrong.1
  not_wrong kinds.Cover place good wrong = cover wrong.0 wrong.1
    where
      cover : (row : ℕ) → IsBadCover schema bytes row → ⊥
      cover row bad =
          let marks : bad.marks ≡ good.0 = one_marks bad.marks good.0 bad.marks_are good.2 in
          let lists : bad.lists ≡ good.1 = all_lists bad.lists good.1 bad.lists_are good.3 in
          let all : AllCovered bad.lists 0 good.0 = subst (λ l. AllCovered l 0 good.0) (sym lists) good.4 in
          let within : row < length good.0 = omega (arith, bad.uncovered.number_is, ap length bad.uncovered.are, ap length marks, length-append bad.uncovered.before (bad.uncovered.m ∷ bad.uncovered.behind)) in
          covered_row bad.lists bad.marks good.0 [] row bad.uncovered (marks ∙ sym (append-nil good.0)) within all

  -- ---- two damages of one kind are at one place

  one_unordered : (row other : ℕ) → IsUnordered schema bytes row → IsUnordered schema bytes other → row ≡ other
  one_unordered row other a b = elim (cases_lt row other) [
    | inl low ↦ absurd (in_order other row b.ascend low a)
    | inr high ↦ elim (cases_lt other row) [
      | inl low ↦ absurd (in_order row other a.ascend low b)
      | inr same ↦ omega (arith, high, same)
    ]
  ]

  earlier : (row other : ℕ) (a : IsBadCover schema bytes row) (b : IsBadCover schema bytes other) → row < other → ⊥
  earlier row other a b low =
      let marks : a.marks ≡ b.marks = one_marks a.marks b.marks a.marks_are b.marks_are in
      let lists : a.lists ≡ b.lists = all_lists a.lists b.lists a.lists_are b.lists_are in
      let all : AllCovered a.lists 0 b.uncovered.before = subst (λ l. AllCovered l 0 b.uncovered.before) (sym lists) b.uncovered.good in
      covered_row a.lists a.marks b.uncovered.before (b.uncovered.m ∷ b.uncovered.behind) row a.uncovered (marks ∙ b.uncovered.are) (omega (arith, low, b.uncovered.number_is)) all

  one_uncovered : (row other : ℕ) → IsBadCover schema bytes row → IsBadCover schema bytes other → row ≡ other
  one_uncovered row other a b = elim (cases_lt row other) [
    | inl low ↦ absurd (earlier row other a b low)
    | inr high ↦ elim (cases_lt other row) [
      | inl low ↦ absurd (earlier other row b a low)
      | inr same ↦ omega (arith, high, same)
    ]
  ]

  same_place : (kind : ChunkKind) (place other : ℕ) → IsWrongAt schema bytes kind place → IsWrongAt schema bytes kind other → place ≡ other
  same_place kinds.Magic place other a b = a.1 ∙ sym b.1
  same_place kinds.Sizes place other a b = a.1 ∙ sym b.1
  same_place kinds.RowOrder place other a b = a.3 ∙ ap (row_at schema) (one_unordered a.0 b.0 a.2 b.2) ∙ sym b.3
  same_place kinds.Marks place other a b =
      let same = one_place marks_bytes and_marks (AreTold schema bytes) (marks_apart schema bytes) (marks_part schema bytes) (0, 0) (rows_in bytes) a.0 b.0 a.1 b.1 in
      a.2 ∙ ap (λ at. marks_at schema bytes + at) same.1 ∙ sym b.2
  same_place kinds.WordTable place other a b =
      let same = one_place entered_bytes and_word (IsEntered (table_part schema bytes) (postings_part schema bytes) (rows_in bytes)) (entered_apart (table_part schema bytes) (postings_part schema bytes) (rows_in bytes)) (dictionary_part schema bytes) (0, 0) (words_in bytes) a.1.place b.1.place a.1.wrong b.1.wrong in
      let number : a.0 ≡ b.0 = a.1.number_is ∙ ap length same.0 ∙ sym b.1.number_is in
      a.2 ∙ ap (λ n. table_at schema bytes + 12 * n) number ∙ sym b.2
  same_place kinds.WordOrder place other a b =
      let same = one_place ordered_bytes follow IsNextWord ordered_apart (dictionary_part schema bytes) [] (words_in bytes) a.0 b.0 a.1 b.1 in
      a.2 ∙ ap (λ at. dictionary_at schema bytes + at) same.1 ∙ sym b.2
  same_place kinds.Postings place other a b =
      let same = one_place list_bytes and_list (IsList (table_part schema bytes) (rows_in bytes)) (lists_apart (table_part schema bytes) (rows_in bytes)) (postings_part schema bytes) 0 (words_in bytes) a.0 b.0 a.1 b.1 in
      a.2 ∙ ap (λ at. postings_at schema bytes + at) same.1 ∙ sym b.2
  same_place kinds.Cover place other a b = a.2 ∙ ap (row_at schema) (one_uncovered a.0 b.0 a.1 b.1) ∙ sym b.2

  -- ---- and two damages are of one kind

  abbrev rank : ChunkKind → ℕ
  rank kinds.Magic = 0
  rank kinds.Sizes = 1
  rank kinds.RowOrder = 2
  rank kinds.Marks = 3
  rank kinds.WordTable = 4
  rank kinds.WordOrder = 5
  rank kinds.Postings = 6
  rank kinds.Cover = 7

  rank_most : (kind : ChunkKind) → rank kind ≤ 7
  rank_most kinds.Magic = omega arith
  rank_most kinds.Sizes = omega arith
  rank_most kinds.RowOrder = omega arith
  rank_most kinds.Marks = omega arith
  rank_most kinds.WordTable = omega arith
  rank_most kinds.WordOrder = omega arith
  rank_most kinds.Postings = omega arith
  rank_most kinds.Cover = omega arith

  -- what is looked at before a kind is good
  part_before : (kind later : ChunkKind) → rank kind < rank later → GoodBefore schema bytes later → GoodPart kind
  part_before kinds.Magic kinds.Sizes low good = good
  part_before kinds.Magic kinds.RowOrder low good = good.0
  part_before kinds.Magic kinds.Marks low good = good.0
  part_before kinds.Magic kinds.WordTable low good = good.0
  part_before kinds.Magic kinds.WordOrder low good = good.0
  part_before kinds.Magic kinds.Postings low good = good.0
  part_before kinds.Magic kinds.Cover low good = good.0
  part_before kinds.Sizes kinds.RowOrder low good = good.1
  part_before kinds.Sizes kinds.Marks low good = good.1
  part_before kinds.Sizes kinds.WordTable low good = good.1
  part_before kinds.Sizes kinds.WordOrder low good = good.1
  part_before kinds.Sizes kinds.Postings low good = good.1
  part_before kinds.Sizes kinds.Cover low good = good.1
  part_before kinds.RowOrder kinds.Marks low good = good.2
  part_before kinds.RowOrder kinds.WordTable low good = good.2
  part_before kinds.RowOrder kinds.WordOrder low good = good.2
  part_before kinds.RowOrder kinds.Postings low good = good.2
  part_before kinds.RowOrder kinds.Cover low good = good.2
  part_before kinds.Marks kinds.WordTable low good = good.3
  part_before kinds.Marks kinds.WordOrder low good = good.3
  part_before kinds.Marks kinds.Postings low good = good.3
  part_before kinds.Marks kinds.Cover low good = good.3
  part_before kinds.WordTable kinds.WordOrder low good = good.4
  part_before kinds.WordTable kinds.Postings low good = good.4
  part_before kinds.WordTable kinds.Cover low good = good.4
  part_before kinds.WordOrder kinds.Postings low good = good.5
  part_before kinds.WordOrder kinds.Cover low good = good.5
  part_before kinds.Postings kinds.Cover low good = good.6
  part_before kinds.Cover later low good = absurd (omega (arith, low, rank_most later))
  part_before kind later low good = absurd (omega (arith, low))

  of_rank : ℕ → ChunkKind
  of_rank zero = kinds.Magic
  of_rank (suc zero) = kinds.Sizes
  of_rank (suc (suc zero)) = kinds.RowOrder
  of_rank (suc (suc (suc zero))) = kinds.Marks
  of_rank (suc (suc (suc (suc zero)))) = kinds.WordTable
  of_rank (suc (suc (suc (suc (suc zero))))) = kinds.WordOrder
  of_rank (suc (suc (suc (suc (suc (suc zero)))))) = kinds.Postings
  of_rank (suc (suc (suc (suc (suc (suc (suc more))))))) = kinds.Cover

  ranked : (kind : ChunkKind) → of_rank (rank kind) ≡ kind
  unfolding of_rank
  ranked kinds.Magic = refl
  ranked kinds.Sizes = refl
  ranked kinds.RowOrder = refl
  ranked kinds.Marks = refl
  ranked kinds.WordTable = refl
  ranked kinds.WordOrder = refl
  ranked kinds.Postings = refl
  ranked kinds.Cover = refl

  no_earlier : (bad other : BadChunk) → IsBadChunk schema bytes bad → IsBadChunk schema bytes other → rank bad.kind < rank other.kind → ⊥
  no_earlier bad other a b low = not_wrong bad.kind bad.place (part_before bad.kind other.kind low b.good) a.wrong

  one_kind : (bad other : BadChunk) → IsBadChunk schema bytes bad → IsBadChunk schema bytes other → bad.kind ≡ other.kind
  one_kind bad other a b = elim (cases_lt (rank bad.kind) (rank other.kind)) [
    | inl low ↦ absurd (no_earlier bad other a b low)
    | inr high ↦ elim (cases_lt (rank other.kind) (rank bad.kind)) [
      | inl low ↦ absurd (no_earlier other bad b a low)
      | inr same ↦ let ranks : rank bad.kind ≡ rank other.kind = omega (arith, high, same) in sym (ranked bad.kind) ∙ ap of_rank ranks ∙ ranked other.kind
    ]
  ]

-- a first damage is one
pub one_damage : (schema : Schema) (bytes : List ℕ) (bad other : BadChunk) → IsBadChunk schema bytes bad → IsBadChunk schema bytes other → bad ≡ other
one_damage schema bytes bad other a b =
    let kind : bad.kind ≡ other.kind = one_kind schema bytes bad other a b in
    let place : bad.place ≡ other.place = same_place schema bytes other.kind bad.place other.place (subst (λ k. IsWrongAt schema bytes k bad.place) kind a.wrong) b.wrong in
    λ i. record { place = place i; kind = kind i }

-- bytes without damage aren't wrong anywhere
pub not_damaged : (schema : Schema) (bytes : List ℕ) (bad : BadChunk) → IsUndamaged schema bytes → IsBadChunk schema bytes bad → ⊥
not_damaged schema bytes bad good wrong = not_wrong schema bytes bad.kind bad.place (part bad.kind) wrong.wrong
  where
    part : (kind : ChunkKind) → GoodPart schema bytes kind
    part kinds.Magic = good.magic_is
    part kinds.Sizes = good.sizes
    part kinds.RowOrder = good.row_order
    part kinds.Marks = good.marks
    part kinds.WordTable = good.table
    part kinds.WordOrder = good.word_order
    part kinds.Postings = good.lists
    part kinds.Cover = (good.marks.0, good.lists.0, good.marks.1, good.lists.1, good.cover)
