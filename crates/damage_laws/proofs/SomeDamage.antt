-- No bytes are without damage and damaged nowhere: where no part is wrong, each part is good, one behind the other. Whether a part is good
-- needn't be decided for that: who shows that it can't be wrong has shown that it can't but be good.
use Rattle.std.proofs.Common.{◌≡◌, ℕ, zero, suc, ◌+◌, ◌-◌, ◌*◌, ◌<◌, List, [], ◌∷◌, ◌++◌, length, take, drop, refl, sym, ap, subst, ◌∙◌, arith, inl, inr, append-nil, append_assoc, length-append, length-take, length-drop}
use Rattle.std.proofs.lemmas.Bool.{cases_lt}
use Rattle.doc_types.specs.declared.schema.Schema.{Schema}
use Rattle.item_lists.specs.Items.{AllFit, AreAllItems, IsFirstWrong, left_by, spelled}
use Rattle.item_lists.proofs.Reading.{fit_more, spell_more}
use Rattle.chunk_damage.specs.declared.fault.BadChunk.{BadChunk}
use Rattle.chunk_damage.specs.declared.fault.ChunkKind.TheVariants as kinds
use Rattle.chunk_damage.specs.Header.{HasMagic, HasSizes, dictionary_at, dictionary_part, four_in, marks_at, marks_part, postings_at, postings_part, row_at, rows_in, table_at, table_part, words_in}
use Rattle.chunk_damage.specs.RowOrder.{AreAscending, IsUnordered, id_in}
use Rattle.chunk_damage.specs.RowMarks.{AreTold, RowMarks, and_marks, bytes_of as marks_bytes}
use Rattle.chunk_damage.specs.WordTable.{IsEntered, and_word, bytes_of as entered_bytes}
use Rattle.chunk_damage.specs.WordOrder.{IsNextWord, and_word as follow, bytes_of as ordered_bytes}
use Rattle.chunk_damage.specs.WordLists.{Entry, IsList, and_list, bytes_of as list_bytes}
use Rattle.chunk_damage.specs.Cover.{AllCovered, IsCovered, IsUncovered}
use Rattle.chunk_damage.specs.Damage.{HasLists, HasMarks, HasRowOrder, HasTable, HasWordOrder, IsBadChunk, IsUndamaged}

-- ---- items

module _ {S A : Type 0} (write : S → A → List ℕ) (next : S → A → S) (Fits : S → A → Type 0) (bytes : List ℕ) (s : S) (count : ℕ) (not_all : (xs : List A) → AreAllItems write next Fits bytes s count xs → ⊥) (not_wrong : (place : ℕ) → IsFirstWrong write next Fits bytes s count place → ⊥) where
  -- nothing is left behind the last
  last : (more : ℕ) (before : List A) (rest : List ℕ) (x : A) (later : List ℕ) → AllFit next Fits s before → bytes ≡ spelled write next s before ++ rest → length before + suc more ≡ count
      → Fits (left_by next s before) x → rest ≡ write (left_by next s before) x ++ later → more ≡ 0 → later ≡ []
  last more before rest x [] fit is size fits here one = refl
  last more before rest x (b ∷ later) fit is size fits here one =
      absurd (not_wrong (length (spelled write next s before)) (record {
        before = before;
        rest = rest;
        fit = fit;
        is = is;
        place_is = refl;
        some = omega (arith, size);
        wrong = inr (omega (arith, size, one), (x, b ∷ later, fits, here, omega arith));
      }))

  one_more : (before : List A) (rest : List ℕ) (x : A) (later : List ℕ) → bytes ≡ spelled write next s before ++ rest → rest ≡ write (left_by next s before) x ++ later → bytes ≡ spelled write next s (before ++ x ∷ []) ++ later
  one_more before rest x later is here =
      is ∙ ap (λ l. spelled write next s before ++ l) here ∙ sym (append_assoc (spelled write next s before) (write (left_by next s before) x) later) ∙ ap (λ l. l ++ later) (sym (spell_more write next Fits s before x))

  -- behind some items there are no more
  behind : (more : ℕ) (before : List A) (rest : List ℕ) → AllFit next Fits s before → bytes ≡ spelled write next s before ++ rest → length before + more ≡ count → (more ≡ 0 → rest ≡ []) → ⊥
  behind zero before rest fit is size none =
      not_all before (record { counted = omega (arith, size); fit = fit; is = is ∙ ap (λ l. spelled write next s before ++ l) (none refl) ∙ append-nil (spelled write next s before) })
  behind (suc more) before rest fit is size none =
      not_wrong (length (spelled write next s before)) (record {
        before = before;
        rest = rest;
        fit = fit;
        is = is;
        place_is = refl;
        some = omega (arith, size);
        wrong = inl (λ x later fits here.
            behind more (before ++ x ∷ []) later (fit_more write next Fits s before x fit fits) (one_more before rest x later is here) (omega (arith, size, length-append before (x ∷ []))) (last more before rest x later fit is size fits here));
      })

  pub all_or_wrong : (count ≡ 0 → bytes ≡ []) → ⊥
  all_or_wrong none = behind count [] bytes tt refl (omega arith) none

-- ---- ids

ids_or_not : (schema : Schema) (bytes : List ℕ) (rows : ℕ) → ((row : ℕ) → row < rows → IsUnordered schema bytes row → ⊥) → AreAscending schema bytes rows
ids_or_not schema bytes zero sound row low = absurd (omega (arith, low))
ids_or_not schema bytes (suc rows) sound row low =
    let before = ids_or_not schema bytes rows (λ r h. sound r (omega (arith, h))) in
    elim (cases_lt (row + 1) rows) [
      | inl inside ↦ before row inside
      | inr last ↦
          let at : row + 1 ≡ rows = omega (arith, last, low) in
          elim (cases_lt (id_in schema bytes row) (id_in schema bytes (row + 1))) [
            | inl above ↦ above
            | inr not_above ↦
                let same : row + 1 - 1 ≡ row = omega arith in
                absurd (sound (row + 1) low (record { ascend = subst (AreAscending schema bytes) (sym at) before; some = omega arith; low = omega (arith, not_above, ap (id_in schema bytes) same) }))
          ]
    ]

-- ---- the cover

module _ (lists : List (List Entry)) (marks : List RowMarks) (not_all : AllCovered lists 0 marks → ⊥) (not_wrong : (row : ℕ) → IsUncovered lists marks row → ⊥) where
  covered_more : (n : ℕ) (before : List RowMarks) (m : RowMarks) → AllCovered lists n before → IsCovered lists (n + length before) m → AllCovered lists n (before ++ m ∷ [])
  covered_more n [] m all is = let same : n + 0 ≡ n = omega arith in (subst (λ k. IsCovered lists k m) same is, tt)
  covered_more n (b ∷ before) m all is = let same : n + suc (length before) ≡ n + 1 + length before = omega arith in (all.0, covered_more (n + 1) before m all.1 (subst (λ k. IsCovered lists k m) same is))

  uncovered : (before rest : List RowMarks) → marks ≡ before ++ rest → AllCovered lists 0 before → ⊥
  uncovered before [] are good = not_all (subst (AllCovered lists 0) (sym (are ∙ append-nil before)) good)
  uncovered before (m ∷ rest) are good =
      not_wrong (length before) (record {
        before = before;
        m = m;
        behind = rest;
        are = are;
        number_is = refl;
        good = good;
        bad = λ is.
            let same : length before ≡ 0 + length before = omega arith in
            uncovered (before ++ m ∷ []) rest (are ∙ sym (append_assoc before (m ∷ []) rest)) (covered_more 0 before m good (subst (λ k. IsCovered lists k m) same is));
      })

  all_covered : ⊥
  all_covered = uncovered [] marks refl tt

-- ---- all parts

empty : {X : Type 0} (xs : List X) → length xs ≡ 0 → xs ≡ []
empty [] e = refl
empty (x ∷ xs) e = absurd (omega (arith, e))

front_empty : (n at : ℕ) (bytes : List ℕ) → n ≡ 0 → take n (drop at bytes) ≡ []
front_empty n at bytes none = empty (take n (drop at bytes)) (omega (arith, length-take n (drop at bytes), none))

module _ (schema : Schema) (bytes : List ℕ) (not_good : IsUndamaged schema bytes → ⊥) (not_bad : (bad : BadChunk) → IsBadChunk schema bytes bad → ⊥) where
  no_cover : HasMagic bytes → HasSizes schema bytes → HasRowOrder schema bytes → HasMarks schema bytes → HasTable schema bytes → HasWordOrder schema bytes → HasLists schema bytes → ⊥
  no_cover magic_is sizes order marks table words lists =
      all_covered lists.0 marks.0
      (λ cover. not_good (record { magic_is = magic_is; sizes = sizes; row_order = order; marks = marks; table = table; word_order = words; lists = lists; cover = cover }))
      (λ row bad. not_bad (record { place = row_at schema row; kind = kinds.Cover })
      (record { good = (magic_is, sizes, order, marks, table, words, lists); wrong = (row, record { marks = marks.0; lists = lists.0; marks_are = marks.1; lists_are = lists.1; uncovered = bad }, refl) }))

  no_lists : HasMagic bytes → HasSizes schema bytes → HasRowOrder schema bytes → HasMarks schema bytes → HasTable schema bytes → HasWordOrder schema bytes → ⊥
  no_lists magic_is sizes order marks table words =
      all_or_wrong list_bytes and_list (IsList (table_part schema bytes) (rows_in bytes)) (postings_part schema bytes) 0 (words_in bytes)
      (λ lists are. no_cover magic_is sizes order marks table words (lists, are))
      (λ at bad. not_bad (record { place = postings_at schema bytes + at; kind = kinds.Postings }) (record { good = (magic_is, sizes, order, marks, table, words); wrong = (at, bad, refl) }))
      (λ none. empty (postings_part schema bytes) (omega (arith, length-drop (postings_at schema bytes) bytes, sizes.sum, (sizes.no_words none).1)))

  no_words : HasMagic bytes → HasSizes schema bytes → HasRowOrder schema bytes → HasMarks schema bytes → HasTable schema bytes → ⊥
  no_words magic_is sizes order marks table =
      all_or_wrong ordered_bytes follow IsNextWord (dictionary_part schema bytes) [] (words_in bytes)
      (λ words are. no_lists magic_is sizes order marks table (words, are))
      (λ at bad. not_bad (record { place = dictionary_at schema bytes + at; kind = kinds.WordOrder }) (record { good = (magic_is, sizes, order, marks, table); wrong = (at, bad, refl) }))
      (λ none. front_empty (four_in bytes 24) (dictionary_at schema bytes) bytes (sizes.no_words none).0)

  no_table : HasMagic bytes → HasSizes schema bytes → HasRowOrder schema bytes → HasMarks schema bytes → ⊥
  no_table magic_is sizes order marks =
      all_or_wrong entered_bytes and_word (IsEntered (table_part schema bytes) (postings_part schema bytes) (rows_in bytes)) (dictionary_part schema bytes) (0, 0) (words_in bytes)
      (λ words are. no_words magic_is sizes order marks (words, are))
      (λ at bad. not_bad (record { place = table_at schema bytes + 12 * length bad.before; kind = kinds.WordTable })
      (record { good = (magic_is, sizes, order, marks); wrong = (length bad.before, record { place = at; wrong = bad; number_is = refl }, refl) }))
      (λ none. front_empty (four_in bytes 24) (dictionary_at schema bytes) bytes (sizes.no_words none).0)

  no_marks : HasMagic bytes → HasSizes schema bytes → HasRowOrder schema bytes → ⊥
  no_marks magic_is sizes order =
      all_or_wrong marks_bytes and_marks (AreTold schema bytes) (marks_part schema bytes) (0, 0) (rows_in bytes)
      (λ marks are. no_table magic_is sizes order (marks, are))
      (λ at bad. not_bad (record { place = marks_at schema bytes + at; kind = kinds.Marks }) (record { good = (magic_is, sizes, order); wrong = (at, bad, refl) }))
      (λ none. front_empty (four_in bytes 20) (marks_at schema bytes) bytes (sizes.no_rows none))

  no_sizes : HasMagic bytes → HasSizes schema bytes → ⊥
  no_sizes magic_is sizes =
      no_marks magic_is sizes (ids_or_not schema bytes (rows_in bytes) (λ row low bad. not_bad (record { place = row_at schema row; kind = kinds.RowOrder }) (record { good = (magic_is, sizes); wrong = (row, low, bad, refl) })))

  no_magic : HasMagic bytes → ⊥
  no_magic magic_is = not_bad (record { place = 8; kind = kinds.Sizes }) (record { good = magic_is; wrong = (no_sizes magic_is, refl) })

  neither : ⊥
  neither = not_bad (record { place = 0; kind = kinds.Magic }) (record { good = tt; wrong = (no_magic, refl) })

-- bytes that aren't undamaged have some damage: it can't be that there is none
pub some_damage : (schema : Schema) (bytes : List ℕ) → (IsUndamaged schema bytes → ⊥) → ((bad : BadChunk) → IsBadChunk schema bytes bad → ⊥) → ⊥
some_damage = neither
