-- What the word table of an image says of its words: where each stands in the dictionary, how many rows have it, and where its posting
-- list stands. The lists are found by the heads of their entries too.
use Rattle.std.proofs.Common.{◌≡◌, ℕ, zero, suc, ◌+◌, ◌-◌, ◌*◌, ◌<◌, ◌≤◌, ◌^◌, true, false, ◌||◌, List, [], ◌∷◌, ◌++◌, length, drop, get_or, refl, sym, ap, subst, ◌∙◌, arith, All, append_assoc, length-append}
use Rattle.std.specs.Int.{w32, to_le_bytes}
use Rattle.std.specs.List.{AllPairs, list_any}
use Rattle.std.specs.Cmp.Lexicographic.{slice_cmp}
use Rattle.std.specs.Ordering.{nat_cmp}
use Rattle.std.specs.declared.cmp.Ordering.TheVariants.{Less}
use Rattle.std.proofs.lemmas.List.{length-map}
use Rattle.std.proofs.lemmas.Slice.Eq.{bytes_eq-Decides}
use Rattle.doc_types.specs.declared.tokens.FieldTokens.{FieldTokens}
use Rattle.doc_types.specs.declared.tokens.TokenWord.{TokenWord}
use Rattle.doc_types.specs.declared.documents.DocRow.{DocRow}
use Rattle.doc_types.specs.declared.schema.Schema.{Schema}
use Rattle.doc_types.specs.Documents.{AreRowsOf, IsField, IsWord}
use Rattle.doc_types.specs.Schemas.{IsSchema}
use Rattle.doc_types.specs.Chunks.{AreWordsOf, has_word, is_word, rows_with}
use Rattle.doc_types.proofs.Numbers.{All-tail}
use Rattle.chunk_image.specs.AlikeRows.{postings}
use Rattle.posting_codec.specs.Numbers.{number}
use Rattle.posting_codec.specs.HitLists.{hit_list}
use Rattle.posting_codec.specs.PostingLists.{posting, posting_list}
use Rattle.chunk_image.specs.ChunkImage.{dictionary_bytes, postings_bytes, table_bytes, word_bytes, word_postings}
use Rattle.chunk_image.proofs.Orderly.{have_fields}
use Rattle.chunk_image.proofs.RowsPosted.{HasFields, are_hits}
use Rattle.chunk_image.proofs.WordsTold.{few_rows, many}
use Rattle.item_lists.specs.Items.{AllFit, left_by, spelled}
use Rattle.item_lists.proofs.Reading.{fit_more, one_list, spell_more}
use Rattle.chunk_damage.specs.Header.{postings_part, table_part}
use Rattle.chunk_damage.specs.WordTable.{AreEntered, Before, EndAt, Headed, IsEntered, IsHeaded, IsHeadedList, and_entry, and_list, and_word, bytes_of as entered_bytes, headed_list, list_place, row_count, word_place}
use Rattle.chunk_damage.specs.WordOrder.{AreOrdered, IsNextWord, and_word as follow, bytes_of as ordered_bytes}
use Rattle.chunk_damage.specs.WordLists.{AreEntries, AreLists, Entry, IsList, and_list as next_list, bytes_of as list_bytes}
use Rattle.chunk_damage.proofs.WordsApart.{headed_lists_apart}
use Rattle.damage_laws.proofs.LaidOut.{IsLaidOut, four_here, past}
use Rattle.damage_laws.proofs.RowOwners.{listed, lists_of}

-- ---- the table

-- the words from this number on, with what the table says of them
abbrev AreSaid : List DocRow → List ℕ → ℕ → ℕ → ℕ → List (List ℕ) → Type 0
AreSaid rows table n word_at list_at [] = Unit {0}
AreSaid rows table n word_at list_at (word ∷ words) =
    (word_place table n ≡ word_at) × (row_count table n ≡ length (rows_with word rows)) × (list_place table n ≡ list_at) × AreSaid rows table (n + 1) (word_at + 1 + length word) (list_at + length (word_postings rows word)) words

next_entry : (n : ℕ) → 12 * (n + 1) ≡ 12 * n + 12
next_entry n = omega arith

said : (rows : List DocRow) (table : List ℕ) (n word_at list_at : ℕ) (words : List (List ℕ)) → drop (12 * n) table ≡ table_bytes rows word_at list_at words → length rows < 2 ^ 32
    → word_at + length (dictionary_bytes words) < 2 ^ 32 → list_at + length (postings_bytes rows words) < 2 ^ 32 → AreSaid rows table n word_at list_at words
said rows table n word_at list_at [] here few low_words low_lists = tt
said rows table n word_at list_at (word ∷ words) here few low_words low_lists =
    let count : ℕ = length (rows_with word rows) in
    let others : List ℕ = table_bytes rows (word_at + 1 + length word) (list_at + length (word_postings rows word)) words in
    let in_dictionary : word_at + 1 + length word + length (dictionary_bytes words) < 2 ^ 32 = omega (arith, low_words, length-append (word_bytes word) (dictionary_bytes words)) in
    let in_postings : list_at + length (word_postings rows word) + length (postings_bytes rows words) < 2 ^ 32 = omega (arith, low_lists, length-append (word_postings rows word) (postings_bytes rows words)) in
    let second : drop (12 * n + 4) table ≡ to_le_bytes w32 count ++ (to_le_bytes w32 list_at ++ others) = past table (to_le_bytes w32 word_at) (to_le_bytes w32 count ++ (to_le_bytes w32 list_at ++ others)) (12 * n) (12 * n + 4) here refl in
    let third : drop (12 * n + 8) table ≡ to_le_bytes w32 list_at ++ others = past table (to_le_bytes w32 count) (to_le_bytes w32 list_at ++ others) (12 * n + 4) (12 * n + 8) second (omega arith) in
    let fourth : drop (12 * (n + 1)) table ≡ others = past table (to_le_bytes w32 list_at) others (12 * n + 8) (12 * (n + 1)) third (omega arith) in (
      four_here table (to_le_bytes w32 count ++ (to_le_bytes w32 list_at ++ others)) (12 * n) word_at here (omega (arith, in_dictionary)),
      four_here table (to_le_bytes w32 list_at ++ others) (12 * n + 4) count second (omega (arith, few, few_rows rows word)),
      four_here table others (12 * n + 8) list_at third (omega (arith, in_postings)),
      said rows table (n + 1) (word_at + 1 + length word) (list_at + length (word_postings rows word)) words fourth few in_dictionary in_postings,
    )

-- ---- posting lists

-- the entries of rows, the first of which has this number
entries_of : (word : List ℕ) (n high : ℕ) (rows : List DocRow) → high ≡ n + length rows → high < 2 ^ 32 → All HasFields rows → AreEntries high n (postings word n rows)
entries_of word n high [] size low are = tt
entries_of word n high (r ∷ rs) size low are =
    let rest = entries_of word (n + 1) high rs (omega (arith, size)) low (All-tail HasFields r rs are) in
    let own = are zero r (omega arith) in
    elim (has_word word r) as (λ b. has_word word r ≡ b → AreEntries high n (listed word n r rs b)) [
      | true ↦ λ has. (record { behind = omega arith; counted = omega (arith, size, low); are = are_hits word r own.few own.are has }, omega (arith, size), rest)
      | false ↦ λ _. sooner high (n + 1) n (postings word (n + 1) rs) (omega arith) rest
    ] refl
  where
    sooner : (high least less : ℕ) (entries : List Entry) → less ≤ least → AreEntries high least entries → AreEntries high less entries
    sooner high least less [] le are = tt
    sooner high least less (e ∷ es) le are = (record { behind = omega (arith, le, are.0.behind); counted = are.0.counted; are = are.0.are }, are.1, are.2)

lists_fit : (rows : List DocRow) (table : List ℕ) (n word_at list_at : ℕ) (words : List (List ℕ)) → length rows < 2 ^ 32 → All HasFields rows → AreSaid rows table n word_at list_at words → AllFit next_list (IsList table (length rows)) n (lists_of rows words)
lists_fit rows table n word_at list_at [] low are said = tt
lists_fit rows table n word_at list_at (w ∷ ws) low are said = (
  record { counted = many w rows ∙ sym said.1; are = entries_of w 0 (length rows) rows (omega arith) low are },
  lists_fit rows table (n + 1) (word_at + 1 + length w) (list_at + length (word_postings rows w)) ws low are said.3,
)

lists_spelled : (rows : List DocRow) (n : ℕ) (words : List (List ℕ)) → spelled list_bytes next_list n (lists_of rows words) ≡ postings_bytes rows words
unfolding word_postings
lists_spelled rows n [] = refl
lists_spelled rows n (w ∷ ws) = ap (λ l. posting_list 0 (postings w 0 rows) ++ l) (lists_spelled rows (n + 1) ws)

-- ---- the same lists by the heads of their entries

abbrev headed : ℕ → List Entry → List Headed
headed least [] = []
headed least (entry ∷ entries) = (entry.0 + 1 - least, hit_list entry.1) ∷ headed (entry.0 + 1) entries

headed_count : (least : ℕ) (entries : List Entry) → length (headed least entries) ≡ length entries
headed_count least [] = refl
headed_count least (e ∷ es) = ap suc (headed_count (e.0 + 1) es)

headed_spelled : (least : ℕ) (entries : List Entry) → headed_list 0 (headed least entries) ≡ posting_list least entries
headed_spelled least [] = refl
headed_spelled least (e ∷ es) =
    ap (λ l. l ++ headed_list 0 (headed (e.0 + 1) es)) (sym (append_assoc (number (e.0 + 1 - least)) (number (length (hit_list e.1))) (hit_list e.1))) ∙ ap (λ l. posting least e.0 e.1 ++ l) (headed_spelled (e.0 + 1) es)

headed_fit : (high least : ℕ) (entries : List Entry) → length (posting_list least entries) < 2 ^ 32 → AreEntries high least entries → AllFit and_entry IsHeaded tt (headed least entries)
headed_fit high least [] low are = tt
headed_fit high least (e ∷ es) low are =
    let own : length (posting least e.0 e.1) + length (posting_list (e.0 + 1) es) < 2 ^ 32 = omega (arith, low, length-append (posting least e.0 e.1) (posting_list (e.0 + 1) es)) in
    let hits : length (hit_list e.1) ≤ length (posting least e.0 e.1) = omega (arith, length-append (number (e.0 + 1 - least) ++ number (length (hit_list e.1))) (hit_list e.1)) in
    (record { distance = omega (arith, are.0.counted); size = omega (arith, own, hits) }, headed_fit high (e.0 + 1) es (omega (arith, own)) are.2)

-- where lists end by their heads is one place
one_end : (table bytes : List ℕ) (n a b : ℕ) → EndAt table bytes n a → EndAt table bytes n b → a ≡ b
one_end table bytes n a b x y =
    let same = one_list headed_list and_list (IsHeadedList table) (headed_lists_apart table) 0 x.lists y.lists x.rest y.rest x.fit y.fit (x.counted ∙ sym y.counted) (sym x.is ∙ y.is) in
    x.place_is ∙ ap (λ l. length (spelled headed_list and_list 0 l)) same.0 ∙ sym y.place_is

-- one list more
record AreBefore (rows : List DocRow) (table bytes : List ℕ) (n place : ℕ) (words : List (List ℕ)) : Type 0 where
  end : EndAt table bytes n place
  behind : end.rest ≡ postings_bytes rows words

left_count : (n : ℕ) (lists : List (List Headed)) → left_by and_list n lists ≡ n + length lists
left_count n [] = omega arith
left_count n (l ∷ ls) = omega (arith, left_count (n + 1) ls)

before_more : (rows : List DocRow) (table bytes : List ℕ) (n place : ℕ) (word : List ℕ) (words : List (List ℕ)) → length rows < 2 ^ 32 → All HasFields rows → length (word_postings rows word) < 2 ^ 32 → row_count table n ≡ length (rows_with word rows)
    → AreBefore rows table bytes n place (word ∷ words) → AreBefore rows table bytes (n + 1) (place + length (word_postings rows word)) words
unfolding word_postings
before_more rows table bytes n place word words few are low count before =
    let entries : List Entry = postings word 0 rows in
    let own : List ℕ = posting_list 0 entries in
    let lists : List (List Headed) = before.end.lists in
    let added : List Headed = headed 0 entries in
    let at : left_by and_list 0 lists ≡ n = omega (arith, left_count 0 lists, before.end.counted) in
    let fit : AllFit and_entry IsHeaded tt added = headed_fit (length rows) 0 entries low (entries_of word 0 (length rows) rows (omega arith) few are) in
    let is_list : IsHeadedList table n added = record { counted = headed_count 0 entries ∙ many word rows ∙ sym count; fit = fit } in
    let spelling : spelled headed_list and_list 0 (lists ++ added ∷ []) ≡ spelled headed_list and_list 0 lists ++ own = spell_more headed_list and_list (IsHeadedList table) 0 lists added ∙ ap (λ l. spelled headed_list and_list 0 lists ++ l) (headed_spelled 0 entries) in
    record {
      end = record {
        lists = lists ++ added ∷ [];
        rest = postings_bytes rows words;
        counted = omega (arith, length-append lists (added ∷ []), before.end.counted);
        fit = fit_more headed_list and_list (IsHeadedList table) 0 lists added before.end.fit (subst (λ k. IsHeadedList table k added) (sym at) is_list);
        is = before.end.is ∙ ap (λ l. spelled headed_list and_list 0 lists ++ l) before.behind ∙ sym (append_assoc (spelled headed_list and_list 0 lists) own (postings_bytes rows words)) ∙ ap (λ l. l ++ postings_bytes rows words) (sym spelling);
        place_is = omega (arith, before.end.place_is, ap length spelling, length-append (spelled headed_list and_list 0 lists) own);
      };
      behind = refl;
    }

-- ---- words with their entries

entered_fit : (rows : List DocRow) (table bytes : List ℕ) (n word_at list_at : ℕ) (words : List (List ℕ)) → length rows < 2 ^ 32 → All HasFields rows → list_at + length (postings_bytes rows words) < 2 ^ 32 → All IsWord words → All (λ word. 0 < length (rows_with word rows)) words
    → AreSaid rows table n word_at list_at words → AreBefore rows table bytes n list_at words → AllFit and_word (IsEntered table bytes (length rows)) (n, word_at) words
entered_fit rows table bytes n word_at list_at [] few are low is each said before = tt
entered_fit rows table bytes n word_at list_at (w ∷ ws) few are low is each said before =
    let own : list_at + length (word_postings rows w) + length (postings_bytes rows ws) < 2 ^ 32 = omega (arith, low, length-append (word_postings rows w) (postings_bytes rows ws)) in (
      record {
        short = omega (arith, (is zero w (omega arith)).short);
        place = said.0;
        some = omega (arith, said.1, each zero w (omega arith));
        many = omega (arith, said.1, few_rows rows w);
        list = λ place end. said.2 ∙ one_end table bytes n list_at place before.end end;
      },
      entered_fit rows table bytes (n + 1) (word_at + 1 + length w) (list_at + length (word_postings rows w)) ws few are (omega (arith, own)) (All-tail IsWord w ws is) (All-tail (λ word. 0 < length (rows_with word rows)) w ws each) said.3
          (before_more rows table bytes n list_at w ws few are (omega (arith, own)) said.1 before),
    )

dictionary_spelled : (before : Before) (words : List (List ℕ)) → spelled entered_bytes and_word before words ≡ dictionary_bytes words
dictionary_spelled before [] = refl
dictionary_spelled before (w ∷ ws) = ap (λ l. word_bytes w ++ l) (dictionary_spelled (and_word before w) ws)

-- ---- words in their order

ordered_fit : (before : List ℕ) (words : List (List ℕ)) → All (λ word. slice_cmp nat_cmp before word ≡ Less) words → AllPairs (λ word later. slice_cmp nat_cmp word later ≡ Less) words → All IsWord words → AllFit follow IsNextWord before words
ordered_fit before [] above ascend is = tt
ordered_fit before (w ∷ ws) above ascend is = (
  record { is = is zero w (omega arith); above = above zero w (omega arith) },
  ordered_fit w ws (λ k d h. ascend zero (suc k) d (omega arith) (omega (arith, h))) (λ i j d lt within. ascend (suc i) (suc j) d (omega (arith, lt)) (omega (arith, within))) (All-tail IsWord w ws is),
)

order_spelled : (before : List ℕ) (words : List (List ℕ)) → spelled ordered_bytes follow before words ≡ dictionary_bytes words
order_spelled before [] = refl
order_spelled before (w ∷ ws) = ap (λ l. word_bytes w ++ l) (order_spelled w ws)

above_none : (word : List ℕ) → 1 ≤ length word → slice_cmp nat_cmp [] word ≡ Less
above_none [] some = absurd (omega (arith, some))
above_none (x ∷ xs) some = refl

-- the words of rows are words
of_tokens : (word : List ℕ) (ts : List TokenWord) → All (λ (t : TokenWord). IsWord t.word) ts → list_any (is_word word) ts ≡ true → IsWord word
of_tokens word [] are e = absurd cc
of_tokens word (t ∷ ts) are e =
    elim (is_word word t) as (λ b. is_word word t ≡ b → (b || list_any (is_word word) ts) ≡ true → IsWord word) [
      | true ↦ λ is _. subst IsWord ((bytes_eq-Decides t.word word).0 is) (are zero t (omega arith))
      | false ↦ λ _ later. of_tokens word ts (All-tail (λ (t : TokenWord). IsWord t.word) t ts are) later
    ] refl e

of_fields : (word : List ℕ) (fields : List FieldTokens) → All IsField fields → list_any (λ field. list_any (is_word word) field.words) fields ≡ true → IsWord word
of_fields word [] are e = absurd cc
of_fields word (f ∷ fs) are e =
    elim (list_any (is_word word) f.words) as (λ b. list_any (is_word word) f.words ≡ b → (b || list_any (λ field. list_any (is_word word) field.words) fs) ≡ true → IsWord word) [
      | true ↦ λ is _. of_tokens word f.words (are zero f (omega arith)).words is
      | false ↦ λ _ later. of_fields word fs (All-tail IsField f fs are) later
    ] refl e

of_rows : (word : List ℕ) (n : ℕ) (rows : List DocRow) → All HasFields rows → 1 ≤ length (postings word n rows) → IsWord word
of_rows word n [] are some = absurd (omega (arith, some))
of_rows word n (r ∷ rs) are some =
    elim (has_word word r) as (λ b. has_word word r ≡ b → 1 ≤ length (listed word n r rs b) → IsWord word) [
      | true ↦ λ has _. of_fields word r.doc.fields (are zero r (omega arith)).are has
      | false ↦ λ _ later. of_rows word (n + 1) rs (All-tail HasFields r rs are) later
    ] refl some

-- ---- all that is said of words is as it may be

pub record AreWordsGood (schema : Schema) (rows : List DocRow) (words : List (List ℕ)) (bytes : List ℕ) : Type 0 where
  pub table : AreEntered schema bytes words
  pub order : AreOrdered schema bytes words
  pub lists : AreLists schema bytes (lists_of rows words)

pub words_good : (schema : Schema) (rows : List DocRow) (words : List (List ℕ)) (bytes : List ℕ) → IsSchema schema → AreRowsOf schema rows → AreWordsOf rows words → length rows < 2 ^ 32 → IsLaidOut schema rows words bytes → AreWordsGood schema rows words bytes
words_good schema rows words bytes limits are words_are few laid =
    let table : List ℕ = table_part schema bytes in
    let fields : All HasFields rows = have_fields schema rows limits are in
    let is : All IsWord words = λ k d h. of_rows (get_or words k d) 0 rows fields (omega (arith, many (get_or words k d) rows, words_are.each k d h)) in
    let its : AreSaid rows table 0 0 0 words = said rows table 0 0 0 words laid.table few (omega (arith, laid.short)) (omega (arith, laid.short)) in
    let start : AreBefore rows table (postings_part schema bytes) 0 0 words = record { end = record { lists = []; rest = postings_bytes rows words; counted = refl; fit = tt; is = laid.postings; place_is = refl }; behind = refl } in
    record {
      table = record {
        counted = sym laid.words_n;
        fit = subst (λ n. AllFit and_word (IsEntered table (postings_part schema bytes) n) (0, 0) words) (sym laid.rows_n) (entered_fit rows table (postings_part schema bytes) 0 0 0 words few fields (omega (arith, laid.short)) is words_are.each its start);
        is = laid.dictionary ∙ sym (dictionary_spelled (0, 0) words);
      };
      order = record {
        counted = sym laid.words_n;
        fit = ordered_fit [] words (λ k d h. above_none (get_or words k d) (is k d h).some) words_are.ascend is;
        is = laid.dictionary ∙ sym (order_spelled [] words);
      };
      lists = record {
        counted = length-map {B = List Entry} words (λ word. postings word 0 rows) ∙ sym laid.words_n;
        fit = subst (λ n. AllFit next_list (IsList table n) 0 (lists_of rows words)) (sym laid.rows_n) (lists_fit rows table 0 0 0 words few fields its);
        is = laid.postings ∙ sym (lists_spelled rows 0 words);
      };
    }
