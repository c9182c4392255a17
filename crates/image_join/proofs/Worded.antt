-- The words of the rows, one word more at a time.
use Rattle.std.proofs.Common.{◌≡◌, ℕ, zero, ◌+◌, ◌<◌, List, [], ◌∷◌, ◌++◌, Bool, true, false, Option, Some, None, slice_get, length, get_or, refl, sym, ap, ◌∙◌, arith, All, AllPairs, Contains, ◌≤◌, ◌⊎◌, ⊎_elim, length-append}
use Rattle.std.specs.Cmp.Lexicographic.{slice_cmp}
use Rattle.std.specs.Ordering.{nat_cmp}
use Rattle.std.specs.declared.cmp.Ordering.TheVariants.{Less}
use Rattle.std.proofs.lemmas.List.{get_or_append_left, get_or-append-add}
use Rattle.std.proofs.lemmas.List.Elements.{All-append, All-cons, All-nil, Contains-append_left, Contains-append_right}
use Rattle.std.proofs.lemmas.Option.{slice_get-get_or, slice_get_within}
use Rattle.doc_types.specs.declared.documents.DocRow.{DocRow}
use Rattle.doc_types.specs.Chunks.{AreWordsOf, has_word, rows_with}
use Rattle.image_join.specs.steps.Entries.{AreEntriesOf, Entry}
use Rattle.image_join.specs.steps.Merging.{AreWordsUpTo, IsDone, IsLeast, added, is_ahead, less}
use Rattle.image_join.specs.steps.Numbering.{AreNumbered}
use Rattle.image_join.specs.steps.Parts.{PartValue, blank_part, part_at}
use Rattle.image_join.proofs.Collected.{HasAt, contains_row, with_word}
use Rattle.image_join.proofs.Order.{is_less, not_itself, same_word}
use Rattle.image_join.proofs.Passed.{stays_behind}

clash : (b : Bool) → b ≡ true → b ≡ false → ⊥
clash b one two = let e : true ≡ false = sym one ∙ two in cc

-- a row with the word, where some have it
row_with : (word : List ℕ) (rows : List DocRow) → 0 < length (rows_with word rows) → HasAt word 0 rows (get_or (rows_with word rows) 0 0)
row_with word rows some = with_word word 0 rows 0 0 some

pub some_with : (word : List ℕ) (rows : List DocRow) (k : ℕ) (row : DocRow) → slice_get rows k ≡ Some row → has_word word row ≡ true → 0 < length (rows_with word rows)
some_with word rows k row here has = let its = contains_row word 0 rows k row here has in let low = its.1 in omega (arith, low)

-- a word of the rows is one of a part
in_part : (word numbers : List ℕ) (rows : List DocRow) (parts : List PartValue) → AreNumbered parts numbers rows → 0 < length (rows_with word rows) → (k : ℕ) × (k < length parts) × (0 < length (rows_with word (part_at parts k).rows))
in_part word numbers rows parts is some =
    let has = row_with word rows some in
    let low : has.at < length rows = slice_get_within rows has.at has.own has.here in
    let its = is.to has.at low in
    let part = part_at parts its.0 in
    let from = (is.each its.0 blank_part its.2).from its.1 its.3 (λ same. omega (arith, same, its.4, low, is.few)) in
    let own : slice_get part.rows its.1 ≡ Some has.own = sym from ∙ ap (slice_get rows) its.4 ∙ has.here in
    (its.0, its.2, some_with word part.rows its.1 has.own own has.has)

-- and stands there
word_in : (word numbers : List ℕ) (rows : List DocRow) (parts : List PartValue) → AreNumbered parts numbers rows → All (λ part. AreWordsOf part.rows part.words) parts → 0 < length (rows_with word rows) → (k : ℕ) × (k < length parts) × (n : ℕ) × (slice_get (part_at parts k).words n ≡ Some word)
word_in word numbers rows parts is are some =
    let its = in_part word numbers rows parts is some in
    let found = (are its.0 blank_part its.1).all word its.2 in
    (its.0, its.1, found.0, slice_get-get_or (part_at parts its.0).words found.0 word found.1 ∙ ap Some found.2)

pairs_more : (words : List (List ℕ)) (word : List ℕ) → AllPairs (λ word later. slice_cmp nat_cmp word later ≡ Less) words → All (λ own. slice_cmp nat_cmp own word ≡ Less) words → AllPairs (λ word later. slice_cmp nat_cmp word later ≡ Less) (words ++ word ∷ [])
pairs_more words word up below i j d l h =
    let long : length (words ++ word ∷ []) ≡ length words + 1 = length-append words (word ∷ []) in
    let low : i < length words = omega (arith, l, h, long) in
    ⊎_elim
    (λ within. rw (get_or_append_left words (word ∷ []) d i low, get_or_append_left words (word ∷ []) d j within) (up i j d l within))
    (λ past.
    let at : j ≡ length words + 0 = omega (arith, past, h, long) in
    let last : get_or (words ++ word ∷ []) j d ≡ word = ap (λ k. get_or (words ++ word ∷ []) k d) at ∙ get_or-append-add words (word ∷ []) 0 d in
    rw (get_or_append_left words (word ∷ []) d i low, last) (below i d low))
    (below_or_not j (length words))
  where
    below_or_not : (a b : ℕ) → (a < b) ⊎ (b ≤ a)
    below_or_not a b = grind arith

module _ (rows : List DocRow) (last : Option (List ℕ)) (words : List (List ℕ)) (word numbers : List ℕ) (parts : List PartValue)
    (is : AreNumbered parts numbers rows) (are : All (λ part. AreWordsOf part.rows part.words) parts) (least : IsLeast last parts word) (was : AreWordsUpTo rows last words) where
  -- a word of the rows that stands before this one isn't ahead
  passed : (own : List ℕ) → 0 < length (rows_with own rows) → less own word ≡ true → is_ahead last own ≡ false
  passed own some low =
      elim (is_ahead last own) as (λ b. is_ahead last own ≡ b → b ≡ false) [
        | true ↦ λ ahead.
            let its = word_in own numbers rows parts is are some in
            absurd (clash (less own word) low ((least.each its.0 blank_part its.1).least its.2 own its.3 ahead))
        | false ↦ λ _. refl
      ] refl

  behind : All (λ own. less word own ≡ false) words
  behind k d h = stays_behind last word _ least.ahead (was.behind k d h)

  before : All (λ own. slice_cmp nat_cmp own word ≡ Less) words
  before k d h = is_less (get_or words k d) word (before_word (get_or words k d) (was.behind k d h))
    where
      before_word : (own : List ℕ) → is_ahead last own ≡ false → less own word ≡ true
      before_word own e =
          elim (less own word) as (λ b. less own word ≡ b → b ≡ true) [
            | true ↦ λ _. refl
            | false ↦ λ not_low.
                let same : own ≡ word = same_word own word not_low (stays_behind last word own least.ahead e) in
                absurd (clash (is_ahead last word) least.ahead (ap (is_ahead last) (sym same) ∙ e))
          ] refl

  -- the words up to this one
  pub words_more : (found : List Entry) → AreEntriesOf word rows found → AreWordsUpTo rows (Some word) (added found words word)
  words_more [] entries = record {
    ascend = was.ascend;
    behind = behind;
    each = was.each;
    all = λ own some e.
        elim (less own word) as (λ b. less own word ≡ b → Contains words own) [
          | true ↦ λ low. was.all own some (passed own some low)
          | false ↦ λ not_low.
              let same : own ≡ word = same_word own word not_low e in
              let has = row_with own rows some in
              let none = entries.all has.at has.own has.here (ap (λ w. has_word w has.own) (sym same) ∙ has.has) in
              absurd cc
        ] refl;
  }
  words_more (entry ∷ others) entries =
      let its = entries.each zero entry (omega arith) in
      record {
        ascend = pairs_more words word was.ascend before;
        behind = All-append (λ own. less word own ≡ false) words (word ∷ []) behind (All-cons (λ own. less word own ≡ false) word [] (not_itself word) (All-nil (λ own. less word own ≡ false)));
        each = All-append (λ own. 0 < length (rows_with own rows)) words (word ∷ []) was.each (All-cons (λ own. 0 < length (rows_with own rows)) word [] (some_with word rows its.at its.row its.here its.has) (All-nil (λ own. 0 < length (rows_with own rows))));
        all = λ own some e.
            elim (less own word) as (λ b. less own word ≡ b → Contains (words ++ word ∷ []) own) [
              | true ↦ λ low. Contains-append_left words (word ∷ []) own (was.all own some (passed own some low))
              | false ↦ λ not_low.
                  let same : word ≡ own = sym (same_word own word not_low e) in
                  Contains-append_right words (word ∷ []) own (zero, omega arith, same)
            ] refl;
      }

-- no word
pub words_none : (rows : List DocRow) → AreWordsUpTo rows None []
words_none rows = record {
  ascend = λ i j d l h. absurd (omega (arith, h));
  behind = All-nil (λ own. is_ahead None own ≡ false);
  each = All-nil (λ own. 0 < length (rows_with own rows));
  all = λ own some e. absurd (clash true refl e);
}

-- all words
pub words_all : (rows : List DocRow) (last : Option (List ℕ)) (words : List (List ℕ)) (numbers : List ℕ) (parts : List PartValue) → AreNumbered parts numbers rows → All (λ part. AreWordsOf part.rows part.words) parts → All (IsDone last) parts → AreWordsUpTo rows last words → AreWordsOf rows words
words_all rows last words numbers parts is are done was = record {
  ascend = was.ascend;
  each = was.each;
  all = λ own some.
      let its = word_in own numbers rows parts is are some in
      was.all own some ((done its.0 blank_part its.1).none its.2 own its.3);
}
