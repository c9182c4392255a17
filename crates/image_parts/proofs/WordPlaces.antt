-- Where the entry of a word stands, what stands in it, and where its dictionary entry and its posting list stand.
use Rattle.std.proofs.Common.{◌≡◌, ℕ, suc, ◌+◌, ◌*◌, ◌<◌, ◌≤◌, ◌^◌, List, ◌∷◌, ◌++◌, Some, length, take, drop, slice_get, get_or, refl, sym, ap, subst, ◌∙◌, arith, AllPairs, length-append}
use Rattle.std.specs.Coded.{codes, le_prop}
use Rattle.std.specs.Int.{w32, to_le_bytes, from_le_bytes}
use Rattle.std.specs.Cmp.Lexicographic.{slice_cmp}
use Rattle.std.specs.Ordering.{nat_cmp}
use Rattle.std.specs.declared.cmp.Ordering.TheVariants.{Less}
use Rattle.std.proofs.Props.{props}
use Rattle.std.proofs.Math.Logic.{∥∥₁_elim}
use Rattle.std.proofs.lemmas.List.{drop-drop, drop_at, length-take, take-append-drop, take_at}
use Rattle.std.proofs.lemmas.List.Concat.{flat_map-append}
use Rattle.std.proofs.lemmas.Option.{slice_get_within}
use Rattle.doc_types.specs.declared.documents.DocRow.{DocRow}
use Rattle.doc_types.specs.Chunks.{rows_with}
use Rattle.chunk_image.specs.ChunkImage.{dictionary_bytes, postings_bytes, table_bytes, word_bytes, word_postings}
use Rattle.chunk_image.proofs.WordsTold.{few_rows}
use Rattle.posting_codec.proofs.Spellings.{first_at}
use Rattle.image_parts.specs.declared.parts.Parts.{Parts}
use Rattle.image_parts.specs.Images.{ArePartsOf, HaveImage, IsWhole}
use Rattle.image_parts.specs.steps.Standing.{StandsAt}
use Rattle.image_parts.proofs.Pieces.{behind, four, front, from_there, middle, within}
use Rattle.image_parts.proofs.Split.{entry_bytes, flat, table_size, table_split}
use Rattle.image_parts.proofs.Laid.{IsLaid, laid}
use Rattle.image_parts.proofs.RowPlaces.{element}

-- a word of an image
module _ (rows : List DocRow) (words : List (List ℕ)) (bytes : List ℕ) (parts : Parts) (have : HaveImage rows words bytes) (are : ArePartsOf rows words parts) (n : ℕ) (word : List ℕ) (e : slice_get words n ≡ Some word) where
  is_laid : IsLaid rows words bytes parts
  is_laid = laid rows words bytes parts have are

  -- where it begins in the dictionary, and its list in the postings
  abbrev pub word_begin : ℕ
  word_begin = length (dictionary_bytes (take n words))

  abbrev pub list_begin : ℕ
  list_begin = length (postings_bytes rows (take n words))

  count_before : length (take n words) ≡ n
  count_before = let low : n < length words = slice_get_within words n word e in omega (arith, length-take n words, low)

  pub entry_here : StandsAt bytes (parts.table + 12 * n) (entry_bytes rows word_begin list_begin word)
  entry_here =
      let before = table_bytes rows 0 0 (take n words) in
      let others = table_bytes rows (word_begin + 1 + length word) (list_begin + length (word_postings rows word)) (drop (suc n) words) in
      middle bytes before (entry_bytes rows word_begin list_begin word) others parts.table (parts.table + 12 * n)
      (subst (StandsAt bytes parts.table) (table_split rows 0 0 word_begin list_begin words n word e (omega arith) (omega arith)) is_laid.table)
      (omega (arith, table_size rows 0 0 (take n words), count_before))

  pub entry_within : parts.table + 12 * n + 12 ≤ length bytes
  entry_within = within bytes (entry_bytes rows word_begin list_begin word) (parts.table + 12 * n) entry_here (omega arith)

  dictionary_here : StandsAt bytes (parts.dictionary + word_begin) (length word ∷ word)
  dictionary_here =
      let before = dictionary_bytes (take n words) in
      middle bytes before (word_bytes word) (dictionary_bytes (drop (suc n) words)) parts.dictionary (parts.dictionary + word_begin)
      (subst (StandsAt bytes parts.dictionary) (flat word_bytes words n word e) is_laid.dictionary) refl

  pub word_within : parts.dictionary + word_begin + 1 + length word ≤ length bytes
  word_within = let w = within bytes (length word ∷ word) (parts.dictionary + word_begin) dictionary_here (omega arith) in omega (arith, w)

  word_there : drop (parts.dictionary + word_begin) bytes ≡ length word ∷ (word ++ drop (parts.dictionary + word_begin + length (length word ∷ word)) bytes)
  word_there = from_there bytes (length word ∷ word) (parts.dictionary + word_begin) dictionary_here

  pub length_there : get_or bytes (parts.dictionary + word_begin) 0 ≡ length word
  length_there = (first_at bytes (parts.dictionary + word_begin) (length word) (word ++ drop (parts.dictionary + word_begin + length (length word ∷ word)) bytes) word_there).0

  pub word_is : take (length word) (drop (parts.dictionary + word_begin + 1) bytes) ≡ word
  word_is =
      let rest = drop (parts.dictionary + word_begin + length (length word ∷ word)) bytes in
      ap (take (length word)) (first_at bytes (parts.dictionary + word_begin) (length word) (word ++ rest) word_there).1 ∙ take_at word rest (length word) refl

  list_there : drop (parts.postings + list_begin) bytes ≡ word_postings rows word ++ postings_bytes rows (drop (suc n) words)
  list_there =
      sym (drop-drop list_begin parts.postings bytes) ∙ ap (drop list_begin) (is_laid.postings ∙ flat (word_postings rows) words n word e)
      ∙ drop_at (postings_bytes rows (take n words)) (word_postings rows word ++ postings_bytes rows (drop (suc n) words)) list_begin refl

  pub list_is : (at : ℕ) → at ≡ parts.postings + list_begin → drop at bytes ≡ word_postings rows word ++ postings_bytes rows (drop (n + 1) words)
  list_is at is = let more : n + 1 ≡ suc n = omega arith in ap (λ k. drop k bytes) is ∙ list_there ∙ ap (λ k. word_postings rows word ++ postings_bytes rows (drop k words)) (sym more)

  pub list_fits : parts.postings + list_begin + length (postings_bytes rows (drop n words)) ≡ length bytes
  list_fits =
      let all : postings_bytes rows words ≡ postings_bytes rows (take n words) ++ postings_bytes rows (drop n words) = ap (postings_bytes rows) (sym (take-append-drop n words)) ∙ flat_map-append (word_postings rows) (take n words) (drop n words) in
      omega (arith, is_laid.end, ap length all, length-append (postings_bytes rows (take n words)) (postings_bytes rows (drop n words)))

  few : length rows < 2 ^ 32
  few = ∥∥₁_elim have (hlevel (le_prop, props)) (λ (is : IsWhole rows words bytes). is.small.few_rows)

  abbrev tail : List ℕ
  tail = to_le_bytes w32 list_begin

  -- the three numbers of its entry
  pub word_at : (at : ℕ) → at ≡ parts.table + 12 * n → from_le_bytes w32 (take 4 (drop at bytes)) ≡ word_begin
  word_at at is =
      ap (λ k. from_le_bytes w32 (take 4 (drop k bytes))) is
      ∙ four bytes (parts.table + 12 * n) word_begin (front bytes (to_le_bytes w32 word_begin) (to_le_bytes w32 (length (rows_with word rows)) ++ tail) (parts.table + 12 * n) entry_here) (omega (arith, word_within, is_laid.short))

  pub count_is : (at : ℕ) → at ≡ parts.table + 12 * n + 4 → from_le_bytes w32 (take 4 (drop at bytes)) ≡ length (rows_with word rows)
  count_is at is =
      four bytes at (length (rows_with word rows)) (middle bytes (to_le_bytes w32 word_begin) (to_le_bytes w32 (length (rows_with word rows))) tail (parts.table + 12 * n) at entry_here is) (omega (arith, few, few_rows rows word))

  pub list_at : (at : ℕ) → at ≡ parts.table + 12 * n + 8 → from_le_bytes w32 (take 4 (drop at bytes)) ≡ list_begin
  list_at at is =
      four bytes at list_begin (behind bytes (to_le_bytes w32 word_begin ++ to_le_bytes w32 (length (rows_with word rows))) tail (parts.table + 12 * n) at entry_here is) (omega (arith, list_fits, is_laid.short))

-- what calls ask for, of the word of a number
pub record WordFits (bytes : List ℕ) (parts : Parts) (n : ℕ) : Type 0 where
  pub entry : parts.table + 12 * n + 12 ≤ length bytes
  pub dictionary : parts.dictionary ≤ length bytes
  pub postings : parts.postings ≤ length bytes
  pub short : length bytes ≤ 536870912

pub word_fits : (rows : List DocRow) (words : List (List ℕ)) (bytes : List ℕ) (parts : Parts) (n : ℕ) → HaveImage rows words bytes → ArePartsOf rows words parts → n < length words → WordFits bytes parts n
word_fits rows words bytes parts n have are low =
    let found = element words n low in
    let l = laid rows words bytes parts have are in
    record {
      entry = entry_within rows words bytes parts have are n found.0 found.1;
      dictionary = omega (arith, word_within rows words bytes parts have are n found.0 found.1);
      postings = omega (arith, l.end);
      short = l.short;
    }

pub low_word : (rows others : List DocRow) (words its : List (List ℕ)) (parts : Parts) (n : ℕ) → ArePartsOf rows words parts → ArePartsOf others its parts → n < length words → n < length its
low_word rows others words its parts n are aro low = omega (arith, low, are.words_n, aro.words_n)

-- the word that stands where its entry says
module _ (rows : List DocRow) (words : List (List ℕ)) (bytes : List ℕ) (parts : Parts) (n entry read : ℕ) where
  place_is : HaveImage rows words bytes → ArePartsOf rows words parts → (word : List ℕ) → slice_get words n ≡ Some word → entry ≡ parts.table + 12 * n → read ≡ from_le_bytes w32 (take 4 (drop entry bytes)) → parts.dictionary + read ≡ parts.dictionary + length (dictionary_bytes (take n words))
  place_is have are word e is number = ap (λ k. parts.dictionary + k) (number ∙ word_at rows words bytes parts have are n word e entry is)

  pub word_there_fits : HaveImage rows words bytes → ArePartsOf rows words parts → n < length words → entry ≡ parts.table + 12 * n → read ≡ from_le_bytes w32 (take 4 (drop entry bytes)) → parts.dictionary + read + 1 + get_or bytes (parts.dictionary + read) 0 ≤ length bytes
  word_there_fits have are low is number =
      let found = element words n low in
      let place = place_is have are found.0 found.1 is number in
      subst (λ k. k + 1 + get_or bytes k 0 ≤ length bytes) (sym place)
      (omega (arith, word_within rows words bytes parts have are n found.0 found.1, length_there rows words bytes parts have are n found.0 found.1))

  pub word_answer : (lent : List ℕ) → HaveImage rows words bytes → ArePartsOf rows words parts → n < length words → entry ≡ parts.table + 12 * n → read ≡ from_le_bytes w32 (take 4 (drop entry bytes))
      → lent ≡ take (get_or bytes (parts.dictionary + read) 0) (drop (parts.dictionary + read + 1) bytes) → slice_get words n ≡ Some lent
  word_answer lent have are low is number taken =
      let found = element words n low in
      let place = place_is have are found.0 found.1 is number in
      found.1 ∙ ap Some (sym (taken ∙ ap (λ k. take (get_or bytes k 0) (drop (k + 1) bytes)) place
      ∙ ap (λ k. take k (drop (parts.dictionary + length (dictionary_bytes (take n words)) + 1) bytes)) (length_there rows words bytes parts have are n found.0 found.1)
      ∙ word_is rows words bytes parts have are n found.0 found.1))

-- words ascend
pub words_ascend : (rows : List DocRow) (words : List (List ℕ)) (bytes : List ℕ) → HaveImage rows words bytes → AllPairs (λ word later. slice_cmp nat_cmp word later ≡ Less) words
words_ascend rows words bytes have = ∥∥₁_elim have (hlevel (codes, le_prop, props)) (λ (is : IsWhole rows words bytes). is.are.ascend)
