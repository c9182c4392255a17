-- Word table, dictionary and postings, one word more.
use Rattle.std.proofs.Common.{◌≡◌, ℕ, ◌+◌, ◌<◌, List, [], ◌∷◌, ◌++◌, length, refl, sym, ap, ◌∙◌, arith, append_assoc, append-nil, length-append}
use Rattle.std.specs.Int.{w32, to_le_bytes}
use Rattle.std.specs.List.Sorted.{IsPermutation}
use Rattle.std.proofs.lemmas.Grind.{flat_map-append}
use Rattle.doc_types.specs.declared.documents.DocRow.{DocRow}
use Rattle.doc_types.specs.Chunks.{rows_with}
use Rattle.chunk_image.specs.ChunkImage.{dictionary_bytes, postings_bytes, table_bytes, word_bytes, word_postings}
use Rattle.image_write.specs.declared.words.Tables.{Tables}
use Rattle.image_join.specs.steps.Entries.{AreEntriesOf, Entry, Rising, spelled_list}
use Rattle.image_join.specs.steps.Merging.{AreTables, added}
use Rattle.image_join.proofs.Listed.{word_listed}

-- the entry of one word more
table_more : (rows : List DocRow) (a b place list : ℕ) (words : List (List ℕ)) (word : List ℕ) → place ≡ a + length (dictionary_bytes words) → list ≡ b + length (postings_bytes rows words)
    → table_bytes rows a b (words ++ word ∷ []) ≡ table_bytes rows a b words ++ (to_le_bytes w32 place ++ to_le_bytes w32 (length (rows_with word rows)) ++ to_le_bytes w32 list)
table_more rows a b place list [] word at behind =
    let one : a ≡ place = omega (arith, at) in
    let two : b ≡ list = omega (arith, behind) in
    append-nil (to_le_bytes w32 a ++ to_le_bytes w32 (length (rows_with word rows)) ++ to_le_bytes w32 b)
    ∙ ap (λ k. to_le_bytes w32 k ++ to_le_bytes w32 (length (rows_with word rows)) ++ to_le_bytes w32 b) one
    ∙ ap (λ k. to_le_bytes w32 place ++ to_le_bytes w32 (length (rows_with word rows)) ++ to_le_bytes w32 k) two
table_more rows a b place list (w ∷ ws) word at behind =
    let own = to_le_bytes w32 a ++ to_le_bytes w32 (length (rows_with w rows)) ++ to_le_bytes w32 b in
    let rest = table_bytes rows (a + 1 + length w) (b + length (word_postings rows w)) ws in
    let last = to_le_bytes w32 place ++ to_le_bytes w32 (length (rows_with word rows)) ++ to_le_bytes w32 list in
    let more = table_more rows (a + 1 + length w) (b + length (word_postings rows w)) place list ws word
    (omega (arith, at, length-append (word_bytes w) (dictionary_bytes ws))) (omega (arith, behind, length-append (word_postings rows w) (postings_bytes rows ws))) in
    ap (λ l. own ++ l) more ∙ sym (append_assoc own rest last)

added_is : (found : List Entry) (words : List (List ℕ)) (word : List ℕ) → 0 < length found → added found words word ≡ words ++ word ∷ []
added_is [] words word some = absurd (omega (arith, some))
added_is (e ∷ es) words word some = refl

-- a word was written
pub record IsPut (rows : List DocRow) (words : List (List ℕ)) (count : ℕ) (table dictionary postings : List ℕ) : Type 0 where
  pub count_is : count ≡ length words
  pub table_is : table ≡ table_bytes rows 0 0 words
  pub dictionary_is : dictionary ≡ dictionary_bytes words
  pub postings_is : postings ≡ postings_bytes rows words

put : (rows : List DocRow) (words : List (List ℕ)) (word : List ℕ) (found entries : List Entry) (old : Tables) (place list n count : ℕ) (table counted dictionary postings : List ℕ)
    → AreTables rows words old → AreEntriesOf word rows found → IsPermutation found entries → Rising 0 entries
    → place ≡ length old.dictionary.items → list ≡ length old.postings.items → n ≡ length found
    → table ≡ old.table.items ++ (to_le_bytes w32 place ++ to_le_bytes w32 n ++ to_le_bytes w32 list)
    → counted ≡ old.dictionary.items ++ length word ∷ [] → dictionary ≡ counted ++ word → postings ≡ old.postings.items ++ spelled_list 0 entries → count ≡ old.words + 1
    → IsPut rows (words ++ word ∷ []) count table dictionary postings
put rows words word found entries old place list n count table counted dictionary postings was are moved up at behind size tabled one two posted next =
    let listed = word_listed word rows found entries are moved up in
    let many : n ≡ length (rows_with word rows) = size ∙ listed.1 in
    record {
      count_is = omega (arith, next, was.count, length-append words (word ∷ []));
      table_is =
          tabled ∙ ap (λ k. old.table.items ++ (to_le_bytes w32 place ++ to_le_bytes w32 k ++ to_le_bytes w32 list)) many
          ∙ ap (λ l. l ++ (to_le_bytes w32 place ++ to_le_bytes w32 (length (rows_with word rows)) ++ to_le_bytes w32 list)) was.table
          ∙ sym (table_more rows 0 0 place list words word (at ∙ ap length was.dictionary ∙ omega arith) (behind ∙ ap length was.postings ∙ omega arith));
      dictionary_is =
          two ∙ ap (λ l. l ++ word) one ∙ append_assoc old.dictionary.items (length word ∷ []) word ∙ ap (λ l. l ++ word_bytes word) was.dictionary
          ∙ ap (λ l. dictionary_bytes words ++ l) (sym (append-nil (word_bytes word))) ∙ sym (flat_map-append word_bytes words (word ∷ []));
      postings_is =
          posted ∙ ap (λ l. old.postings.items ++ l) listed.0 ∙ ap (λ l. l ++ word_postings rows word) was.postings
          ∙ ap (λ l. postings_bytes rows words ++ l) (sym (append-nil (word_postings rows word))) ∙ sym (flat_map-append (word_postings rows) words (word ∷ []));
    }

pub word_put : (rows : List DocRow) (words : List (List ℕ)) (word : List ℕ) (found entries : List Entry) (old : Tables) (place list n count : ℕ) (table counted dictionary postings : List ℕ) → 0 < length found
    → AreTables rows words old → AreEntriesOf word rows found → IsPermutation found entries → Rising 0 entries
    → place ≡ length old.dictionary.items → list ≡ length old.postings.items → n ≡ length found
    → table ≡ old.table.items ++ (to_le_bytes w32 place ++ to_le_bytes w32 n ++ to_le_bytes w32 list)
    → counted ≡ old.dictionary.items ++ length word ∷ [] → dictionary ≡ counted ++ word → postings ≡ old.postings.items ++ spelled_list 0 entries → count ≡ old.words + 1
    → IsPut rows (added found words word) count table dictionary postings
word_put rows words word found entries old place list n count table counted dictionary postings some was are moved up at behind size tabled one two posted next =
    rw (added_is found words word some) (put rows words word found entries old place list n count table counted dictionary postings was are moved up at behind size tabled one two posted next)
