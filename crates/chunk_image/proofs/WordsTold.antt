-- Word table, dictionary and postings tell the words, and for each word its rows with its places.
use Rattle.std.proofs.Common.{◌≡◌, ℕ, ◌+◌, ◌<◌, ◌≤◌, ◌^◌, List, [], ◌∷◌, ◌++◌, length, refl, sym, ap, ◌∙◌, arith, map, All, zero, suc, append_assoc, cond, true, false, get_or}
use Rattle.std.specs.Int.{w32, to_le_bytes}
use Rattle.std.specs.List.{filter, enumerate_from}
use Rattle.std.proofs.lemmas.List.{length-map}
use Rattle.doc_types.specs.declared.documents.DocRow.{DocRow}
use Rattle.doc_types.specs.Chunks.{has_word, hits_of, rows_with}
use Rattle.chunk_image.specs.AlikeRows.{postings}
use Rattle.chunk_image.specs.ChunkImage.{dictionary_bytes, postings_bytes, table_bytes, word_postings}
use Rattle.posting_codec.specs.PostingLists.{posting_list}
use Rattle.chunk_image.proofs.Fixed.{four, four_any, parted}
use Rattle.chunk_image.proofs.PostingsTold.{list_told}
use Rattle.chunk_image.proofs.RowsPosted.{HasFields, rows_posted}

-- how many rows each word has is in the table
pub counts_told : (rows other : List DocRow) (a b c d : ℕ) (ws vs : List (List ℕ)) (x y : List ℕ) → length ws ≡ length vs
    → ((word : List ℕ) → length (rows_with word rows) < 2 ^ 32) → ((word : List ℕ) → length (rows_with word other) < 2 ^ 32)
    → table_bytes rows a b ws ++ x ≡ table_bytes other c d vs ++ y
    → (map (λ w. length (rows_with w rows)) ws ≡ map (λ w. length (rows_with w other)) vs) × (x ≡ y)
counts_told rows other a b c d [] [] x y long few its_few e = (refl, e)
counts_told rows other a b c d [] (v ∷ vs) x y long few its_few e = absurd (omega (arith, long))
counts_told rows other a b c d (w ∷ ws) [] x y long few its_few e = absurd (omega (arith, long))
counts_told rows other a b c d (w ∷ ws) (v ∷ vs) x y long few its_few e =
    let n = length (rows_with w rows) in let m = length (rows_with v other) in
    let rest = table_bytes rows (a + 1 + length w) (b + length (word_postings rows w)) ws in
    let its_rest = table_bytes other (c + 1 + length v) (d + length (word_postings other v)) vs in
    let at = four_any a c (to_le_bytes w32 n ++ (to_le_bytes w32 b ++ (rest ++ x))) (to_le_bytes w32 m ++ (to_le_bytes w32 d ++ (its_rest ++ y))) e in
    let count = four n m (to_le_bytes w32 b ++ (rest ++ x)) (to_le_bytes w32 d ++ (its_rest ++ y)) (few w) (its_few v) at in
    let more = counts_told rows other (a + 1 + length w) (b + length (word_postings rows w)) (c + 1 + length v) (d + length (word_postings other v)) ws vs x y (omega (arith, long)) few its_few
    (four_any b d (rest ++ x) (its_rest ++ y) count.1) in
    (let here : n ≡ m = count.0 in let all : map (λ w. length (rows_with w rows)) ws ≡ map (λ w. length (rows_with w other)) vs = more.0 in cc, more.1)

-- words are in the dictionary
pub words_told : (ws vs : List (List ℕ)) (x y : List ℕ) → length ws ≡ length vs → dictionary_bytes ws ++ x ≡ dictionary_bytes vs ++ y → (ws ≡ vs) × (x ≡ y)
words_told [] [] x y long e = (refl, e)
words_told [] (v ∷ vs) x y long e = absurd (omega (arith, long))
words_told (w ∷ ws) [] x y long e = absurd (omega (arith, long))
words_told (w ∷ ws) (v ∷ vs) x y long e =
    let f : length w ∷ (w ++ (dictionary_bytes ws ++ x)) ≡ length v ∷ (v ++ (dictionary_bytes vs ++ y)) =
    ap (λ l. length w ∷ l) (sym (append_assoc w (dictionary_bytes ws) x)) ∙ e ∙ ap (λ l. length v ∷ l) (append_assoc v (dictionary_bytes vs) y) in
    let size : length w ≡ length v = cc in
    let behind : w ++ (dictionary_bytes ws ++ x) ≡ v ++ (dictionary_bytes vs ++ y) = cc in
    let word = parted w v (dictionary_bytes ws ++ x) (dictionary_bytes vs ++ y) size behind in
    let more = words_told ws vs x y (omega (arith, long)) word.1 in
    (let here : w ≡ v = word.0 in let all : ws ≡ vs = more.0 in cc, more.1)

-- a word's entries are as many as its rows
pub many : (word : List ℕ) (rows : List DocRow) → length (postings word 0 rows) ≡ length (rows_with word rows)
many word rows =
    length-map {B = ℕ × List (ℕ × ℕ)} (filter (λ e. has_word word e.1) (enumerate_from 0 rows)) (λ (e : ℕ × DocRow). (e.0, hits_of word e.1))
    ∙ sym (length-map {B = ℕ} (filter (λ e. has_word word e.1) (enumerate_from 0 rows)) (λ (e : ℕ × DocRow). e.0))

-- posting lists tell the entries of each word
pub postings_told : (rows other : List DocRow) (ws : List (List ℕ)) (x y : List ℕ) → All HasFields rows → All HasFields other
    → map (λ w. length (rows_with w rows)) ws ≡ map (λ w. length (rows_with w other)) ws
    → postings_bytes rows ws ++ x ≡ postings_bytes other ws ++ y → All (λ w. postings w 0 rows ≡ postings w 0 other) ws × (x ≡ y)
unfolding word_postings
postings_told rows other [] x y has its_has counts e = (λ k d h. absurd (omega (arith, h)), e)
postings_told rows other (w ∷ ws) x y has its_has counts e =
    let count : length (rows_with w rows) ≡ length (rows_with w other) = cc in
    let others : map (λ w. length (rows_with w rows)) ws ≡ map (λ w. length (rows_with w other)) ws = cc in
    let own = posting_list 0 (postings w 0 rows) in let its_own = posting_list 0 (postings w 0 other) in
    let here = list_told 0 (postings w 0 rows) (postings w 0 other) (postings_bytes rows ws ++ x) (postings_bytes other ws ++ y) (many w rows ∙ count ∙ sym (many w other)) (rows_posted w 0 rows has) (rows_posted w 0 other its_has)
    (sym (append_assoc own (postings_bytes rows ws) x) ∙ e ∙ append_assoc its_own (postings_bytes other ws) y) in
    let more = postings_told rows other ws x y has its_has others here.1 in
    (λ k d h. elim k as (λ k. k < suc (length ws) → postings (get_or (w ∷ ws) k d) 0 rows ≡ postings (get_or (w ∷ ws) k d) 0 other) [ zero ↦ λ _. here.0 | suc j ↦ λ l. more.0 j d (omega (arith, l)) ] h, more.1)

-- no word has more rows than there are
pub few_rows : (rows : List DocRow) (word : List ℕ) → length (rows_with word rows) ≤ length rows
few_rows rows word = go 0 rows where
  go : (n : ℕ) (rows : List DocRow) → length (map (λ (e : ℕ × DocRow). e.0) (filter (λ e. has_word word e.1) (enumerate_from n rows))) ≤ length rows
  go n [] = omega arith
  go n (r ∷ rs) =
      let rest = go (n + 1) rs in
      elim (has_word word r) as (λ b. length (map (λ (e : ℕ × DocRow). e.0) (cond b ((n, r) ∷ filter (λ e. has_word word e.1) (enumerate_from (n + 1) rs)) (filter (λ e. has_word word e.1) (enumerate_from (n + 1) rs)))) ≤ suc (length rs)) [
        | true ↦ omega (arith, rest)
        | false ↦ omega (arith, rest)
      ]
