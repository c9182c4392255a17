-- The parts of words, one word more at a time.
use Rattle.std.proofs.Common.{◌≡◌, ℕ, ◌+◌, ◌-◌, ◌≤◌, List, [], ◌∷◌, ◌++◌, length, drop, take, map, refl, sym, ap, subst, ◌∙◌, arith, append_assoc, append-nil, length-append, length-drop, All}
use Rattle.std.specs.Int.{w32, to_le_bytes}
use Rattle.std.proofs.lemmas.List.{drop-drop}
use Rattle.std.proofs.lemmas.List.Elements.{All-head, All-tail}
use Rattle.doc_types.specs.declared.documents.Doc.{Doc}
use Rattle.doc_types.specs.declared.documents.DocRow.{DocRow}
use Rattle.doc_types.specs.Chunks.{rows_with}
use Rattle.posting_codec.specs.PostingLists.{posting_list}
use Rattle.chunk_image.specs.ChunkImage.{dictionary_bytes, postings_bytes, table_bytes, word_bytes, word_postings}
use Rattle.chunk_image.proofs.WordsTold.{many}
use Rattle.image_write.specs.declared.gathering.Occurrence.{Occurrence}
use Rattle.image_write.specs.steps.Gathering.{ArePostable, CanPost, IsGathered, Place, WordPlaces, grouped}
use Rattle.image_write.specs.steps.Places.{by_word, place_at}
use Rattle.image_write.proofs.Meeting.{taken_past}

abbrev pub word_of : WordPlaces → List ℕ
word_of entry = entry.word

-- the table and the postings before the rest of all words
pub record AreTabled (rows : List DocRow) (all rest : List WordPlaces) (start table dictionary lists : List ℕ) : Type 0 where
  pub each : All (IsGathered rows) rest
  pub tabled : table ++ table_bytes rows (length dictionary) (length lists) (map word_of rest) ≡ start ++ table_bytes rows 0 0 (map word_of all)
  pub posted : lists ++ postings_bytes rows (map word_of rest) ≡ postings_bytes rows (map word_of all)

-- all parts of words, of so many before the rest
pub record AreWritten (all rest : List WordPlaces) (count : ℕ) (start table dictionary lists : List ℕ) : Type 0 where
  pub named : dictionary ++ dictionary_bytes (map word_of rest) ≡ dictionary_bytes (map word_of all)
  pub counted : count + length rest ≡ length all
  pub posts : All CanPost rest
  pub both : (rows : List DocRow) → All (IsGathered rows) all → AreTabled rows all rest start table dictionary lists

entry_more : (rows : List DocRow) (all rest : List WordPlaces) (e : WordPlaces) (start table dictionary lists after after_dictionary after_lists : List ℕ) → AreTabled rows all (e ∷ rest) start table dictionary lists
    → after ≡ table ++ (to_le_bytes w32 (length dictionary) ++ to_le_bytes w32 (length (grouped e.places)) ++ to_le_bytes w32 (length lists))
    → after_dictionary ≡ dictionary ++ word_bytes e.word → after_lists ≡ lists ++ posting_list 0 (grouped e.places)
    → AreTabled rows all rest start after after_dictionary after_lists
unfolding word_postings
entry_more rows all rest e start table dictionary lists after after_dictionary after_lists was put name list =
    let its : IsGathered rows e = All-head (IsGathered rows) e rest was.each in
    let own : posting_list 0 (grouped e.places) ≡ word_postings rows e.word = ap (posting_list 0) its.is in
    let size : length (grouped e.places) ≡ length (rows_with e.word rows) = ap length its.is ∙ many e.word rows in
    let long : length after_lists ≡ length lists + length (word_postings rows e.word) = ap length (list ∙ ap (λ l. lists ++ l) own) ∙ length-append lists (word_postings rows e.word) in
    let behind : length after_dictionary ≡ length dictionary + 1 + length e.word = omega (arith, ap length name, length-append dictionary (word_bytes e.word)) in
    let entry : ℕ → List ℕ = λ k. to_le_bytes w32 (length dictionary) ++ to_le_bytes w32 k ++ to_le_bytes w32 (length lists) in
    let words = map word_of rest in
    let more = table_bytes rows (length dictionary + 1 + length e.word) (length lists + length (word_postings rows e.word)) words in
    record {
      each = All-tail (IsGathered rows) e rest was.each;
      tabled =
          ap (λ k. after ++ table_bytes rows k (length after_lists) words) behind ∙ ap (λ k. after ++ table_bytes rows (length dictionary + 1 + length e.word) k words) long
          ∙ ap (λ l. l ++ more) (put ∙ ap (λ k. table ++ entry k) size) ∙ append_assoc table (entry (length (rows_with e.word rows))) more ∙ was.tabled;
      posted = ap (λ l. l ++ postings_bytes rows words) (list ∙ ap (λ l. lists ++ l) own) ∙ append_assoc lists (word_postings rows e.word) (postings_bytes rows words) ∙ was.posted;
    }

word_more : (all rest : List WordPlaces) (e : WordPlaces) (count : ℕ) (start table dictionary lists after after_dictionary after_lists : List ℕ) → AreWritten all (e ∷ rest) count start table dictionary lists
    → after ≡ table ++ (to_le_bytes w32 (length dictionary) ++ to_le_bytes w32 (length (grouped e.places)) ++ to_le_bytes w32 (length lists))
    → after_dictionary ≡ dictionary ++ word_bytes e.word → after_lists ≡ lists ++ posting_list 0 (grouped e.places)
    → AreWritten all rest (count + 1) start after after_dictionary after_lists
word_more all rest e count start table dictionary lists after after_dictionary after_lists was put name list = record {
  named = ap (λ l. l ++ dictionary_bytes (map word_of rest)) name ∙ append_assoc dictionary (word_bytes e.word) (dictionary_bytes (map word_of rest)) ∙ was.named;
  counted = omega (arith, was.counted);
  posts = All-tail CanPost e rest was.posts;
  both = λ rows each. entry_more rows all rest e start table dictionary lists after after_dictionary after_lists (was.both rows each) put name list;
}

module _ (docs : List Doc) (places : List Occurrence) where
  -- the parts of the words of the occurrences before this one
  pub record Stand (at count : ℕ) (start table dictionary lists : List ℕ) : Type 0 where
    pub are : AreWritten (by_word docs places) (by_word docs (drop at places)) count start table dictionary lists
    pub within : at ≤ length places
    pub few : count ≤ at

  pub none_yet : (start dictionary lists : List ℕ) → dictionary ≡ [] → lists ≡ [] → All CanPost (by_word docs places) → Stand 0 0 start start dictionary lists
  none_yet start dictionary lists no_word no_list posts = record {
    are = record {
      named = ap (λ l. l ++ dictionary_bytes (map word_of (by_word docs places))) no_word;
      counted = omega arith;
      posts = posts;
      both = λ rows each. record {
        each = each;
        tabled = ap (λ l. start ++ table_bytes rows (length l) (length lists) (map word_of (by_word docs places))) no_word ∙ ap (λ l. start ++ table_bytes rows 0 (length l) (map word_of (by_word docs places))) no_list;
        posted = ap (λ l. l ++ postings_bytes rows (map word_of (by_word docs places))) no_list;
      };
    };
    within = omega arith;
    few = omega arith;
  }

  pub can_post : (at count n : ℕ) (word : List ℕ) (group : List Place) (start table dictionary lists : List ℕ) → Stand at count start table dictionary lists
      → by_word docs (drop at places) ≡ record { word = word; places = group } ∷ by_word docs (drop n (drop at places)) → ArePostable 0 (grouped group)
  can_post at count n word group start table dictionary lists was e =
      (All-head CanPost (record { word = word; places = group }) (by_word docs (drop n (drop at places))) (subst (All CanPost) e was.are.posts)).fits

  pub one_more : (at count n : ℕ) (word : List ℕ) (group : List Place) (start table dictionary lists after after_dictionary after_lists : List ℕ) → 1 ≤ n → n ≤ length (drop at places) → Stand at count start table dictionary lists
      → by_word docs (drop at places) ≡ record { word = word; places = group } ∷ by_word docs (drop n (drop at places))
      → after ≡ table ++ (to_le_bytes w32 (length dictionary) ++ to_le_bytes w32 (length (grouped group)) ++ to_le_bytes w32 (length lists))
      → after_dictionary ≡ dictionary ++ word_bytes word → after_lists ≡ lists ++ posting_list 0 (grouped group)
      → Stand (at + n) (count + 1) start after after_dictionary after_lists
  one_more at count n word group start table dictionary lists after after_dictionary after_lists some within was e put name list =
      let all = by_word docs places in
      let own : WordPlaces = record { word = word; places = group } in
      let behind : drop n (drop at places) ≡ drop (at + n) places = drop-drop n at places ∙ ap (λ k. drop k places) (omega arith) in
      let next : by_word docs (drop at places) ≡ own ∷ by_word docs (drop (at + n) places) = e ∙ ap (λ l. own ∷ by_word docs l) behind in
      record {
        are = word_more all (by_word docs (drop (at + n) places)) own count start table dictionary lists after after_dictionary after_lists (subst (λ rest. AreWritten all rest count start table dictionary lists) next was.are) put name list;
        within = omega (arith, within, was.within, length-drop at places);
        few = omega (arith, some, was.few);
      }

  -- what is taken of a part from here to the end is taken of all that is ahead
  ahead : (at : ℕ) → take (length places - at) (drop at places) ≡ drop at places
  ahead at = taken_past (drop at places) (length places - at) (omega (arith, length-drop at places))

  -- the entry of a word, by its name there, whose occurrences are so many from here
  pub counted_of : (at n : ℕ) (word v : List ℕ) → word ≡ v
      → by_word docs (take (length places - at) (drop at places)) ≡ record { word = v; places = map place_at (take n (take (length places - at) (drop at places))) } ∷ by_word docs (drop n (take (length places - at) (drop at places)))
      → by_word docs (drop at places) ≡ record { word = word; places = map place_at (take (at + n - at) (drop at places)) } ∷ by_word docs (drop n (drop at places))
  counted_of at n word v same is =
      subst (λ l. by_word docs l ≡ record { word = v; places = map place_at (take n l) } ∷ by_word docs (drop n l)) (ahead at) is
      ∙ ap (λ w. record { word = w; places = map place_at (take n (drop at places)) } ∷ by_word docs (drop n (drop at places))) (sym same)
      ∙ ap (λ k. record { word = word; places = map place_at (take k (drop at places)) } ∷ by_word docs (drop n (drop at places))) (omega arith)

  pub within_ahead : (at n : ℕ) → n ≤ length (take (length places - at) (drop at places)) → n ≤ length (drop at places)
  within_ahead at n low = subst (λ l. n ≤ length l) (ahead at) low

  all_done : (at count : ℕ) (start table dictionary lists : List ℕ) → length places ≤ at → Stand at count start table dictionary lists → AreWritten (by_word docs places) [] count start table dictionary lists
  all_done at count start table dictionary lists past was =
      subst (λ rest. AreWritten (by_word docs places) rest count start table dictionary lists) (ap (by_word docs) (empty (drop at places) (omega (arith, length-drop at places, past)))) was.are
    where
      empty : {X : Type 0} (xs : List X) → length xs ≤ 0 → xs ≡ []
      empty [] few = refl
      empty (x ∷ xs) few = absurd (omega (arith, few))

  pub tabled : (at count : ℕ) (start table dictionary lists : List ℕ) → length places ≤ at → Stand at count start table dictionary lists
      → (rows : List DocRow) → All (IsGathered rows) (by_word docs places) → table ≡ start ++ table_bytes rows 0 0 (map word_of (by_word docs places))
  tabled at count start table dictionary lists past was rows each = sym (append-nil table) ∙ ((all_done at count start table dictionary lists past was).both rows each).tabled

  pub posted : (at count : ℕ) (start table dictionary lists : List ℕ) → length places ≤ at → Stand at count start table dictionary lists
      → (rows : List DocRow) → All (IsGathered rows) (by_word docs places) → lists ≡ postings_bytes rows (map word_of (by_word docs places))
  posted at count start table dictionary lists past was rows each = sym (append-nil lists) ∙ ((all_done at count start table dictionary lists past was).both rows each).posted

  pub named : (at count : ℕ) (start table dictionary lists : List ℕ) → length places ≤ at → Stand at count start table dictionary lists → dictionary ≡ dictionary_bytes (map word_of (by_word docs places))
  named at count start table dictionary lists past was = sym (append-nil dictionary) ∙ (all_done at count start table dictionary lists past was).named

  pub counted : (at count : ℕ) (start table dictionary lists : List ℕ) → length places ≤ at → Stand at count start table dictionary lists → count ≡ length (by_word docs places)
  counted at count start table dictionary lists past was = omega (arith, (all_done at count start table dictionary lists past was).counted)
