-- All occurrences of words in documents: those of a word are its places, and each has its word's head.
use Rattle.std.proofs.Common.{◌≡◌, ℕ, suc, ◌+◌, List, [], ◌∷◌, ◌++◌, true, false, cond, ◌||◌, Option, Some, refl, sym, ap, subst, ◌∙◌, arith, map, All, slice_get, ◌*◌, ◌%◌, ◌<◌, ◌≤◌, length}
use Rattle.std.specs.List.{filter, list_any, enumerate_from}
use Rattle.std.specs.Option.{option_and_then, option_map_or}
use Rattle.std.specs.Str.{bytes_eq}
use Rattle.std.proofs.lemmas.List.{map-append}
use Rattle.std.proofs.lemmas.Nat.{div-mul-add, mod-mul-add}
use Rattle.std.proofs.lemmas.List.Elements.{All-append, All-cons, All-head, All-tail, filter-append}
use Rattle.doc_types.specs.declared.documents.Doc.{Doc}
use Rattle.doc_types.specs.declared.documents.DocRow.{DocRow}
use Rattle.doc_types.specs.declared.tokens.FieldTokens.{FieldTokens}
use Rattle.doc_types.specs.declared.tokens.TokenWord.{TokenWord}
use Rattle.doc_types.specs.Chunks.{has_word, hits_of, is_word, positions_of}
use Rattle.doc_types.proofs.FieldParts.{parts}
use Rattle.chunk_image.specs.AlikeRows.{postings}
use Rattle.image_write.specs.declared.gathering.Occurrence.{Occurrence}
use Rattle.image_write.specs.Written.{row_of}
use Rattle.image_write.specs.steps.Gathering.{Place, Entry, places_of}
use Rattle.image_write.specs.Heads.{IsRead, head}
use Rattle.image_write.specs.steps.Places.{AreFew, HasHead, doc_places, docs_places, field_places, is_at, occurrence_of, place_at, word_at, token_in, token_at}

abbrev plain : Doc → DocRow
plain doc = row_of doc 0

twice : {A B C : Type 0} (f : B → C) (g : A → B) (xs : List A) → map f (map g xs) ≡ map (λ x. f (g x)) xs
twice f g [] = refl
twice f g (x ∷ xs) = ap (λ l. f (g x) ∷ l) (twice f g xs)

module _ (docs : List Doc) where
  token_there : (row field number : ℕ) (t : TokenWord) → field < 32 → token_at docs (occurrence_of row field number t) ≡ token_in docs row field number
  token_there row field number t low =
      ap (λ n. token_in docs n ((row * 32 + field) % 32) number) (div-mul-add row 32 field low) ∙ ap (λ n. token_in docs row n number) (mod-mul-add row 32 field low)

  word_there : (row field number : ℕ) (t : TokenWord) → field < 32 → token_in docs row field number ≡ Some t → word_at docs (occurrence_of row field number t) ≡ t.word
  unfolding word_at
  word_there row field number t low e = ap (λ (o : Option TokenWord). option_map_or (λ token. token.word) o []) (token_there row field number t low ∙ e)

  place_there : (row field number : ℕ) (t : TokenWord) → field < 32 → place_at (occurrence_of row field number t) ≡ (row, (field, t.position))
  place_there row field number t low =
      ap (λ n. (n, ((row * 32 + field) % 32, t.position))) (div-mul-add row 32 field low) ∙ ap (λ n. (row, (n, t.position))) (mod-mul-add row 32 field low)

  first_token : (row field number : ℕ) (t : TokenWord) (ts : List TokenWord) → ((k : ℕ) → token_in docs row field (number + k) ≡ slice_get (t ∷ ts) k) → token_in docs row field number ≡ Some t
  first_token row field number t ts there = subst (λ n. token_in docs row field n ≡ Some t) (omega arith) (there 0)

  other_tokens : (row field number : ℕ) (t : TokenWord) (ts : List TokenWord) → ((k : ℕ) → token_in docs row field (number + k) ≡ slice_get (t ∷ ts) k) → (k : ℕ) → token_in docs row field (number + 1 + k) ≡ slice_get ts k
  other_tokens row field number t ts there k = subst (λ n. token_in docs row field n ≡ slice_get ts k) (omega arith) (there (suc k))

  -- the occurrences in a field
  in_field : (w : List ℕ) (row field number : ℕ) (ts : List TokenWord) → field < 32 → ((k : ℕ) → token_in docs row field (number + k) ≡ slice_get ts k)
      → map place_at (filter (is_at docs w) (field_places row field number ts)) ≡ map (λ position. (row, (field, position))) (map (λ (token : TokenWord). token.position) (filter (is_word w) ts))
  in_field w row field number [] low there = refl
  in_field w row field number (t ∷ ts) low there =
      let here = first_token row field number t ts there in
      let rest = in_field w row field (number + 1) ts low (other_tokens row field number t ts there) in
      let o : Occurrence = occurrence_of row field number t in
      let more = filter (is_at docs w) (field_places row field (number + 1) ts) in
      let its = filter (is_word w) ts in
      let place : ℕ → Place = λ position. (row, (field, position)) in
      let position : TokenWord → ℕ = λ token. token.position in
      ap (λ v. map place_at (cond (bytes_eq v w) (o ∷ more) more)) (word_there row field number t low here)
      ∙ elim (bytes_eq t.word w) as (λ b. map place_at (cond b (o ∷ more) more) ≡ map place (map position (cond b (t ∷ its) its))) [
        | true ↦ ap (λ p. p ∷ map place_at more) (place_there row field number t low) ∙ ap (λ l. place t.position ∷ l) rest
        | false ↦ rest
      ]

  heads_in_field : (row field number : ℕ) (ts : List TokenWord) → field < 32 → ((k : ℕ) → token_in docs row field (number + k) ≡ slice_get ts k) → All (λ token. IsRead token.word) ts → All (HasHead docs) (field_places row field number ts)
  heads_in_field row field number [] low there read = λ k d h. absurd (omega (arith, h))
  heads_in_field row field number (t ∷ ts) low there read =
      let word : word_at docs (occurrence_of row field number t) ≡ t.word = word_there row field number t low (first_token row field number t ts there) in
      All-cons (HasHead docs) (occurrence_of row field number t) (field_places row field (number + 1) ts)
      (record { is = ap head (sym word); read = subst IsRead (sym word) (All-head (λ (token : TokenWord). IsRead token.word) t ts read) })
      (heads_in_field row field (number + 1) ts low (other_tokens row field number t ts there) (All-tail (λ (token : TokenWord). IsRead token.word) t ts read))

  -- those in a document
  abbrev AreThere : ℕ → ℕ → List FieldTokens → Type 0
  AreThere row field fields = (m k : ℕ) → token_in docs row (field + m) k ≡ option_and_then (λ tokens. slice_get tokens.words k) (slice_get fields m)

  first_field : (row field : ℕ) (f : FieldTokens) (fs : List FieldTokens) → AreThere row field (f ∷ fs) → (k : ℕ) → token_in docs row field (0 + k) ≡ slice_get f.words k
  first_field row field f fs there k =
      let from : 0 + k ≡ k = omega arith in
      ap (token_in docs row field) from ∙ subst (λ n. token_in docs row n k ≡ slice_get f.words k) (omega arith) (there 0 k)

  other_fields : (row field : ℕ) (f : FieldTokens) (fs : List FieldTokens) → AreThere row field (f ∷ fs) → AreThere row (field + 1) fs
  other_fields row field f fs there m k = subst (λ n. token_in docs row n k ≡ option_and_then (λ tokens. slice_get tokens.words k) (slice_get fs m)) (omega arith) (there (suc m) k)

  in_doc : (w : List ℕ) (row field : ℕ) (fs : List FieldTokens) → field + length fs ≤ 32 → AreThere row field fs
      → map place_at (filter (is_at docs w) (doc_places row field fs)) ≡ map (λ hit. (row, hit)) (parts field (positions_of w) fs)
  in_doc w row field [] few there = refl
  in_doc w row field (f ∷ fs) few there =
      let own = in_field w row field 0 f.words (omega (arith, few)) (first_field row field f fs there) in
      let rest = in_doc w row (field + 1) fs (omega (arith, few)) (other_fields row field f fs there) in
      let mine = field_places row field 0 f.words in
      let others = doc_places row (field + 1) fs in
      let hit : ℕ × ℕ → Place = λ h. (row, h) in
      let in_own : ℕ → ℕ × ℕ = λ position. (field, position) in
      ap (map place_at) (filter-append (is_at docs w) mine others)
      ∙ map-append place_at (filter (is_at docs w) mine) (filter (is_at docs w) others)
      ∙ ap (λ l. l ++ map place_at (filter (is_at docs w) others)) (own ∙ sym (twice hit in_own (positions_of w f)))
      ∙ ap (λ l. map hit (map in_own (positions_of w f)) ++ l) rest
      ∙ sym (map-append hit (map in_own (positions_of w f)) (parts (field + 1) (positions_of w) fs))

  abbrev FieldRead : FieldTokens → Type 0
  FieldRead tokens = All (λ token. IsRead token.word) tokens.words

  heads_in_doc : (row field : ℕ) (fs : List FieldTokens) → field + length fs ≤ 32 → AreThere row field fs → All FieldRead fs → All (HasHead docs) (doc_places row field fs)
  heads_in_doc row field [] few there read = λ k d h. absurd (omega (arith, h))
  heads_in_doc row field (f ∷ fs) few there read =
      All-append (HasHead docs) (field_places row field 0 f.words) (doc_places row (field + 1) fs)
      (heads_in_field row field 0 f.words (omega (arith, few)) (first_field row field f fs there) (All-head FieldRead f fs read))
      (heads_in_doc row (field + 1) fs (omega (arith, few)) (other_fields row field f fs there) (All-tail FieldRead f fs read))

  -- those in documents
  abbrev StandFrom : ℕ → List Doc → Type 0
  StandFrom row ds = (m : ℕ) → slice_get docs (row + m) ≡ slice_get ds m

  first_doc : (row : ℕ) (d : Doc) (ds : List Doc) → StandFrom row (d ∷ ds) → AreThere row 0 d.fields
  first_doc row d ds there m k =
      let here : slice_get docs row ≡ Some d = subst (λ n. slice_get docs n ≡ Some d) (omega arith) (there 0) in
      let from : 0 + m ≡ m = omega arith in
      ap (λ n. token_in docs row n k) from ∙ ap (λ (o : Option Doc). option_and_then (λ doc. option_and_then (λ tokens. slice_get tokens.words k) (slice_get doc.fields m)) o) here

  other_docs : (row : ℕ) (d : Doc) (ds : List Doc) → StandFrom row (d ∷ ds) → StandFrom (row + 1) ds
  other_docs row d ds there m = subst (λ n. slice_get docs n ≡ slice_get ds m) (omega arith) (there (suc m))

  -- a document without the word has no place of it
  no_places : (w : List ℕ) (words : List TokenWord) → list_any (is_word w) words ≡ false → filter (is_word w) words ≡ []
  no_places w [] e = refl
  no_places w (t ∷ ts) e =
      elim (is_word w t) as (λ b. (b || list_any (is_word w) ts) ≡ false → cond b (t ∷ filter (is_word w) ts) (filter (is_word w) ts) ≡ []) [
        | true ↦ λ h. absurd cc
        | false ↦ λ h. no_places w ts h
      ] e

  no_parts : (w : List ℕ) (n : ℕ) (fields : List FieldTokens) → list_any (λ field. list_any (is_word w) field.words) fields ≡ false → parts n (positions_of w) fields ≡ []
  no_parts w n [] e = refl
  no_parts w n (f ∷ fs) e =
      elim (list_any (is_word w) f.words) as (λ b. list_any (is_word w) f.words ≡ b → (b || list_any (λ field. list_any (is_word w) field.words) fs) ≡ false → parts n (positions_of w) (f ∷ fs) ≡ []) [
        | true ↦ λ here h. absurd cc
        | false ↦ λ here h. ap (λ (ts : List TokenWord). map (λ (x : ℕ). (n, x)) (map (λ (token : TokenWord). token.position) ts) ++ parts (n + 1) (positions_of w) fs) (no_places w f.words here) ∙ no_parts w (n + 1) fs h
      ] refl e

  abbrev posted_from : List ℕ → ℕ → List Doc → List Entry
  posted_from w row ds = postings w row (map plain ds)

  in_docs : (w : List ℕ) (row : ℕ) (ds : List Doc) → All AreFew ds → StandFrom row ds → map place_at (filter (is_at docs w) (docs_places row ds)) ≡ places_of (posted_from w row ds)
  in_docs w row [] few there = refl
  in_docs w row (d ∷ ds) few there =
      let own = in_doc w row 0 d.fields (omega (arith, (All-head AreFew d ds few).few)) (first_doc row d ds there) in
      let rest = in_docs w (row + 1) ds (All-tail AreFew d ds few) (other_docs row d ds there) in
      let mine = doc_places row 0 d.fields in
      let others = docs_places (row + 1) ds in
      let hit : ℕ × ℕ → Place = λ h. (row, h) in
      let entry : ℕ × DocRow → Entry = λ e. (e.0, hits_of w e.1) in
      let more = filter (λ (e : ℕ × DocRow). has_word w e.1) (enumerate_from (row + 1) (map plain ds)) in
      ap (map place_at) (filter-append (is_at docs w) mine others)
      ∙ map-append place_at (filter (is_at docs w) mine) (filter (is_at docs w) others)
      ∙ ap (λ l. l ++ map place_at (filter (is_at docs w) others)) own
      ∙ ap (λ l. map hit (parts 0 (positions_of w) d.fields) ++ l) rest
      ∙ elim (has_word w (plain d)) as (λ b. has_word w (plain d) ≡ b → map hit (parts 0 (positions_of w) d.fields) ++ places_of (posted_from w (row + 1) ds) ≡ places_of (map entry (cond b ((row, plain d) ∷ more) more))) [
        | true ↦ λ has. refl
        | false ↦ λ has. ap (λ hits. map hit hits ++ places_of (posted_from w (row + 1) ds)) (no_parts w 0 d.fields has)
      ] refl

  abbrev DocRead : Doc → Type 0
  DocRead doc = All FieldRead doc.fields

  heads_in_docs : (row : ℕ) (ds : List Doc) → All AreFew ds → StandFrom row ds → All DocRead ds → All (HasHead docs) (docs_places row ds)
  heads_in_docs row [] few there read = λ k d h. absurd (omega (arith, h))
  heads_in_docs row (d ∷ ds) few there read =
      All-append (HasHead docs) (doc_places row 0 d.fields) (docs_places (row + 1) ds)
      (heads_in_doc row 0 d.fields (omega (arith, (All-head AreFew d ds few).few)) (first_doc row d ds there) (All-head DocRead d ds read))
      (heads_in_docs (row + 1) ds (All-tail AreFew d ds few) (other_docs row d ds there) (All-tail DocRead d ds read))

  pub places_each : All AreFew docs → (w : List ℕ) → map place_at (filter (is_at docs w) (docs_places 0 docs)) ≡ places_of (postings w 0 (map (λ doc. row_of doc 0) docs))
  places_each few w = in_docs w 0 docs few (λ m. ap (slice_get docs) (omega arith))

  pub heads_all : All AreFew docs → All (λ doc. All (λ tokens. All (λ token. IsRead token.word) tokens.words) doc.fields) docs → All (HasHead docs) (docs_places 0 docs)
  heads_all few read = heads_in_docs 0 docs few (λ m. ap (slice_get docs) (omega arith)) read
