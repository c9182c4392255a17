-- Occurrences by their words: those of one word in a row are an entry.
use Rattle.std.proofs.Common.{◌≡◌, ℕ, zero, suc, ◌+◌, ◌<◌, ◌≤◌, List, [], ◌∷◌, ◌++◌, Bool, true, false, cond, IsSomeAnd, slice_get, length, drop, take, get_or, map, refl, sym, ap, subst, ◌∙◌, arith, drop-cons}
use Rattle.std.specs.Str.{bytes_eq}
use Rattle.std.proofs.lemmas.List.{take-append-drop, take_more, length-take}
use Rattle.std.proofs.lemmas.Slice.Eq.{bytes_eq-Decides}
use Rattle.doc_types.specs.declared.documents.Doc.{Doc}
use Rattle.image_write.specs.declared.gathering.Occurrence.{Occurrence}
use Rattle.image_write.specs.steps.Gathering.{Place, WordPlaces}
use Rattle.image_write.specs.steps.Places.{by_word, place_at, with_place, word_at}

pub apart : (a b : List ℕ) → (a ≡ b → ⊥) → bytes_eq a b ≡ false
apart a b ne =
    elim (bytes_eq a b) as (λ r. bytes_eq a b ≡ r → r ≡ false) [
      | true ↦ λ e. absurd (ne ((bytes_eq-Decides a b).0 e))
      | false ↦ λ _. refl
    ] refl

pub same : (a b : List ℕ) → a ≡ b → bytes_eq a b ≡ true
same a b e = (bytes_eq-Decides a b).1 e

-- what a test of two words told
pub differ : (b : Bool) (v w : List ℕ) → b ≡ false → b ≡ bytes_eq v w → v ≡ w → ⊥
differ b v w told is e = clash (sym (same v w e) ∙ sym is ∙ told)
  where
    clash : true ≡ false → ⊥
    clash h = cc

pub agree : (b : Bool) (v w : List ℕ) → b ≡ true → b ≡ bytes_eq v w → v ≡ w
agree b v w told is = (bytes_eq-Decides v w).0 (sym is ∙ told)

module _ (docs : List Doc) where
  -- the first of these entries, and of these occurrences, isn't of this word
  abbrev Others : List ℕ → List WordPlaces → Type 0
  Others word [] = Unit {0}
  Others word (e ∷ es) = word ≡ e.word → ⊥

  abbrev pub Behind : List ℕ → List Occurrence → Type 0
  Behind word [] = Unit {0}
  Behind word (o ∷ os) = word ≡ word_at docs o → ⊥

  -- occurrences that are of this word
  abbrev pub AreOf : List ℕ → List Occurrence → Type 0
  AreOf word [] = Unit {0}
  AreOf word (o ∷ os) = (word_at docs o ≡ word) × AreOf word os

  alone : (word : List ℕ) (p : Place) (es : List WordPlaces) → Others word es → with_place word p es ≡ record { word = word; places = p ∷ [] } ∷ es
  alone word p [] others = refl
  alone word p (e ∷ es) others = rw (apart word e.word others) refl

  with_others : (word v : List ℕ) (p : Place) (es : List WordPlaces) → (word ≡ v → ⊥) → Others word (with_place v p es)
  with_others word v p [] ne = ne
  with_others word v p (e ∷ es) ne =
      elim (bytes_eq v e.word) as (λ b. Others word (cond b (record { word = v; places = p ∷ e.places } ∷ es) (record { word = v; places = p ∷ [] } ∷ e ∷ es))) [
        | true ↦ ne
        | false ↦ ne
      ]

  behind_others : (word : List ℕ) (os : List Occurrence) → Behind word os → Others word (by_word docs os)
  behind_others word [] behind = tt
  behind_others word (o ∷ os) behind = with_others word (word_at docs o) (place_at o) (by_word docs os) behind

  abbrev pub entry : List ℕ → List Occurrence → WordPlaces
  entry word os = record { word = word; places = map place_at os }

  joins : (word : List ℕ) (p : Place) (places : List Place) (es : List WordPlaces) → with_place word p (record { word = word; places = places } ∷ es) ≡ record { word = word; places = p ∷ places } ∷ es
  joins word p places es = rw (same word word refl) refl

  -- the occurrences of one word, before others, are an entry
  one_entry : (word : List ℕ) (os rest : List Occurrence) → 1 ≤ length os → AreOf word os → Behind word rest → by_word docs (os ++ rest) ≡ entry word os ∷ by_word docs rest
  one_entry word [] rest some are behind = absurd (omega (arith, some))
  one_entry word (o ∷ []) rest some are behind =
      ap (λ w. with_place w (place_at o) (by_word docs rest)) are.0 ∙ alone word (place_at o) (by_word docs rest) (behind_others word rest behind)
  one_entry word (o ∷ p ∷ os) rest some are behind =
      ap (λ w. with_place w (place_at o) (by_word docs (p ∷ os ++ rest))) are.0
      ∙ ap (with_place word (place_at o)) (one_entry word (p ∷ os) rest (omega arith) are.1 behind)
      ∙ joins word (place_at o) (map place_at (p ∷ os)) (by_word docs rest)

  taken : (word : List ℕ) (n : ℕ) (os : List Occurrence) → AreOf word (take n os) → 1 ≤ n → n ≤ length os → Behind word (drop n os) → by_word docs os ≡ entry word (take n os) ∷ by_word docs (drop n os)
  taken word n os are some within behind =
      ap (by_word docs) (sym (take-append-drop n os)) ∙ one_entry word (take n os) (drop n os) (omega (arith, length-take n os, some, within)) are behind

  -- the exits of counting a word
  pub some_counted : (word : List ℕ) (n : ℕ) (os : List Occurrence) (d : Occurrence) → n < length os → (word_at docs (get_or os n d) ≡ word → ⊥) → IsSomeAnd (slice_get os 0) (λ o. word_at docs o ≡ word) → 1 ≤ n
  some_counted word zero [] d low ne first = absurd (omega (arith, low))
  some_counted word zero (o ∷ os) d low ne first = absurd (ne first)
  some_counted word (suc n) os d low ne first = omega arith

  pub stopped : (word : List ℕ) (n : ℕ) (os : List Occurrence) (d : Occurrence) → n < length os → (word_at docs (get_or os n d) ≡ word → ⊥) → IsSomeAnd (slice_get os 0) (λ o. word_at docs o ≡ word)
      → AreOf word (take n os) → by_word docs os ≡ entry word (take n os) ∷ by_word docs (drop n os)
  stopped word n os d low ne first are =
      taken word n os are (some_counted word n os d low ne first) (omega (arith, low)) (subst (Behind word) (sym (drop-cons os n d low)) (λ f. ne (sym f)))

  none_behind : (word : List ℕ) (os : List Occurrence) → Behind word (drop (length os) os)
  none_behind word [] = tt
  none_behind word (o ∷ os) = none_behind word os

  pub some_there : (word : List ℕ) (os : List Occurrence) → IsSomeAnd (slice_get os 0) (λ o. word_at docs o ≡ word) → 1 ≤ length os
  some_there word [] first = absurd first
  some_there word (o ∷ os) first = omega arith

  pub taken_all : (word : List ℕ) (n : ℕ) (os : List Occurrence) → n ≡ length os → IsSomeAnd (slice_get os 0) (λ o. word_at docs o ≡ word)
      → AreOf word (take n os) → by_word docs os ≡ entry word (take (length os) os) ∷ by_word docs (drop (length os) os)
  taken_all word n os at first are = taken word (length os) os (subst (λ k. AreOf word (take k os)) at are) (some_there word os first) (omega arith) (none_behind word os)

  -- one more occurrence of the word
  pub are_more : (word : List ℕ) (n : ℕ) (os : List Occurrence) (d : Occurrence) → n < length os → word_at docs (get_or os n d) ≡ word → AreOf word (take n os) → AreOf word (take (n + 1) os)
  are_more word n os d low is are = subst (AreOf word) (sym (take_more os n d low)) (added (take n os) (get_or os n d) are is)
    where
      added : (xs : List Occurrence) (o : Occurrence) → AreOf word xs → word_at docs o ≡ word → AreOf word (xs ++ o ∷ [])
      added [] o are is = (is, tt)
      added (x ∷ xs) o are is = (are.0, added xs o are.1 is)

  pub first_there : (os : List Occurrence) (at : ℕ) (d : Occurrence) (word : List ℕ) → at < length os → word ≡ word_at docs (get_or os at d) → IsSomeAnd (slice_get (drop at os) 0) (λ o. word_at docs o ≡ word)
  first_there os at d word low is = subst (λ (l : List Occurrence). IsSomeAnd (slice_get l 0) (λ o. word_at docs o ≡ word)) (sym (drop-cons os at d low)) (sym is)
