-- Whether a keyword has a place in a row, by what its term tells of its word.
use Rattle.std.proofs.Common.{◌≡◌, refl, sym, ap, ◌∙◌, ℕ, ◌+◌, Bool, true, false, cond, List, [], ◌∷◌, ◌++◌, map}
use Rattle.std.specs.Prelude.{◌||◌, ◌&&◌, not}
use Rattle.std.specs.List.{filter, flat_map, list_any, enumerate_from}
use Rattle.std.proofs.lemmas.Bool.{and_parts, not-true}
use Rattle.doc_types.specs.declared.documents.DocRow.{DocRow}
use Rattle.doc_types.specs.declared.tokens.FieldTokens.{FieldTokens}
use Rattle.doc_types.specs.Chunks.{is_word, has_word, positions_of, hits_of}
use Rattle.query_tree.specs.declared.key.Key.{Key}
use Rattle.occ_lists.specs.declared.term.Term.{Term}
use Rattle.occ_lists.specs.Places.{within_all}
use Rattle.word_rows.specs.Keywords.{allows, key_places, places_within, Spans}
use Rattle.op_eval.specs.Finding.{is_some}
use Rattle.word_rows.specs.Terms.{IsSeenIn}
use Rattle.op_eval.specs.steps.Verdicts.{Concerns, stands_in}

-- ---- lists

pub none_there : {X : Type 0} (xs : List X) → is_some xs ≡ false → xs ≡ []
none_there [] e = refl
none_there (x ∷ xs) e = cc

some_append : {X : Type 0} (xs ys : List X) → is_some (xs ++ ys) ≡ (is_some xs || is_some ys)
some_append [] ys = refl
some_append (x ∷ xs) ys = refl

some_map : {X Y : Type 0} (f : X → Y) (xs : List X) → is_some (map f xs) ≡ is_some xs
some_map f [] = refl
some_map f (x ∷ xs) = refl

some_kept : {X : Type 0} (b : Bool) (x : X) (xs : List X) → is_some (cond b (x ∷ xs) xs) ≡ (b || is_some xs)
some_kept true x xs = refl
some_kept false x xs = refl

some_filter : {X : Type 0} (p : X → Bool) (xs : List X) → is_some (filter p xs) ≡ list_any p xs
some_filter p [] = refl
some_filter p (x ∷ xs) = some_kept (p x) x (filter p xs) ∙ ap (λ t. p x || t) (some_filter p xs)

pub filter_always : {X : Type 0} (xs : List X) → filter (λ (x : X). true) xs ≡ xs
filter_always [] = refl
filter_always (x ∷ xs) = ap (λ ys. x ∷ ys) (filter_always xs)

-- ---- words

module _ (word : List ℕ) where
  -- the places of the word in a field with its number
  abbrev places_in : ℕ × FieldTokens → List (ℕ × ℕ)
  places_in e = map (λ (x : ℕ). (e.0, x)) (positions_of word e.1)

  some_fields : (n : ℕ) (fields : List FieldTokens) → is_some (flat_map places_in (enumerate_from n fields)) ≡ list_any (λ (field : FieldTokens). list_any (is_word word) field.words) fields
  some_fields n [] = refl
  some_fields n (field ∷ fields) =
      some_append (places_in (n, field)) (flat_map places_in (enumerate_from (n + 1) fields))
      ∙ ap (λ t. t || is_some (flat_map places_in (enumerate_from (n + 1) fields)))
      (some_map (λ (x : ℕ). let place : ℕ × ℕ = (n, x) in place) (positions_of word field) ∙ some_map _ (filter (is_word word) field.words) ∙ some_filter (is_word word) field.words)
      ∙ ap (λ t. list_any (is_word word) field.words || t) (some_fields (n + 1) fields)

  -- a word has a place where the row has it
  some_hits : (row : DocRow) → is_some (hits_of word row) ≡ has_word word row
  some_hits row = some_fields 0 row.doc.fields

-- ---- keywords

module _ (row : DocRow) (key : Key) where
  -- a keyword whose word isn't there
  pub places_absent : (spans : Spans) → has_word key.word row ≡ false → places_within row spans key ≡ []
  places_absent spans e = ap (λ hits. filter (within_all spans) (filter (allows row key) hits)) (none_there (hits_of key.word row) (some_hits key.word row ∙ e))

  -- one that is there, and that has each place of its word
  stands_free : has_word key.word row ≡ true → filter (allows row key) (hits_of key.word row) ≡ hits_of key.word row → stands_in row [] key ≡ true
  stands_free e free =
      ap is_some (filter_always (key_places row key) ∙ free) ∙ some_hits key.word row ∙ e

  pub seen_absent : (term : Term) (spans : Spans) → IsSeenIn row key term → term.present ≡ false → stands_in row spans key ≡ false
  seen_absent term spans seen e = ap is_some (places_absent spans (sym seen.present ∙ e))

  pub seen_sure : (term : Term) (spanned : Bool) (spans : Spans) → IsSeenIn row key term → (term.present && (term.free && not spanned)) ≡ true → Concerns spanned spans → stands_in row spans key ≡ true
  seen_sure term spanned spans seen e concerns =
      let there = and_parts term.present (term.free && not spanned) e in
      let free = and_parts term.free (not spanned) there.1 in
      let none : spans ≡ [] = concerns (not-true spanned free.1) in
      ap (λ (s : Spans). stands_in row s key) none ∙ stands_free (sym seen.present ∙ there.0) (seen.free free.0)
