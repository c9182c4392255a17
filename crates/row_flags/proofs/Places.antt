-- What a keyword's fields tell of a row that has its word.
use Rattle.std.proofs.Common.{◌≡◌, ℕ, ◌+◌, Bool, true, false, ◌||◌, bit_and, List, [], ◌∷◌, ◌++◌, Some, map, length, slice_get, inl, inr, refl, sym, ap, subst, ◌∙◌, cond}
use Rattle.std.specs.Prelude.{◌==◌, All, not}
use Rattle.std.specs.List.{enumerate_from, filter, flat_map, list_any}
use Rattle.std.specs.Option.{option_and_then, option_map_or}
use Rattle.std.proofs.lemmas.Bool.{cases_Bool, eq-eqb, ne_eqb}
use Rattle.doc_types.specs.declared.documents.DocRow.{DocRow}
use Rattle.doc_types.specs.declared.tokens.FieldTokens.{FieldTokens}
use Rattle.doc_types.specs.declared.tokens.TokenWord.{TokenWord}
use Rattle.doc_types.specs.Chunks.{CursorPlace, fields_ahead, fields_with, has_word, hits_of, is_word, next_row, positions_of}
use Rattle.query_tree.specs.declared.key.Key.{Key}
use Rattle.word_rows.specs.Fields.{AreFieldsOf, LooksAtFields}
use Rattle.word_rows.specs.Keywords.{key_places}
use Rattle.word_rows.specs.steps.Cursors.{IsUnlimited}
use Rattle.word_rows.proofs.Allowed.{all_allowed}
use Rattle.word_rows.proofs.FieldBits.{key_fields, no_field, no_place}
use Rattle.word_rows.proofs.PlacedRows.{IsPlacedRow, at_one}
use Rattle.op_eval.specs.Finding.{is_some}
use Rattle.row_flags.specs.steps.Flags.{AreFlags, IsFree, has_place}
use Rattle.row_flags.proofs.RowsAhead.{without_word}

-- ---- a word that a row has is at some place

some_append : {X : Type 0} (xs ys : List X) → is_some (xs ++ ys) ≡ (is_some xs || is_some ys)
some_append [] ys = refl
some_append (x ∷ xs) ys = refl

some_map : {X Y : Type 0} (f : X → Y) (xs : List X) → is_some (map f xs) ≡ is_some xs
some_map f [] = refl
some_map f (x ∷ xs) = refl

some_kept : {X : Type 0} (b : Bool) (x : X) (xs : List X) (later : Bool) → is_some xs ≡ later → is_some (cond b (x ∷ xs) xs) ≡ (b || later)
some_kept true x xs later is = refl
some_kept false x xs later is = is

some_filter : {X : Type 0} (p : X → Bool) (xs : List X) → is_some (filter p xs) ≡ list_any p xs
some_filter p [] = refl
some_filter p (x ∷ xs) = some_kept (p x) x (filter p xs) (list_any p xs) (some_filter p xs)

module _ (word : List ℕ) where
  abbrev places_in : ℕ × FieldTokens → List (ℕ × ℕ)
  places_in e = map (λ x. (e.0, x)) (positions_of word e.1)

  some_fields : (n : ℕ) (fields : List FieldTokens) → is_some (flat_map places_in (enumerate_from n fields)) ≡ list_any (λ (field : FieldTokens). list_any (is_word word) field.words) fields
  some_fields n [] = refl
  some_fields n (field ∷ fields) =
      some_append (places_in (n, field)) (flat_map places_in (enumerate_from (n + 1) fields))
      ∙ ap (λ t. t || is_some (flat_map places_in (enumerate_from (n + 1) fields)))
      (some_map (λ (x : ℕ). let place : ℕ × ℕ = (n, x) in place) (positions_of word field) ∙ some_map (λ (token : TokenWord). token.position) (filter (is_word word) field.words) ∙ some_filter (is_word word) field.words)
      ∙ ap (λ t. list_any (is_word word) field.words || t) (some_fields (n + 1) fields)

  some_hits : (row : DocRow) → is_some (hits_of word row) ≡ has_word word row
  some_hits row = some_fields 0 row.doc.fields

-- ---- a keyword that may stand in each field

pub free_place : (row : DocRow) (key : Key) → LooksAtFields key → IsFree key (length row.doc.fields) → IsPlacedRow row → has_word key.word row ≡ true → has_place key row ≡ true
free_place row key looks free placed has =
    let unlimited : IsUnlimited key (length row.doc.fields) = record { start = looks.start; end = looks.end; positions = looks.positions; zones = looks.zones; fields = free } in
    ap is_some (all_allowed row key (length row.doc.fields) refl unlimited placed) ∙ some_hits key.word row ∙ has

free_has : (row : DocRow) (key : Key) (fields : ℕ) → LooksAtFields key → IsFree key fields → length row.doc.fields ≡ fields → IsPlacedRow row → has_word key.word row ≡ has_place key row
free_has row key fields looks free long placed =
    elim (cases_Bool (has_word key.word row)) [
      | inl has ↦ has ∙ sym (free_place row key looks (subst (λ n. IsFree key n) (sym long) free) placed has)
      | inr none ↦ none ∙ sym (without_word key row none)
    ]

pub free_flags : (rows : List DocRow) (key : Key) (fields from : ℕ) (flags : List Bool) → LooksAtFields key → IsFree key fields → All (λ row. length row.doc.fields ≡ fields) rows → All IsPlacedRow rows → AreFlags (has_word key.word) rows from flags → AreFlags (has_place key) rows from flags
free_flags rows key fields from flags looks free long placed are = λ i row d within there.
    are i row d within there
    ∙ free_has row key fields looks free (at_one (λ row. length row.doc.fields ≡ fields) rows long (from + i) row there) (at_one IsPlacedRow rows placed (from + i) row there)

-- ---- one that may stand in some

some_places : (fields : ℕ) (places : List (ℕ × ℕ)) → AreFieldsOf fields places → is_some places ≡ not (fields == 0)
some_places fields [] are = sym (ap not (eq-eqb fields 0 (no_field fields are)))
some_places fields (place ∷ places) are =
    sym (ap not (ne_eqb fields 0 (λ zero. absurd (let none = no_place (place ∷ places) (subst (λ n. AreFieldsOf n (place ∷ places)) zero are) in let clash : true ≡ false = ap is_some none in cc))))

pub next_fields : (rows : List DocRow) (place : CursorPlace) (row : ℕ) (word : List ℕ) (found : DocRow) → place.word ≡ word → next_row place ≡ Some row → slice_get rows row ≡ Some found → fields_ahead rows place ≡ fields_with word found
next_fields rows place row word found over next here =
    ap (λ o. option_map_or (fields_with place.word) (option_and_then (slice_get rows) o) 0) next
    ∙ (ap (λ o. option_map_or (fields_with place.word) o 0) here ∙ ap (λ w. fields_with w found) over)

pub fields_place : (rows : List DocRow) (place : CursorPlace) (row bits : ℕ) (key : Key) (found : DocRow) → LooksAtFields key → IsPlacedRow found → place.word ≡ key.word → next_row place ≡ Some row → slice_get rows row ≡ Some found → bits ≡ fields_ahead rows place → not (bit_and bits key.limit.fields == 0) ≡ has_place key found
fields_place rows place row bits key found looks placed over next here is =
    ap (λ n. not (bit_and n key.limit.fields == 0)) (is ∙ next_fields rows place row key.word found over next here)
    ∙ sym (some_places (bit_and (fields_with key.word found) key.limit.fields) (key_places found key) (key_fields found key looks placed))
