-- What is opened of a word in a row: its places there, or nothing where the row hasn't the word.
use Rattle.std.proofs.Common.{◌≡◌, ℕ, ◌+◌, ◌<◌, Bool, true, false, cond, List, [], ◌∷◌, ◌++◌, length, get_or, map, Option, Some, None, slice_get, IfSome, IsSome, refl, sym, ap, subst, ◌∙◌, zero-add, arith}
use Rattle.std.specs.Prelude.{if◌then◌else◌}
use Rattle.std.specs.List.{filter, list_any}
use Rattle.std.specs.Option.{option_and_then, option_map_or}
use Rattle.std.proofs.lemmas.Bool.{or_parts, eqb-true, true≢false}
use Rattle.std.proofs.lemmas.Option.{slice_get-get_or}
use Rattle.doc_types.specs.declared.cursor.Cursor.{Cursor}
use Rattle.doc_types.specs.declared.documents.DocRow.{DocRow}
use Rattle.doc_types.specs.declared.tokens.FieldTokens.{FieldTokens}
use Rattle.doc_types.specs.declared.tokens.TokenWord.{TokenWord}
use Rattle.doc_types.specs.Chunks.{CursorPlace, has_word, hits_ahead, hits_of, is_word, next_row, positions_of}
use Rattle.doc_types.proofs.FieldParts.{parts}
use Rattle.word_rows.specs.Slots.{Stands, next_of, next_with}
use Rattle.word_rows.proofs.NextRows.{is_it, is_first_at}

none_kept : {X : Type 0} (p : X → Bool) (xs : List X) → list_any p xs ≡ false → filter p xs ≡ []
none_kept p [] none = refl
none_kept p (x ∷ xs) none =
    let both = or_parts (p x) (list_any p xs) none in
    ap (λ b. cond b (x ∷ filter p xs) (filter p xs)) both.0 ∙ none_kept p xs both.1

no_parts : (word : List ℕ) (fields : List FieldTokens) (n : ℕ) → list_any (λ field. list_any (is_word word) field.words) fields ≡ false → parts n (positions_of word) fields ≡ []
no_parts word [] n none = refl
no_parts word (field ∷ fields) n none =
    let both = or_parts (list_any (is_word word) field.words) (list_any (λ field. list_any (is_word word) field.words) fields) none in
    ap (λ tokens. map (λ x. (n, x)) (map (λ (token : TokenWord). token.position) tokens) ++ parts (n + 1) (positions_of word) fields) (none_kept (is_word word) field.words both.0)
    ∙ no_parts word fields (n + 1) both.1

pub no_hits : (word : List ℕ) (row : DocRow) → has_word word row ≡ false → hits_of word row ≡ []
no_hits word row none = no_parts word row.doc.fields 0 none

-- a number that is it
it_is : (row : ℕ) (next : Option ℕ) → is_it row next ≡ true → next ≡ Some row
it_is row None told = absurd (true≢false (sym told))
it_is row (Some n) told = ap Some (eqb-true n row told)

module _ (belongs : Cursor → Type 0) (place : Cursor → CursorPlace) (rows : List DocRow) (row : ℕ) (word : List ℕ) (found : DocRow) (here : slice_get rows row ≡ Some found) where
  pub comes_next : has_word word found ≡ true → next_with word rows row ≡ Some row
  comes_next has = it_is row (next_with word rows row) (is_first_at (has_word word) 0 row row rows found (sym (zero-add row)) here ∙ has)

  pub is_left : (cursor : Option Cursor) → next_of place cursor ≡ next_with word rows row → has_word word found ≡ true → IfSome cursor (λ its. IsSome (next_row (place its)))
  is_left None next has = tt
  is_left (Some cursor) next has = subst IsSome (sym (next ∙ comes_next has)) refl

  opened_some : (cursor : Cursor) → (place cursor).word ≡ word → next_row (place cursor) ≡ Some row → hits_ahead rows (place cursor) ≡ hits_of word found
  opened_some cursor over next =
      ap (λ o. option_map_or (hits_of (place cursor).word) (option_and_then (slice_get rows) o) []) next
      ∙ ap (λ o. option_map_or (hits_of (place cursor).word) o []) here
      ∙ ap (λ w. hits_of w found) over

  opened_there : (cursor : Option Cursor) → Stands belongs place rows row word cursor → next_of place cursor ≡ Some row → option_map_or (λ its. hits_ahead rows (place its)) cursor [] ≡ hits_of word found
  opened_there None stands next = cc
  opened_there (Some cursor) stands next = opened_some cursor stands.over next

  opened_by : (present : Bool) (cursor : Option Cursor) → has_word word found ≡ present → Stands belongs place rows row word cursor → next_of place cursor ≡ next_with word rows row → cond present (option_map_or (λ its. hits_ahead rows (place its)) cursor []) [] ≡ hits_of word found
  opened_by true cursor has stands next = opened_there cursor stands (next ∙ comes_next has)
  opened_by false cursor has stands next = sym (no_hits word found has)

  pub opened_is : (present : Bool) (cursor : Option Cursor) → present ≡ has_word word found → Stands belongs place rows row word cursor → next_of place cursor ≡ next_with word rows row → (if present then option_map_or (λ its. hits_ahead rows (place its)) cursor [] else []) ≡ hits_of word found
  opened_is present cursor has stands next = opened_by present cursor (sym has) stands next

-- the row of a number below the rows' count
pub row_there : (rows : List DocRow) (row : ℕ) → row < length rows → (found : DocRow) × (slice_get rows row ≡ Some found)
row_there [] row within = absurd (omega arith)
row_there (found ∷ rows) row within = (get_or (found ∷ rows) row found, slice_get-get_or (found ∷ rows) row found within)
