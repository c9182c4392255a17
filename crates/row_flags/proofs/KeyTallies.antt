-- What is told of a row after its keywords were looked for.
use Rattle.std.proofs.Common.{◌≡◌, ℕ, ◌+◌, ◌^◌, ◌-◌, ◌<◌, ◌≤◌, zero, suc, min, max, Bool, true, false, cond, ◌&&◌, ◌||◌, bit_and, bit_or, List, [], ◌∷◌, Some, length, get_or, slice_get, inl, inr, refl, sym, ap, ◌∙◌, arith, true≢false}
use Rattle.std.specs.Prelude.{◌==◌, Contains}
use Rattle.std.specs.Int.{bit_at}
use Rattle.std.specs.List.{filter, list_any}
use Rattle.std.proofs.lemmas.Bool.{cases_eq, eq-eqb, ne_eqb}
use Rattle.std.proofs.lemmas.Bool.Decides.{nat_tests}
use Rattle.std.proofs.lemmas.List.Elements.{All-contains, All-filter, filter_passes}
use Rattle.std.proofs.lemmas.List.Sums.{sum_by-cons}
use Rattle.std.proofs.lemmas.Nat.Bits.{bit_at-lt, bit_at_and, bit_at_or, bit_at_ones}
use Rattle.doc_types.specs.declared.documents.DocRow.{DocRow}
use Rattle.doc_types.specs.Chunks.{CursorPlace, fields_ahead, fields_with, has_word, hits_of, next_row, rows_with}
use Rattle.query_tree.specs.declared.key.Key.{Key}
use Rattle.row_plans.proofs.Seeking.{is_in}
use Rattle.word_rows.specs.Keywords.{allows, has_field, key_places, present_in}
use Rattle.word_rows.proofs.FieldBits.{word_fields}
use Rattle.word_rows.proofs.Opening.{no_hits}
use Rattle.row_flags.specs.declared.windows.Told.{Told}
use Rattle.row_flags.specs.steps.Tallies.{fields_for, tally, tally_all, with_word}
use Rattle.row_flags.proofs.Places.{next_fields}
use Rattle.row_flags.proofs.RowsAhead.{all_ahead}

-- ---- one keyword

-- the row is among those that have the word
pub is_with : (rows : List DocRow) (word : List ℕ) (number : ℕ) (row : DocRow) → slice_get rows number ≡ Some row → is_in number (rows_with word rows) ≡ has_word word row
is_with rows word number row at = (all_ahead rows word).all number row (omega arith) at

module _ (row : DocRow) (key : Key) (told after : Told) where
  pub tallied_word : (by_fields : Bool) → by_fields ≡ false → after ≡ cond (has_word key.word row) (with_word 0 told) told → after ≡ tally by_fields row told key
  tallied_word by_fields none is = is ∙ sym (ap (λ b. tally b row told key) none)

  pub tallied_fields : (by_fields : Bool) → by_fields ≡ true → after ≡ tally true row told key → after ≡ tally by_fields row told key
  tallied_fields by_fields all is = is ∙ sym (ap (λ b. tally b row told key) all)

  pub tallied_none : (by_fields : Bool) → has_word key.word row ≡ false → after ≡ told → after ≡ tally by_fields row told key
  tallied_none by_fields none is = is ∙ sym (ap (λ b. cond b (with_word (fields_for by_fields key row) told) told) none)

-- the fields that the chunk tells of the next row of a cursor are those of that row
pub next_tally : (rows : List DocRow) (place : CursorPlace) (row number bits : ℕ) (key : Key) (its : DocRow) (told : Told) → place.word ≡ key.word → next_row place ≡ Some row → slice_get rows number ≡ Some its → bits ≡ fields_ahead rows place
    → cond (row == number) (with_word (bit_and bits key.limit.fields) told) told ≡ cond (row == number) (with_word (fields_for true key its) told) told
next_tally rows place row number bits key its told over next at is =
    elim (cases_eq row number) [
      | inl same ↦
          let here : slice_get rows row ≡ Some its = ap (slice_get rows) same ∙ at in
          ap (λ fields. cond (row == number) (with_word (bit_and fields key.limit.fields) told) told) (is ∙ next_fields rows place row key.word its over next here)
      | inr differ ↦
          ap (λ b. cond b (with_word (bit_and bits key.limit.fields) told) told) (ne_eqb row number differ)
          ∙ sym (ap (λ b. cond b (with_word (fields_for true key its) told) told) (ne_eqb row number differ))
    ]

-- ---- bits of fields

either_bit : (a b : ℕ) → a < 2 → b < 2 → (max a b == 1) ≡ ((a == 1) || (b == 1))
either_bit a b low few = grind (arith, nat_tests)

both_bits : (a b : ℕ) → a < 2 → b < 2 → (min a b == 1) ≡ ((a == 1) && (b == 1))
both_bits a b low few = grind (arith, nat_tests)

pub bits_either : (a b field : ℕ) → has_field (bit_or a b) field ≡ (has_field a field || has_field b field)
bits_either a b field = ap (λ n. n == 1) (bit_at_or a b field) ∙ either_bit (bit_at a field) (bit_at b field) (bit_at-lt a field) (bit_at-lt b field)

bits_both : (a b field : ℕ) → has_field (bit_and a b) field ≡ (has_field a field && has_field b field)
bits_both a b field = ap (λ n. n == 1) (bit_at_and a b field) ∙ both_bits (bit_at a field) (bit_at b field) (bit_at-lt a field) (bit_at-lt b field)

pub all_bits : (field : ℕ) → field < 32 → has_field 4294967295 field ≡ true
all_bits field low = eq-eqb (bit_at (2 ^ 32 - 1) field) 1 (bit_at_ones 32 field low)

or_left : (a b : Bool) → a ≡ true → (a || b) ≡ true
or_left true b is = refl
or_left false b is = absurd (true≢false (sym is))

or_right : (a b : Bool) → b ≡ true → (a || b) ≡ true
or_right true b is = refl
or_right false b is = is

and_both : (a b : Bool) → a ≡ true → b ≡ true → (a && b) ≡ true
and_both true b one other = other
and_both false b one other = absurd (true≢false (sym one))

-- ---- a place of a keyword lies in a field of its word

there : (field : ℕ) (places : List (ℕ × ℕ)) (k : ℕ) (d : ℕ × ℕ) → k < length places → (get_or places k d).0 ≡ field → list_any (λ place. place.0 == field) places ≡ true
there field [] k d within is = absurd (omega arith)
there field (place ∷ places) zero d within is = or_left (place.0 == field) (list_any (λ other. other.0 == field) places) (eq-eqb place.0 field is)
there field (place ∷ places) (suc k) d within is = or_right (place.0 == field) (list_any (λ other. other.0 == field) places) (there field places k d (omega (arith, within)) is)

first_allowed : (a b : Bool) → (a && b) ≡ true → a ≡ true
first_allowed true b is = refl
first_allowed false b is = is

module _ (row : DocRow) (key : Key) (place : ℕ × ℕ) (stands : Contains (key_places row key) place) where
  stands_in : has_field (fields_with key.word row) place.0 ≡ true
  stands_in =
      word_fields key.word row place.0
      ∙ All-contains (λ (p : ℕ × ℕ). list_any (λ other. other.0 == p.0) (hits_of key.word row) ≡ true) (key_places row key) place
      (All-filter (allows row key) (λ (p : ℕ × ℕ). list_any (λ other. other.0 == p.0) (hits_of key.word row) ≡ true) (hits_of key.word row)
      (λ k d within. there (get_or (hits_of key.word row) k d).0 (hits_of key.word row) k d within refl)) stands

  may_stand : has_field key.limit.fields place.0 ≡ true
  may_stand =
      All-contains (λ (p : ℕ × ℕ). has_field key.limit.fields p.0 ≡ true) (key_places row key) place
      (λ k d within. first_allowed (has_field key.limit.fields (get_or (key_places row key) k d).0) _ (filter_passes (allows row key) (hits_of key.word row) k d within)) stands

  pub place_bit : has_field (fields_for true key row) place.0 ≡ true
  place_bit = bits_both (fields_with key.word row) key.limit.fields place.0 ∙ and_both (has_field (fields_with key.word row) place.0) (has_field key.limit.fields place.0) stands_in may_stand

  pub place_word : has_word key.word row ≡ true
  place_word = by (has_word key.word row) refl
    where
      by : (b : Bool) → has_word key.word row ≡ b → b ≡ true
      by true is = refl
      by false is =
          absurd (let none : key_places row key ≡ [] = ap (filter (allows row key)) (no_hits key.word row is) in
          let some : stands.0 < length (key_places row key) = stands.1 in
          omega (arith, some, ap length none))

-- ---- all keywords

module _ (by_fields : Bool) (row : DocRow) where
  step_found : (b : Bool) (fields : ℕ) (told : Told) → (cond b (with_word fields told) told).found ≡ told.found
  step_found true fields told = refl
  step_found false fields told = refl

  pub all_found : (keys : List Key) (told : Told) → (tally_all by_fields row keys told).found ≡ told.found
  all_found [] told = refl
  all_found (key ∷ keys) told = all_found keys (tally by_fields row told key) ∙ step_found (has_word key.word row) (fields_for by_fields key row) told

  step_words : (b : Bool) (fields : ℕ) (told : Told) → told.words ≤ 65535 → (cond b (with_word fields told) told).words ≡ min (told.words + cond b 1 0) 65535
  step_words true fields told few = refl
  step_words false fields told few = omega (arith, few)

  pub all_words : (keys : List Key) (told : Told) → told.words ≤ 65535 → (tally_all by_fields row keys told).words ≡ min (told.words + present_in row keys) 65535
  all_words [] told few = omega (arith, few)
  all_words (key ∷ keys) told few =
      let one = step_words (has_word key.word row) (fields_for by_fields key row) told few in
      omega (
        arith,
        one,
        all_words keys (tally by_fields row told key) (omega (arith, one)),
        sum_by-cons (λ (k : Key). cond (has_word k.word row) 1 0) key keys,
      )

  step_kept : (b : Bool) (fields field : ℕ) (told : Told) → has_field told.fields field ≡ true → has_field (cond b (with_word fields told) told).fields field ≡ true
  step_kept true fields field told is = bits_either told.fields fields field ∙ or_left (has_field told.fields field) (has_field fields field) is
  step_kept false fields field told is = is

  -- a field that is told stays so
  pub all_kept : (keys : List Key) (field : ℕ) (told : Told) → has_field told.fields field ≡ true → has_field (tally_all by_fields row keys told).fields field ≡ true
  all_kept [] field told is = is
  all_kept (key ∷ keys) field told is = all_kept keys field (tally by_fields row told key) (step_kept (has_word key.word row) (fields_for by_fields key row) field told is)

-- a field of one of the keywords is told
pub field_told : (row : DocRow) (keys : List Key) (field k : ℕ) (key : Key) (told : Told) → k < length keys → get_or keys k key ≡ key → has_word key.word row ≡ true → has_field (fields_for true key row) field ≡ true → has_field (tally_all true row keys told).fields field ≡ true
field_told row [] field k key told within at has is = absurd (omega arith)
field_told row (first ∷ keys) field zero key told within at has is =
    let same : first ≡ key = at in
    all_kept true row keys field (tally true row told first)
    (ap (λ (its : Key). has_field (tally true row told its).fields field) same
    ∙ ap (λ b. has_field (cond b (with_word (fields_for true key row) told) told).fields field) has
    ∙ bits_either told.fields (fields_for true key row) field
    ∙ or_right (has_field told.fields field) (has_field (fields_for true key row) field) is)
field_told row (first ∷ keys) field (suc k) key told within at has is = field_told row keys field k key (tally true row told first) (omega (arith, within)) at has is
