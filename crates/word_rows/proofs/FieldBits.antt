-- The bits of the fields in which a word has places, and of those in which a keyword has some.
use Rattle.std.proofs.Common.{◌≡◌, ℕ, ◌+◌, ◌*◌, ◌/◌, ◌%◌, ◌^◌, ◌<◌, ◌≤◌, zero, suc, min, Bool, true, false, cond, bit_and, List, [], ◌∷◌, length, get_or, map, Bor, Option, Some, None, slice_get, inl, inr, refl, sym, ap, ◌∙◌, add-one, arith}
use Rattle.std.specs.Prelude.{◌&&◌, ◌||◌, ◌==◌, not, nat_le, sum_by}
use Rattle.std.specs.List.{filter, list_any, enumerate_from}
use Rattle.std.specs.Option.{option_and_then, option_map_or}
use Rattle.std.specs.Int.{bit_at}
use Rattle.std.proofs.lemmas.Bool.{cases_Bool, false≢true, cases_eq, eq-eqb, ne_eqb, le-leb}
use Rattle.std.proofs.lemmas.Bool.Decides.{nat_tests}
use Rattle.std.proofs.lemmas.List.{length-map}
use Rattle.std.proofs.lemmas.List.Elements.{All-weaker}
use Rattle.std.proofs.lemmas.List.Folds.{list_any-append}
use Rattle.std.proofs.lemmas.List.Sums.{sum_by-cons}
use Rattle.std.proofs.lemmas.Nat.Bits.{bit_at_lowest, bit_at-suc, bit_at-zero, bit_at_and, bit_at-lt}
use Rattle.std.proofs.Math.Nat.{two-pow-succ}
use Rattle.doc_types.specs.declared.cursor.Cursor.{Cursor}
use Rattle.doc_types.specs.declared.documents.DocRow.{DocRow}
use Rattle.doc_types.specs.declared.tokens.FieldTokens.{FieldTokens}
use Rattle.doc_types.specs.declared.tokens.TokenWord.{TokenWord}
use Rattle.doc_types.specs.Chunks.{CursorPlace, fields_ahead, fields_with, has_word, hits_of, is_word, next_row, positions_of}
use Rattle.doc_types.proofs.FieldParts.{parts}
use Rattle.query_tree.specs.declared.key.Key.{Key}
use Rattle.occ_lists.proofs.Members.{any_filter}
use Rattle.word_rows.specs.Fields.{AreFieldsOf, LooksAtFields}
use Rattle.word_rows.specs.Keywords.{allows, has_field, in_zones, is_first, is_last, key_places, present_in}
use Rattle.word_rows.specs.Slots.{Stands, next_of, next_with}
use Rattle.word_rows.proofs.Lists.{filter_alike}
use Rattle.word_rows.proofs.Opening.{comes_next, no_hits}
use Rattle.word_rows.proofs.PlacedRows.{IsHit, IsPlacedRow, are_hits}

-- ---- the bits of the elements of a list that pass a test

module _ {X : Type 0} (p : X → Bool) where
  -- the element of this number is there and passes
  abbrev pub passes_at : List X → ℕ → Bool
  passes_at [] n = false
  passes_at (x ∷ xs) zero = p x
  passes_at (x ∷ xs) (suc n) = passes_at xs n

  abbrev bits_from : ℕ → List X → ℕ
  bits_from n xs = sum_by (λ e. cond (p e.1) (2 ^ e.0) 0) (enumerate_from n xs)

  twice : (b : Bool) (n : ℕ) → cond b (2 ^ (n + 1)) 0 ≡ 2 * cond b (2 ^ n) 0
  twice true n = rw (add-one n) (omega (arith, two-pow-succ n))
  twice false n = omega arith

  -- the bits one place further
  bits_further : (n : ℕ) (xs : List X) → bits_from (n + 1) xs ≡ 2 * bits_from n xs
  bits_further n [] = omega arith
  bits_further n (x ∷ xs) =
      omega (
        arith,
        sum_by-cons (λ (e : ℕ × X). cond (p e.1) (2 ^ e.0) 0) (n + 1, x) (enumerate_from (n + 1 + 1) xs),
        sum_by-cons (λ (e : ℕ × X). cond (p e.1) (2 ^ e.0) 0) (n, x) (enumerate_from (n + 1) xs),
        twice (p x) n,
        bits_further (n + 1) xs,
      )

  bits_step : (x : X) (xs : List X) → bits_from 0 (x ∷ xs) ≡ cond (p x) 1 0 + 2 * bits_from 0 xs
  bits_step x xs = omega (arith, sum_by-cons (λ (e : ℕ × X). cond (p e.1) (2 ^ e.0) 0) (0, x) (enumerate_from 1 xs), bits_further 0 xs)

  lowest : (b : Bool) (n m : ℕ) → n ≡ cond b 1 0 + 2 * m → (n % 2 == 1) ≡ b
  lowest true n m is = eq-eqb (n % 2) 1 (omega (arith, is))
  lowest false n m is = ne_eqb (n % 2) 1 (λ e. absurd (omega (arith, is, e)))

  half : (b : Bool) (n m : ℕ) → n ≡ cond b 1 0 + 2 * m → n / 2 ≡ m
  half true n m is = omega (arith, is)
  half false n m is = omega (arith, is)

  pub bits_are : (xs : List X) (n : ℕ) → has_field (bits_from 0 xs) n ≡ passes_at xs n
  bits_are [] n = ap (λ b. b == 1) (bit_at-zero n)
  bits_are (x ∷ xs) zero = ap (λ b. b == 1) (bit_at_lowest (bits_from 0 (x ∷ xs))) ∙ lowest (p x) (bits_from 0 (x ∷ xs)) (bits_from 0 xs) (bits_step x xs)
  bits_are (x ∷ xs) (suc n) =
      ap (λ b. b == 1) (bit_at-suc (bits_from 0 (x ∷ xs)) n)
      ∙ (ap (λ m. has_field m n) (half (p x) (bits_from 0 (x ∷ xs)) (bits_from 0 xs) (bits_step x xs)) ∙ bits_are xs n)

-- ---- the fields of a word's places

module _ (word : List ℕ) where
  kept : (n field : ℕ) (b : Bool) (token : TokenWord) (tokens : List TokenWord)
      → list_any (λ place. place.0 == field) (map (λ (x : ℕ). let place : ℕ × ℕ = (n, x) in place) (map (λ (t : TokenWord). t.position) (cond b (token ∷ tokens) tokens)))
      ≡ ((b && (n == field)) || list_any (λ place. place.0 == field) (map (λ (x : ℕ). let place : ℕ × ℕ = (n, x) in place) (map (λ (t : TokenWord). t.position) tokens)))
  kept n field true token tokens = refl
  kept n field false token tokens = refl

  either : (b c d : Bool) → ((b && c) || (c && d)) ≡ (c && (b || d))
  either true true d = refl
  either true false d = refl
  either false true d = refl
  either false false d = refl

  never : (b : Bool) → false ≡ (b && false)
  never true = refl
  never false = refl

  own_places : (n field : ℕ) (tokens : List TokenWord)
      → list_any (λ place. place.0 == field) (map (λ (x : ℕ). let place : ℕ × ℕ = (n, x) in place) (map (λ (t : TokenWord). t.position) (filter (is_word word) tokens)))
      ≡ ((n == field) && list_any (is_word word) tokens)
  own_places n field [] = never (n == field)
  own_places n field (token ∷ tokens) =
      kept n field (is_word word token) token (filter (is_word word) tokens)
      ∙ (ap (λ b. (is_word word token && (n == field)) || b) (own_places n field tokens) ∙ either (is_word word token) (n == field) (list_any (is_word word) tokens))

  one_more : (n field : ℕ) (tokens : FieldTokens) (fields : List FieldTokens)
      → list_any (λ place. place.0 == field) (parts n (positions_of word) (tokens ∷ fields))
      ≡ (((n == field) && list_any (is_word word) tokens.words) || list_any (λ place. place.0 == field) (parts (n + 1) (positions_of word) fields))
  one_more n field tokens fields =
      list_any-append (λ (place : ℕ × ℕ). place.0 == field) (map (λ x. (n, x)) (positions_of word tokens)) (parts (n + 1) (positions_of word) fields)
      ∙ ap (λ b. b || list_any (λ place. place.0 == field) (parts (n + 1) (positions_of word) fields)) (own_places n field tokens.words)

  none_before : (n field : ℕ) (fields : List FieldTokens) → field < n → list_any (λ place. place.0 == field) (parts n (positions_of word) fields) ≡ false
  none_before n field [] low = refl
  none_before n field (tokens ∷ fields) low =
      one_more n field tokens fields
      ∙ (ap (λ b. (b && list_any (is_word word) tokens.words) || list_any (λ place. place.0 == field) (parts (n + 1) (positions_of word) fields)) (ne_eqb n field (λ e. absurd (omega (arith, low, e))))
      ∙ none_before (n + 1) field fields (omega (arith, low)))

  no_more : (b : Bool) → (b || false) ≡ b
  no_more true = refl
  no_more false = refl

  places_at : (n k field : ℕ) (fields : List FieldTokens) → field ≡ n + k → list_any (λ place. place.0 == field) (parts n (positions_of word) fields) ≡ passes_at (λ (tokens : FieldTokens). list_any (is_word word) tokens.words) fields k
  places_at n k field [] e = refl
  places_at n zero field (tokens ∷ fields) e =
      one_more n field tokens fields
      ∙ (ap (λ b. (b && list_any (is_word word) tokens.words) || list_any (λ place. place.0 == field) (parts (n + 1) (positions_of word) fields)) (eq-eqb n field (omega (arith, e)))
      ∙ (ap (λ b. list_any (is_word word) tokens.words || b) (none_before (n + 1) field fields (omega (arith, e))) ∙ no_more (list_any (is_word word) tokens.words)))
  places_at n (suc k) field (tokens ∷ fields) e =
      one_more n field tokens fields
      ∙ (ap (λ b. (b && list_any (is_word word) tokens.words) || list_any (λ place. place.0 == field) (parts (n + 1) (positions_of word) fields)) (ne_eqb n field (λ f. absurd (omega (arith, e, f))))
      ∙ places_at (n + 1) k field fields (omega (arith, e)))

  pub word_fields : (row : DocRow) → AreFieldsOf (fields_with word row) (hits_of word row)
  word_fields row field = bits_are (λ (tokens : FieldTokens). list_any (is_word word) tokens.words) row.doc.fields field ∙ sym (places_at 0 field field row.doc.fields (omega arith))

-- ---- those that a keyword is allowed

both_bits : (a b : ℕ) → a < 2 → b < 2 → (min a b == 1) ≡ ((a == 1) && (b == 1))
both_bits a b low few = grind (arith, nat_tests)

bits_both : (a b field : ℕ) → has_field (bit_and a b) field ≡ (has_field a field && has_field b field)
bits_both a b field = ap (λ n. n == 1) (bit_at_and a b field) ∙ both_bits (bit_at a field) (bit_at b field) (bit_at-lt a field) (bit_at-lt b field)

turned : (a b : Bool) → (a && b) ≡ (b && a)
turned true true = refl
turned true false = refl
turned false true = refl
turned false false = refl

spread : (a b c : Bool) → ((a && b) || (a && c)) ≡ (a && (b || c))
spread true b c = refl
spread false b c = refl

allowed_here : (mask field at : ℕ) → (has_field mask at && (at == field)) ≡ (has_field mask field && (at == field))
allowed_here mask field at =
    elim (cases_eq at field) [
      | inl same ↦ ap (λ n. has_field mask n && (at == field)) same
      | inr other ↦
          ap (λ b. has_field mask at && b) (ne_eqb at field other)
          ∙ (turned (has_field mask at) false ∙ (turned false (has_field mask field) ∙ ap (λ b. has_field mask field && b) (sym (ne_eqb at field other))))
    ]

any_allowed : (mask field : ℕ) (places : List (ℕ × ℕ)) → list_any (λ place. has_field mask place.0 && (place.0 == field)) places ≡ (has_field mask field && list_any (λ place. place.0 == field) places)
any_allowed mask field [] = turned false (has_field mask field)
any_allowed mask field (place ∷ places) =
    ap (λ b. b || list_any (λ place. has_field mask place.0 && (place.0 == field)) places) (allowed_here mask field place.0)
    ∙ (ap (λ b. (has_field mask field && (place.0 == field)) || b) (any_allowed mask field places)
    ∙ spread (has_field mask field) (place.0 == field) (list_any (λ place. place.0 == field) places))

module _ (row : DocRow) (key : Key) (looks : LooksAtFields key) (placed : IsPlacedRow row) where
  alone : (b : Bool) → (b && true) ≡ b
  alone true = refl
  alone false = refl

  allows_by_field : (place : ℕ × ℕ) → IsHit row place → allows row key place ≡ has_field key.limit.fields place.0
  allows_by_field place hit =
      let position : nat_le place.1 key.limit.positions ≡ true = le-leb place.1 key.limit.positions (omega (arith, hit.high, looks.positions)) in
      let zones : in_zones row key.limit.zones place ≡ true = ap (λ zones. in_zones row zones place) looks.zones in
      let first : (not key.start || is_first row place) ≡ true = ap (λ b. not b || is_first row place) looks.start in
      let last : (not key.end || is_last row place) ≡ true = ap (λ b. not b || is_last row place) looks.end in
      rw (position, zones, first, last) (alone (has_field key.limit.fields place.0))

  kept_by_field : key_places row key ≡ filter (λ place. has_field key.limit.fields place.0) (hits_of key.word row)
  kept_by_field =
      filter_alike (allows row key) (λ place. has_field key.limit.fields place.0) (hits_of key.word row)
      (All-weaker (IsHit row) (λ place. allows row key place ≡ has_field key.limit.fields place.0) allows_by_field (hits_of key.word row) (are_hits key.word row placed))

  pub key_fields : AreFieldsOf (bit_and (fields_with key.word row) key.limit.fields) (key_places row key)
  key_fields field =
      bits_both (fields_with key.word row) key.limit.fields field
      ∙ (ap (λ b. b && has_field key.limit.fields field) (word_fields key.word row field)
      ∙ (turned (list_any (λ place. place.0 == field) (hits_of key.word row)) (has_field key.limit.fields field)
      ∙ (sym (any_allowed key.limit.fields field (hits_of key.word row))
      ∙ (sym (any_filter (λ (place : ℕ × ℕ). place.0 == field) (λ place. has_field key.limit.fields place.0) (hits_of key.word row))
      ∙ ap (list_any (λ place. place.0 == field)) (sym kept_by_field)))))

-- ---- by the cursor of the word

pub absent_fields : (row : DocRow) (key : Key) → has_word key.word row ≡ false → AreFieldsOf 0 (key_places row key)
absent_fields row key none field =
    ap (λ b. b == 1) (bit_at-zero field) ∙ sym (ap (λ hits. list_any (λ place. place.0 == field) (filter (allows row key) hits)) (no_hits key.word row none))

module _ (belongs : Cursor → Type 0) (place : Cursor → CursorPlace) (rows : List DocRow) (row : ℕ) (word : List ℕ) (found : DocRow) (here : slice_get rows row ≡ Some found) (cursor : Cursor) where
  fields_of_next : (place cursor).word ≡ word → next_row (place cursor) ≡ Some row → fields_ahead rows (place cursor) ≡ fields_with word found
  fields_of_next over next =
      ap (λ o. option_map_or (fields_with (place cursor).word) (option_and_then (slice_get rows) o) 0) next
      ∙ (ap (λ o. option_map_or (fields_with (place cursor).word) o 0) here ∙ ap (λ w. fields_with w found) over)

  pub fields_there : Stands belongs place rows row word (Some cursor) → next_of place (Some cursor) ≡ next_with word rows row → has_word word found ≡ true → fields_ahead rows (place cursor) ≡ fields_with word found
  fields_there stands next has = fields_of_next stands.over (next ∙ comes_next belongs place rows row word found here has)

-- where no row has the word, this one hasn't
none_stands : (place : Cursor → CursorPlace) (rows : List DocRow) (row : ℕ) (word : List ℕ) (found : DocRow) → slice_get rows row ≡ Some found → None ≡ next_with word rows row → has_word word found ≡ false
none_stands place rows row word found here next =
    elim (cases_Bool (has_word word found)) [
      | inl has ↦ absurd (let come = comes_next (λ (c : Cursor). Unit {0}) place rows row word found here has in let clash : None ≡ Some row = next ∙ come in cc)
      | inr not ↦ not
    ]

pub absent_there : (place : Cursor → CursorPlace) (rows : List DocRow) (row : ℕ) (word : List ℕ) (found : DocRow) → slice_get rows row ≡ Some found → (cursor : Option Cursor) → cursor ≡ None → next_of place cursor ≡ next_with word rows row → has_word word found ≡ false
absent_there place rows row word found here None is next = none_stands place rows row word found here next
absent_there place rows row word found here (Some cursor) is next = cc

-- ---- a number without bits

no_bit : (n : ℕ) → ((field : ℕ) → has_field n field ≡ false) → (size : ℕ) → n ≤ size → n ≡ 0
no_bit n none zero small = omega (arith, small)
no_bit n none (suc size) small =
    let odd : (n % 2 == 1) ≡ false = sym (ap (λ b. b == 1) (bit_at_lowest n)) ∙ none 0 in
    let rest : n / 2 ≡ 0 =
    elim (cases_eq n 0) [
      | inl is ↦ omega (arith, is)
      | inr some ↦ no_bit (n / 2) (λ field. sym (ap (λ b. b == 1) (bit_at-suc n field)) ∙ none (suc field)) size (omega (arith, small, some))
    ] in
    elim (cases_eq (n % 2) 1) [
      | inl one ↦ absurd (let is = eq-eqb (n % 2) 1 one in cc)
      | inr even ↦ omega (arith, rest, even)
    ]

first_there : (places : List (ℕ × ℕ)) → ((field : ℕ) → list_any (λ place. place.0 == field) places ≡ false) → places ≡ []
first_there [] none = refl
first_there (place ∷ places) none = absurd (let it = none place.0 in let is = eq-eqb place.0 place.0 refl in let yes : (true || list_any (λ other. other.0 == place.0) places) ≡ false = ap (λ b. b || list_any (λ other. other.0 == place.0) places) (sym is) ∙ it in cc)

-- without a field there is no place, and the other way round
pub no_place : (places : List (ℕ × ℕ)) → AreFieldsOf 0 places → places ≡ []
no_place places are = first_there places (λ field. sym (are field) ∙ ap (λ b. b == 1) (bit_at-zero field))

pub no_field : (fields : ℕ) → AreFieldsOf fields [] → fields ≡ 0
no_field fields are = no_bit fields are fields (omega arith)

-- ---- the first of some keywords

module _ (found : DocRow) where
  -- its word counts among those that the row has
  pub first_counts : (keys : List (Bor Key)) (key : Bor Key) (present : Bool) (start steps : ℕ) → 0 < length keys → key ≡ get_or keys 0 key → present ≡ has_word key.now.word found → steps ≤ start + cond present 1 0
      → steps ≤ start + present_in found (map (λ (k : Bor Key). k.now) keys)
  first_counts [] key present start steps some is seen count = absurd (omega arith)
  first_counts (k ∷ keys) key present start steps some is seen count =
      let own : cond present 1 0 ≡ cond (has_word k.now.word found) 1 0 = ap {B = ℕ} (λ b. cond b 1 0) (seen ∙ ap (λ (x : Bor Key). has_word x.now.word found) is) in
      omega (arith, count, own, sum_by-cons (λ (x : Key). cond (has_word x.word found) 1 0) k.now (map (λ (x : Bor Key). x.now) keys))

-- it is the only one
pub only_key : (keys : List (Bor Key)) (first : Bor Key) (key : Key) → 0 < length keys → first ≡ get_or keys 0 first → map (λ (k : Bor Key). k.now) keys ≡ key ∷ [] → first.now ≡ key
only_key [] first key some is only = absurd (omega arith)
only_key (k ∷ keys) first key some is only = ap (λ (x : Bor Key). x.now) is ∙ ap (λ ks. get_or ks 0 key) only

-- there is none
pub no_key : (keys : List (Bor Key)) (key : Key) → length keys ≡ 0 → map (λ (k : Bor Key). k.now) keys ≡ key ∷ [] → ⊥
no_key keys key none only = let long = ap length only in omega (arith, none, long, length-map keys (λ (k : Bor Key). k.now))

-- what isn't empty has a first element
pub some_there : (long : ℕ) (empty : Bool) → empty ≡ (long == 0) → empty ≡ false → 0 < long
some_there long empty is some =
    elim (cases_eq long 0) [
      | inl none ↦ absurd (false≢true (sym some ∙ (is ∙ eq-eqb long 0 none)))
      | inr above ↦ omega (arith, above)
    ]
