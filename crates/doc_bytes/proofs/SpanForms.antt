-- Spans of all fields in a row, and the same by their fields: each is the other, and spans that can be read one after the other are
-- those of fields.
use Rattle.std.proofs.Common.{◌≡◌, ℕ, suc, ◌+◌, ◌<◌, ◌≤◌, Bool, true, false, cond, eqb, List, [], ◌∷◌, ◌++◌, length, map, drop, take, refl, sym, ap, subst, ◌∙◌, ⊎_elim, arith, append_assoc, length-append}
use Rattle.std.specs.List.{flat_map}
use Rattle.std.specs.Int.{w32, to_le_bytes}
use Rattle.std.proofs.lemmas.Bool.{cases_eq}
use Rattle.std.proofs.lemmas.Bool.Decides.{nat_tests}
use Rattle.std.proofs.lemmas.Grind.{flat_map-append}
use Rattle.std.proofs.lemmas.List.{drop_at, length-map, take-append-drop, take_at}
use Rattle.std.proofs.lemmas.List.Concat.{flat_map-cons}
use Rattle.std.proofs.lemmas.List.Folds.{flat_map-map}
use Rattle.std.proofs.lemmas.List.Sums.{prefix_len-le-length, sum_by-cons}
use Rattle.doc_types.specs.declared.tokens.FieldTokens.{FieldTokens}
use Rattle.doc_types.specs.declared.tokens.TokenWord.{TokenWord}
use Rattle.doc_types.specs.declared.tokens.ZoneSpan.{ZoneSpan}
use Rattle.byte_fields.specs.Fields.{AllFrom}
use Rattle.doc_bytes.specs.Payload.{all_spans_bytes, field_bytes, span_bytes, span_count, spans_bytes}
use Rattle.doc_bytes.specs.Reading.{FieldSpan, later_spans, own_count, own_spans, with_spans}
use Rattle.doc_bytes.proofs.Spans.{counted_bytes, tagged_bytes}
use Rattle.doc_bytes.proofs.Words.{words_bytes}

-- ---- the spans of fields in a row

abbrev pub of_field : ℕ → ZoneSpan → FieldSpan
of_field n span = (n, span)

abbrev pub tagged : ℕ → List FieldTokens → List FieldSpan
tagged n [] = []
tagged n (field ∷ fields) = map (of_field n) field.spans ++ tagged (n + 1) fields

tagged_spelled : (n : ℕ) (fields : List FieldTokens) → spans_bytes n fields ≡ flat_map tagged_bytes (tagged n fields)
tagged_spelled n [] = refl
tagged_spelled n (field ∷ fields) =
    ap (λ (l : List ℕ). flat_map (span_bytes n) field.spans ++ l) (tagged_spelled (n + 1) fields)
    ∙ ap (λ (l : List ℕ). l ++ flat_map tagged_bytes (tagged (n + 1) fields)) (sym (flat_map-map tagged_bytes (of_field n) field.spans))
    ∙ sym (flat_map-append tagged_bytes (map (of_field n) field.spans) (tagged (n + 1) fields))

pub tagged_count : (n : ℕ) (fields : List FieldTokens) → span_count fields ≡ length (tagged n fields)
tagged_count n [] = refl
tagged_count n (field ∷ fields) =
    omega (
      arith,
      sum_by-cons (λ (tokens : FieldTokens). length tokens.spans) field fields,
      length-append (map (of_field n) field.spans) (tagged (n + 1) fields),
      length-map field.spans (of_field n),
      tagged_count (n + 1) fields,
    )

pub spans_spelled : (fields : List FieldTokens) → all_spans_bytes fields ≡ counted_bytes (tagged 0 fields)
spans_spelled fields =
    ap (λ (n : ℕ). to_le_bytes w32 n ++ spans_bytes 0 fields) (tagged_count 0 fields) ∙ ap (λ (l : List ℕ). to_le_bytes w32 (length (tagged 0 fields)) ++ l) (tagged_spelled 0 fields)

-- ---- one more span at the front

count_yes : (n : ℕ) (x : FieldSpan) (xs : List FieldSpan) → x.0 ≡ n → own_count n (x ∷ xs) ≡ suc (own_count n xs)
count_yes n x xs is = ap (λ (b : Bool). cond b (1 + own_count n xs) 0) (same x.0 n is) ∙ next (own_count n xs)
  where
    same : (a b : ℕ) → a ≡ b → eqb a b ≡ true
    same a b is = grind (arith, nat_tests)

    next : (k : ℕ) → 1 + k ≡ suc k
    next k = omega arith

count_no : (n : ℕ) (x : FieldSpan) (xs : List FieldSpan) → (x.0 ≡ n → ⊥) → own_count n (x ∷ xs) ≡ 0
count_no n x xs not = ap (λ (b : Bool). cond b (1 + own_count n xs) 0) (differ x.0 n not)
  where
    differ : (a b : ℕ) → (a ≡ b → ⊥) → eqb a b ≡ false
    differ a b not = grind (arith, nat_tests)

pub own_yes : (n : ℕ) (x : FieldSpan) (xs : List FieldSpan) → x.0 ≡ n → own_spans n (x ∷ xs) ≡ x ∷ own_spans n xs
own_yes n x xs is = ap (λ (m : ℕ). take m (x ∷ xs)) (count_yes n x xs is)

pub own_no : (n : ℕ) (x : FieldSpan) (xs : List FieldSpan) → (x.0 ≡ n → ⊥) → own_spans n (x ∷ xs) ≡ []
own_no n x xs not = ap (λ (m : ℕ). take m (x ∷ xs)) (count_no n x xs not)

pub later_yes : (n : ℕ) (x : FieldSpan) (xs : List FieldSpan) → x.0 ≡ n → later_spans n (x ∷ xs) ≡ later_spans n xs
later_yes n x xs is = ap (λ (m : ℕ). drop m (x ∷ xs)) (count_yes n x xs is)

pub later_no : (n : ℕ) (x : FieldSpan) (xs : List FieldSpan) → (x.0 ≡ n → ⊥) → later_spans n (x ∷ xs) ≡ x ∷ xs
later_no n x xs not = ap (λ (m : ℕ). drop m (x ∷ xs)) (count_no n x xs not)

pub own_within : (n : ℕ) (xs : List FieldSpan) → own_count n xs ≤ length xs
own_within n xs = prefix_len-le-length (λ (span : FieldSpan). eqb span.0 n) xs

-- ---- from fields to a row and back

count_front : (n : ℕ) (spans : List ZoneSpan) (tail : List FieldSpan) → own_count n tail ≡ 0 → own_count n (map (of_field n) spans ++ tail) ≡ length (map (of_field n) spans)
count_front n [] tail none = none
count_front n (span ∷ spans) tail none = count_yes n (n, span) (map (of_field n) spans ++ tail) refl ∙ ap suc (count_front n spans tail none)

none_in : (n m : ℕ) (spans : List ZoneSpan) (tail : List FieldSpan) → n < m → own_count n tail ≡ 0 → own_count n (map (of_field m) spans ++ tail) ≡ 0
none_in n m [] tail low none = none
none_in n m (span ∷ spans) tail low none = count_no n (m, span) (map (of_field m) spans ++ tail) (λ is. absurd (omega (arith, is, low)))

none_before : (n m : ℕ) (fields : List FieldTokens) → n < m → own_count n (tagged m fields) ≡ 0
none_before n m [] low = refl
none_before n m (field ∷ fields) low = none_in n m field.spans (tagged (m + 1) fields) low (none_before n (m + 1) fields (omega (arith, low)))

untagged : (n : ℕ) (spans : List ZoneSpan) → map (λ (span : FieldSpan). span.1) (map (of_field n) spans) ≡ spans
untagged n [] = refl
untagged n (span ∷ spans) = ap (λ (l : List ZoneSpan). span ∷ l) (untagged n spans)

abbrev pub only_words : List FieldTokens → List (List TokenWord)
only_words fields = map (λ (field : FieldTokens). field.words) fields

pub as_were : (n : ℕ) (fields : List FieldTokens) → with_spans n (only_words fields) (tagged n fields) ≡ fields
as_were n [] = refl
as_were n (field ∷ fields) =
    let tail = tagged (n + 1) fields in
    let count : own_count n (map (of_field n) field.spans ++ tail) ≡ length (map (of_field n) field.spans) = count_front n field.spans tail (none_before n (n + 1) fields (omega arith)) in
    let own : own_spans n (map (of_field n) field.spans ++ tail) ≡ map (of_field n) field.spans =
    ap (λ (m : ℕ). take m (map (of_field n) field.spans ++ tail)) count ∙ take_at (map (of_field n) field.spans) tail (length (map (of_field n) field.spans)) refl in
    let later : later_spans n (map (of_field n) field.spans ++ tail) ≡ tail =
    ap (λ (m : ℕ). drop m (map (of_field n) field.spans ++ tail)) count ∙ drop_at (map (of_field n) field.spans) tail (length (map (of_field n) field.spans)) refl in
    rw (own, later, untagged n field.spans, as_were (n + 1) fields) refl

-- spans from a field on, all of fields before a limit
abbrev pub Between : ℕ → ℕ → List FieldSpan → Type 0
Between limit n xs = AllFrom (λ (m : ℕ) (x : FieldSpan). (m ≤ x.0) × (x.0 < limit)) (λ x. x.0) n xs

between_later : (limit n : ℕ) (xs : List FieldSpan) → Between limit n xs → Between limit (n + 1) (later_spans n xs)
between_later limit n [] all = tt
between_later limit n (x ∷ xs) all =
    ⊎_elim
    (λ is. rw (later_yes n x xs is) (between_later limit n xs (subst (λ (m : ℕ). Between limit m xs) is all.1)))
    (λ not. rw (later_no n x xs not) ((at_least x.0 n all.0.0 not, all.0.1), all.1))
    (cases_eq x.0 n)
  where
    at_least : (a b : ℕ) → b ≤ a → (a ≡ b → ⊥) → b + 1 ≤ a
    at_least a b low not = grind (arith, low, not)

retagged : (n : ℕ) (xs : List FieldSpan) → map (of_field n) (map (λ (span : FieldSpan). span.1) (own_spans n xs)) ≡ own_spans n xs
retagged n [] = refl
retagged n (x ∷ xs) =
    ⊎_elim
    (λ is. rw (own_yes n x xs is, retagged n xs) (ap (λ (m : ℕ). (m, x.1) ∷ own_spans n xs) (sym is)))
    (λ not. rw (own_no n x xs not) refl)
    (cases_eq x.0 n)

pub in_a_row : (n : ℕ) (words : List (List TokenWord)) (xs : List FieldSpan) → Between (n + length words) n xs → tagged n (with_spans n words xs) ≡ xs
in_a_row n [] [] all = refl
in_a_row n [] (x ∷ xs) all = absurd (omega (arith, all.0.0, all.0.1))
in_a_row n (first ∷ words) xs all =
    let size : n + length (first ∷ words) ≡ (n + 1) + length words = omega arith in
    let rest = in_a_row (n + 1) words (later_spans n xs) (subst (λ (limit : ℕ). Between limit (n + 1) (later_spans n xs)) size (between_later (n + length (first ∷ words)) n xs all)) in
    rw (retagged n xs, rest) (take-append-drop (own_count n xs) xs)

pub words_spelled : (n : ℕ) (words : List (List TokenWord)) (xs : List FieldSpan) → flat_map field_bytes (with_spans n words xs) ≡ flat_map words_bytes words
words_spelled n [] xs = refl
words_spelled n (first ∷ words) xs =
    flat_map-cons field_bytes (record { words = first; spans = map (λ (span : FieldSpan). span.1) (own_spans n xs) }) (with_spans (n + 1) words (later_spans n xs))
    ∙ ap (λ (l : List ℕ). words_bytes first ++ l) (words_spelled (n + 1) words (later_spans n xs))
    ∙ sym (flat_map-cons words_bytes first words)

pub only_words_spelled : (fields : List FieldTokens) → flat_map field_bytes fields ≡ flat_map words_bytes (only_words fields)
only_words_spelled fields = sym (flat_map-map words_bytes (λ (field : FieldTokens). field.words) fields)

pub as_many : (n : ℕ) (words : List (List TokenWord)) (xs : List FieldSpan) → length (with_spans n words xs) ≡ length words
as_many n [] xs = refl
as_many n (first ∷ words) xs = ap suc (as_many (n + 1) words (later_spans n xs))

-- one field more
pub one_field_more : (made : List FieldTokens) (words : List TokenWord) (others : List (List TokenWord)) (xs : List FieldSpan) (own : List ZoneSpan) (later : List FieldSpan) (total : List FieldTokens)
    → own ≡ map (λ (span : FieldSpan). span.1) (own_spans (length made) xs) → later ≡ later_spans (length made) xs → made ++ with_spans (length made) (words ∷ others) xs ≡ total
    → (made ++ record { words = words; spans = own } ∷ []) ++ with_spans (length (made ++ record { words = words; spans = own } ∷ [])) others later ≡ total
one_field_more made words others xs own later total is_own is_later so_far =
    let field : FieldTokens = record { words = words; spans = own } in
    let size : length (made ++ field ∷ []) ≡ length made + 1 = omega (arith, length-append made (field ∷ [])) in
    let rest : with_spans (length (made ++ field ∷ [])) others later ≡ with_spans (length made + 1) others (later_spans (length made) xs) =
    ap (λ (n : ℕ). with_spans n others later) size ∙ ap (with_spans (length made + 1) others) is_later in
    append_assoc made (field ∷ []) (with_spans (length (made ++ field ∷ [])) others later)
    ∙ ap (λ (l : List FieldTokens). made ++ (field ∷ l)) rest
    ∙ ap (λ (spans : List ZoneSpan). made ++ (record { words = words; spans = spans } ∷ with_spans (length made + 1) others (later_spans (length made) xs))) is_own
    ∙ so_far
