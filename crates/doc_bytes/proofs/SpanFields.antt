-- Spans that can be read one after the other are spans of fields, and the other way round.
use Rattle.std.proofs.Common.{◌≡◌, ℕ, suc, ◌+◌, ◌^◌, ◌<◌, ◌≤◌, All, Bool, true, false, eqb, leb, ltb, ◌&&◌, ◌||◌, List, [], ◌∷◌, ◌++◌, length, map, drop, get_or, Option, None, Some, refl, sym, ap, subst, ◌∙◌, ⊎_elim, arith, length-drop}
use Rattle.std.specs.Prelude.{IsTrue}
use Rattle.std.specs.List.{Any}
use Rattle.std.proofs.lemmas.Bool.{and_parts, cases_eq, cases_lt, eqb-true}
use Rattle.std.proofs.lemmas.Bool.Decides.{nat_tests}
use Rattle.std.proofs.lemmas.List.{drop_more, get_or_default}
use Rattle.std.proofs.Math.ListN.{get_or-eq_default}
use Rattle.std.proofs.lemmas.List.Elements.{All-cons, All-head, All-tail}
use Rattle.std.proofs.lemmas.List.Folds.{Any-from_list_any, list_any-from_Any}
use Rattle.std.proofs.lemmas.List.Kept.{AllPairs-cons}
use Rattle.doc_types.specs.Documents.{Ascend, IsField, IsSpanOver, precedes}
use Rattle.doc_types.specs.declared.tokens.TheConstants.{MAX_POSITION}
use Rattle.doc_types.specs.declared.tokens.FieldTokens.{FieldTokens}
use Rattle.doc_types.specs.declared.tokens.TokenWord.{TokenWord}
use Rattle.doc_types.specs.declared.tokens.ZoneSpan.{ZoneSpan}
use Rattle.byte_fields.specs.Fields.{AllFrom}
use Rattle.doc_bytes.specs.Reading.{FieldSpan, is_behind, is_over, is_taken, later_spans, own_spans, with_spans, words_in}
use Rattle.doc_bytes.proofs.Fitting.{few_words}
use Rattle.doc_bytes.proofs.Spans.{SpanFits}
use Rattle.doc_bytes.proofs.SpanForms.{Between, later_no, later_yes, of_field, only_words, own_no, own_yes, tagged}
use Rattle.doc_bytes.proofs.WordForms.{from_placed, placed_from}
use Rattle.doc_bytes.proofs.Words.{AreWords}

-- ---- tests, and what they say

taken_at : (words : List TokenWord) (position : ℕ) → is_taken words position ≡ true → Any (λ word. word.position ≡ position) words
taken_at words position e =
    let found = Any-from_list_any (λ (word : TokenWord). eqb word.position position) words e in
    (found.0, found.1, found.2, found.3, eqb-true found.1.position position found.4)

at_taken : (words : List TokenWord) (position : ℕ) → Any (λ word. word.position ≡ position) words → is_taken words position ≡ true
at_taken words position found = list_any-from_Any (λ (word : TokenWord). eqb word.position position) words (found.0, found.1, found.2, found.3, same found.1.position position found.4)
  where
    same : (a b : ℕ) → a ≡ b → eqb a b ≡ true
    same a b is = grind (arith, nat_tests)

both : (a b : Bool) → a ≡ true → b ≡ true → (a && b) ≡ true
both a b one two = rw (one, two) refl

is_up_to : (a b : ℕ) → leb a b ≡ true → a ≤ b
is_up_to a b e = grind (arith, nat_tests)

up_to : (a b : ℕ) → a ≤ b → leb a b ≡ true
up_to a b h = grind (arith, nat_tests)

under : (a b : ℕ) → a < b → ltb a b ≡ true
under a b h = grind (arith, nat_tests)

precedes_on : (a b c : ZoneSpan) → precedes a b ≡ true → precedes b c ≡ true → precedes a c ≡ true
precedes_on a b c one two = grind (arith, nat_tests)

-- the span before is of the same field, so it passes the test
same_field : (n m : ℕ) (passes : Bool) → (ltb n m || (eqb n m && passes)) ≡ true → m ≡ n → passes ≡ true
same_field n m true e is = refl
same_field n m false e is = absurd (grind (arith, nat_tests))

in_same_field : (n : ℕ) (passes : Bool) → passes ≡ true → (ltb n n || (eqb n n && passes)) ≡ true
in_same_field n true e = grind (arith, nat_tests)
in_same_field n false e = absurd cc

in_earlier_field : (n m : ℕ) (passes : Bool) → n < m → (ltb n m || (eqb n m && passes)) ≡ true
in_earlier_field n m passes low = rw (under n m low) refl

-- what follows begins at no earlier field than this
abbrev pub UpTo : ℕ → Option FieldSpan → Type 0
UpTo n None = Unit {0}
UpTo n (Some before) = before.0 ≤ n

-- what stands before is of an earlier field
abbrev pub Earlier : ℕ → Option FieldSpan → Type 0
Earlier n None = Unit {0}
Earlier n (Some before) = before.0 < n

earlier_behind : (before : Option FieldSpan) (n : ℕ) (span : ZoneSpan) → Earlier n before → is_behind before (n, span) ≡ true
earlier_behind None n span low = refl
earlier_behind (Some before) n span low = in_earlier_field before.0 n (precedes before.1 span) low

earlier_up_to : (before : Option FieldSpan) (n : ℕ) → Earlier n before → UpTo n before
earlier_up_to None n low = tt
earlier_up_to (Some before) n low = omega (arith, low)

up_to_earlier : (before : Option FieldSpan) (n : ℕ) → UpTo n before → Earlier (n + 1) before
up_to_earlier None n low = tt
up_to_earlier (Some before) n low = omega (arith, low)

-- what is behind the first of what is left
drop_next : {X : Type 0} (n : ℕ) (all : List X) (x : X) (xs : List X) → drop n all ≡ x ∷ xs → (n < length all) × (get_or all n x ≡ x) × (drop (n + 1) all ≡ xs)
drop_next n all x xs e =
    let inside : n < length all = omega (arith, length-drop n all, ap length e) in
    let split : get_or all n x ∷ drop (n + 1) all ≡ x ∷ xs = sym (drop_more all n x inside) ∙ e in
    (inside, cc split, cc split)

-- a span of a field, and its numbers
record IsOwn (all : List (List TokenWord)) (n : ℕ) (span : ZoneSpan) : Type 0 where
  over : IsSpanOver (words_in all n) span
  zone : span.zone < 2 ^ 16
  small : (span.first < 2 ^ 32) × (span.last < 2 ^ 32)

-- ---- from a row to fields

module _ (all : List (List TokenWord)) where
  abbrev pub Row : Option FieldSpan → List FieldSpan → Type 0
  Row before xs = AllFrom (SpanFits all) Some before xs

  is_span : (before : Option FieldSpan) (x : FieldSpan) → SpanFits all before x → IsSpanOver (words_in all x.0) x.1
  is_span before x fits =
      let words = words_in all x.0 in
      let over = and_parts (is_over words x.1) (is_behind before x) fits.1 in
      let begins = and_parts (is_taken words x.1.first) (is_taken words x.1.last && leb x.1.first x.1.last) over.0 in
      let ends = and_parts (is_taken words x.1.last) (leb x.1.first x.1.last) begins.1 in
      record { order = is_up_to x.1.first x.1.last ends.1; begins = taken_at words x.1.first begins.0; ends = taken_at words x.1.last ends.0 }

  is_after : (before : Option FieldSpan) (x : FieldSpan) → SpanFits all before x → is_behind before x ≡ true
  is_after before x fits = (and_parts (is_over (words_in all x.0) x.1) (is_behind before x) fits.1).1

  -- its field is one of all
  is_inside : (before : Option FieldSpan) (x : FieldSpan) → SpanFits all before x → x.0 < length all
  is_inside before x fits = ⊎_elim (λ low. low) (λ high. absurd (none high)) (cases_lt x.0 (length all))
    where
      none : length all ≤ x.0 → ⊥
      none high =
          let over = and_parts (is_over (words_in all x.0) x.1) (is_behind before x) fits.1 in
          let begins = and_parts (is_taken (words_in all x.0) x.1.first) (is_taken (words_in all x.0) x.1.last && leb x.1.first x.1.last) over.0 in
          let nothing : false ≡ true = ap (λ (words : List TokenWord). is_taken words x.1.first) (sym (get_or-eq_default all [] high)) ∙ begins.0 in
          cc nothing

  own_over : (n : ℕ) (before : Option FieldSpan) (xs : List FieldSpan) → Row before xs → All (IsSpanOver (words_in all n)) (map (λ (span : FieldSpan). span.1) (own_spans n xs))
  own_over n before [] row = λ i d h. absurd (omega arith)
  own_over n before (x ∷ xs) row =
      ⊎_elim
      (λ is. rw (own_yes n x xs is) (All-cons (IsSpanOver (words_in all n)) x.1 (map (λ (span : FieldSpan). span.1) (own_spans n xs)) (subst (λ (m : ℕ). IsSpanOver (words_in all m) x.1) is (is_span before x row.0)) (own_over n (Some x) xs row.1)))
      (λ not. rw (own_no n x xs not) (λ i d h. absurd (omega arith)))
      (cases_eq x.0 n)

  own_after : (n : ℕ) (first : ZoneSpan) (xs : List FieldSpan) → Row (Some (n, first)) xs → All (λ span. IsTrue (precedes first span)) (map (λ (span : FieldSpan). span.1) (own_spans n xs))
  own_after n first [] row = λ i d h. absurd (omega arith)
  own_after n first (x ∷ xs) row =
      ⊎_elim
      (
      λ is.
      let head : precedes first x.1 ≡ true = same_field n x.0 (precedes first x.1) (is_after (Some (n, first)) x row.0) is in
      let later = own_after n x.1 xs (subst (λ (m : ℕ). Row (Some (m, x.1)) xs) is row.1) in
      rw (own_yes n x xs is) (All-cons (λ (span : ZoneSpan). IsTrue (precedes first span)) x.1 (map (λ (span : FieldSpan). span.1) (own_spans n xs)) head (λ i d h. precedes_on first x.1 _ head (later i d h)))
      )
      (λ not. rw (own_no n x xs not) (λ i d h. absurd (omega arith)))
      (cases_eq x.0 n)

  own_ascend : (n : ℕ) (before : Option FieldSpan) (xs : List FieldSpan) → Row before xs → Ascend (map (λ (span : FieldSpan). span.1) (own_spans n xs))
  own_ascend n before [] row = λ i j d low high. absurd (omega arith)
  own_ascend n before (x ∷ xs) row =
      ⊎_elim
      (λ is. rw (own_yes n x xs is) (AllPairs-cons (λ (a b : ZoneSpan). IsTrue (precedes a b)) x.1 (map (λ (span : FieldSpan). span.1) (own_spans n xs)) (own_after n x.1 xs (subst (λ (m : ℕ). Row (Some (m, x.1)) xs) is row.1)) (own_ascend n (Some x) xs row.1)))
      (λ not. rw (own_no n x xs not) (λ i j d low high. absurd (omega arith)))
      (cases_eq x.0 n)

  later_row : (n : ℕ) (before : Option FieldSpan) (xs : List FieldSpan) → Row before xs → (other : Option FieldSpan) × Row other (later_spans n xs)
  later_row n before [] row = (before, tt)
  later_row n before (x ∷ xs) row =
      ⊎_elim
      (λ is. rw (later_yes n x xs is) (later_row n (Some x) xs row.1))
      (λ not. rw (later_no n x xs not) (before, row))
      (cases_eq x.0 n)

  pub are_fields : (n : ℕ) (words : List (List TokenWord)) (before : Option FieldSpan) (xs : List FieldSpan) → drop n all ≡ words → All AreWords words → Row before xs → All IsField (with_spans n words xs)
  are_fields n [] before xs behind fit row = λ i d h. absurd (omega arith)
  are_fields n (first ∷ words) before xs behind fit row =
      let next = drop_next n all first words behind in
      let is : words_in all n ≡ first = get_or_default all n [] first next.0 ∙ next.1 in
      let placed = placed_from 0 first (All-head AreWords first words fit).1 in
      let rest = later_row n before xs row in
      let field : IsField (record { words = first; spans = map (λ (span : FieldSpan). span.1) (own_spans n xs) }) = record {
        words = placed.each;
        placed = record { begin = placed.begin refl; follow = placed.follow };
        within = placed.within;
        spans = subst (λ (l : List TokenWord). All (IsSpanOver l) (map (λ (span : FieldSpan). span.1) (own_spans n xs))) is (own_over n before xs row);
        ascend = own_ascend n before xs row;
      } in
      All-cons IsField (record { words = first; spans = map (λ (span : FieldSpan). span.1) (own_spans n xs) }) (with_spans (n + 1) words (later_spans n xs)) field
      (are_fields (n + 1) words rest.0 (later_spans n xs) next.2 (All-tail AreWords first words fit) rest.1)

  no_earlier : (before x : FieldSpan) → (ltb before.0 x.0 || (eqb before.0 x.0 && precedes before.1 x.1)) ≡ true → before.0 ≤ x.0
  no_earlier before x e = by before.0 x.0 (precedes before.1 x.1) e
    where
      by : (a b : ℕ) (passes : Bool) → (ltb a b || (eqb a b && passes)) ≡ true → a ≤ b
      by a b true e = grind (arith, nat_tests)
      by a b false e = grind (arith, nat_tests)

  between_after : (before : FieldSpan) (xs : List FieldSpan) → Row (Some before) xs → Between (length all) before.0 xs
  between_after before [] row = tt
  between_after before (x ∷ xs) row = ((no_earlier before x (is_after (Some before) x row.0), is_inside (Some before) x row.0), between_after x xs row.1)

  pub between : (xs : List FieldSpan) → Row None xs → Between (length all) 0 xs
  between [] row = tt
  between (x ∷ xs) row = ((omega arith, is_inside None x row.0), between_after x xs row.1)

  -- ---- from fields to a row

  fits_here : (n : ℕ) (before : Option FieldSpan) (span : ZoneSpan) → n < 2 ^ 16 → is_behind before (n, span) ≡ true → IsOwn all n span → SpanFits all before (n, span)
  fits_here n before span few behind own =
      let words = words_in all n in
      let ends = both (is_taken words span.last) (leb span.first span.last) (at_taken words span.last own.over.ends) (up_to span.first span.last own.over.order) in
      let over = both (is_taken words span.first) (is_taken words span.last && leb span.first span.last) (at_taken words span.first own.over.begins) ends in
      (record { field = few; zone = own.zone; first = own.small.0; last = own.small.1 }, both (is_over words span) (is_behind before (n, span)) over behind)

  front_fits : (n : ℕ) (spans : List ZoneSpan) (tail : List FieldSpan) (before : Option FieldSpan) → n < 2 ^ 16 → UpTo n before
      → All (λ span. is_behind before (n, span) ≡ true) spans → Ascend spans → All (IsOwn all n) spans → ((other : Option FieldSpan) → UpTo n other → Row other tail) → Row before (map (of_field n) spans ++ tail)
  front_fits n [] tail before few order behind ascend own rest = rest before order
  front_fits n (span ∷ spans) tail before few order behind ascend own rest = (
    fits_here n before span few (behind 0 span (omega arith)) (own 0 span (omega arith)),
    front_fits n spans tail (Some (n, span)) few (omega arith)
        (λ i d h. in_same_field n (precedes span (get_or spans i d)) (ascend 0 (suc i) d (omega arith) (omega (arith, h))))
        (λ i j d low high. ascend (suc i) (suc j) d (omega (arith, low)) (omega (arith, high)))
        (λ i d h. own (suc i) d (omega (arith, h)))
        rest,
  )

  small_at : (words : List TokenWord) (position : ℕ) → All (λ word. word.position ≤ MAX_POSITION) words → Any (λ word. word.position ≡ position) words → position < 2 ^ 32
  small_at words position within found =
      let low = within found.0 found.1 found.2 in
      omega (arith, low, ap (λ (word : TokenWord). word.position) found.3, found.4)

  pub fields_fit : (n : ℕ) (fields : List FieldTokens) (before : Option FieldSpan) → drop n all ≡ only_words fields → n + length fields ≤ 2 ^ 16 → All IsField fields → All (λ tokens. All (λ span. span.zone < 2 ^ 16) tokens.spans) fields → Earlier n before
      → Row before (tagged n fields)
  fields_fit n [] before behind few fit zones low = tt
  fields_fit n (field ∷ fields) before behind few fit zones low =
      let next = drop_next n all field.words (only_words fields) behind in
      let is : words_in all n ≡ field.words = get_or_default all n [] field.words next.0 ∙ next.1 in
      let here : IsField field = fit 0 field (omega arith) in
      front_fits n field.spans (tagged (n + 1) fields) before (omega (arith, few)) (earlier_up_to before n low)
      (λ i d h. earlier_behind before n (get_or field.spans i d) low)
      here.ascend
      (
      λ i d h.
      let over = here.spans i d h in
      record {
        over = subst (λ (l : List TokenWord). IsSpanOver l (get_or field.spans i d)) (sym is) over;
        zone = zones 0 field (omega arith) i d h;
        small = (small_at field.words (get_or field.spans i d).first here.within over.begins, small_at field.words (get_or field.spans i d).last here.within over.ends);
      }
      )
      (
      λ other order.
      fields_fit (n + 1) fields other next.2 (omega (arith, few)) (λ i d h. fit (suc i) d (omega (arith, h))) (λ i d h. zones (suc i) d (omega (arith, h))) (up_to_earlier other n order)
      )

-- the words of a field can be read
are_words : (tokens : FieldTokens) → IsField tokens → AreWords tokens.words
are_words tokens field = (few_words tokens field, from_placed 0 tokens.words (record { each = field.words; follow = field.placed.follow; within = field.within; begin = λ is. field.placed.begin }))

pub words_fit : (fields : List FieldTokens) → All IsField fields → All AreWords (only_words fields)
words_fit [] all = λ i d h. absurd (omega arith)
words_fit (field ∷ fields) all = All-cons AreWords field.words (only_words fields) (are_words field (All-head IsField field fields all)) (words_fit fields (All-tail IsField field fields all))
