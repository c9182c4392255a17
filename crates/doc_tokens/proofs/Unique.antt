-- A text has one answer.
use Rattle.std.proofs.Common.{◌≡◌, ℕ, zero, suc, true, nat_lt, List, [], ◌∷◌, map, Option, Some, refl, sym, ◌∙◌, ap, subst, inl, inr, ⊎_elim, arith}
use Rattle.std.specs.Prelude.{Contains, ◌⊎◌, find}
use Rattle.std.proofs.lemmas.Bool.Decides.{nat_tests}
use Rattle.std.proofs.lemmas.Option.{none-some}
use Rattle.mark_scan.specs.declared.mark.Mark.{Mark}
use Rattle.mark_scan.specs.declared.mark.MarkRules.{MarkRules}
use Rattle.mark_scan.proofs.Unique.{marks_unique}
use Rattle.doc_types.specs.declared.tokens.TheConstants.{MAX_POSITION}
use Rattle.doc_types.specs.declared.tokens.FieldTokens.{FieldTokens}
use Rattle.doc_types.specs.declared.tokens.TokenWord.{TokenWord}
use Rattle.doc_types.specs.declared.tokens.ZoneSpan.{ZoneSpan}
use Rattle.doc_types.specs.Documents.{precedes, Ascend, IsField}
use Rattle.doc_tokens.specs.Spans.{tags_after}
use Rattle.doc_tokens.specs.Words.{positions_in}
use Rattle.doc_tokens.specs.Tokens.{segments_of, first_above, AreWords, AreSpans, TokensOf, IsTooLong}
use Rattle.doc_tokens.proofs.SpanOrder.{precedes_trans}
use Rattle.doc_tokens.proofs.ReaderSteps.{none_above}

-- words with the same spelling, boundaries and positions are the same
words_unique : (a b : List TokenWord) → map (λ (w : TokenWord). w.word) a ≡ map (λ (w : TokenWord). w.word) b → map (λ (w : TokenWord). w.gap) a ≡ map (λ (w : TokenWord). w.gap) b → map (λ (w : TokenWord). w.position) a ≡ map (λ (w : TokenWord). w.position) b → a ≡ b
words_unique [] [] spelled gaps positions = refl
words_unique [] (y ∷ b) spelled gaps positions = cc
words_unique (x ∷ a) [] spelled gaps positions = cc
words_unique (x ∷ a) (y ∷ b) spelled gaps positions =
    let word : x.word ≡ y.word = cc in
    let gap : x.gap ≡ y.gap = cc in
    let position : x.position ≡ y.position = cc in
    let rest : a ≡ b = words_unique a b (cc) (cc) (cc) in
    λ i. record { word = word i; position = position i; gap = gap i } ∷ rest i

-- an element of a list with one more in front
contains_front : (x s : ZoneSpan) (xs : List ZoneSpan) → Contains (x ∷ xs) s → (x ≡ s) ⊎ Contains xs s
contains_front x s xs (zero, below, is) = inl is
contains_front x s xs (suc k, below, is) = inr (k, omega (arith, below), is)

contains_head : (x : ZoneSpan) (xs : List ZoneSpan) → Contains (x ∷ xs) x
contains_head x xs = (0, omega arith, refl)

contains_after : (x s : ZoneSpan) (xs : List ZoneSpan) → Contains xs s → Contains (x ∷ xs) s
contains_after x s xs (k, below, is) = (suc k, omega (arith, below), is)

-- the first of spans in their order precedes the others
head_first : (x s : ZoneSpan) (xs : List ZoneSpan) → Ascend (x ∷ xs) → Contains xs s → precedes x s ≡ true
head_first x s xs ascend (k, below, is) = subst (λ (t : ZoneSpan). precedes x t ≡ true) is (ascend 0 (suc k) s (omega arith) (omega (arith, below)))

ascend_after : (x : ZoneSpan) (xs : List ZoneSpan) → Ascend (x ∷ xs) → Ascend xs
ascend_after x xs ascend = λ i j d order below. ascend (suc i) (suc j) d (omega (arith, order)) (omega (arith, below))

not_itself : (s : ZoneSpan) → precedes s s ≡ true → ⊥
not_itself s is = grind (arith, nat_tests)

-- what the second list has after its first element is after the first element of the first list
tail_within : (x s : ZoneSpan) (xs ys : List ZoneSpan) → Ascend (x ∷ xs) → ((t : ZoneSpan) → Contains (x ∷ xs) t → Contains (x ∷ ys) t) → Contains xs s → Contains ys s
tail_within x s xs ys ascend within has =
    ⊎_elim
    (λ same. absurd (not_itself x (subst (λ (t : ZoneSpan). precedes x t ≡ true) (sym same) (head_first x s xs ascend has))))
    (λ beyond. beyond)
    (contains_front x s ys (within s (contains_after x s xs has)))

heads_same : (x y : ZoneSpan) (xs ys : List ZoneSpan) → Ascend (x ∷ xs) → Ascend (y ∷ ys) → Contains (y ∷ ys) x → Contains (x ∷ xs) y → x ≡ y
heads_same x y xs ys first second has_x has_y =
    ⊎_elim (λ same. sym same)
    (λ x_after. ⊎_elim (λ same. same) (λ y_after. absurd (not_itself x (precedes_trans x y x (head_first x y xs first y_after) (head_first y x ys second x_after)))) (contains_front x y xs has_y))
    (contains_front y x ys has_x)

spans_unique : (xs ys : List ZoneSpan) → Ascend xs → Ascend ys → ((s : ZoneSpan) → Contains xs s → Contains ys s) → ((s : ZoneSpan) → Contains ys s → Contains xs s) → xs ≡ ys
spans_unique [] [] first second there back = refl
spans_unique [] (y ∷ ys) first second there back = let none = (back y (contains_head y ys)).1 in absurd (omega (arith, none))
spans_unique (x ∷ xs) [] first second there back = let none = (there x (contains_head x xs)).1 in absurd (omega (arith, none))
spans_unique (x ∷ xs) (y ∷ ys) first second there back =
    let same : x ≡ y = heads_same x y xs ys first second (there x (contains_head x xs)) (back y (contains_head y ys)) in
    let there_x = subst (λ (z : ZoneSpan). (s : ZoneSpan) → Contains (x ∷ xs) s → Contains (z ∷ ys) s) (sym same) there in
    let back_x = subst (λ (z : ZoneSpan). (s : ZoneSpan) → Contains (z ∷ ys) s → Contains (x ∷ xs) s) (sym same) back in
    let second_x = subst (λ (z : ZoneSpan). Ascend (z ∷ ys)) (sym same) second in
    let rest = spans_unique xs ys (ascend_after x xs first) (ascend_after y ys second) (λ s has. tail_within x s xs ys first there_x has) (λ s has. tail_within x s ys xs second_x back_x has) in
    λ i. same i ∷ rest i

-- the tokens of a text are determined
pub tokens_unique : (fold : ℕ → Option ℕ) (rules : MarkRules) (text : List ℕ) (a b : FieldTokens) → TokensOf fold rules text a → TokensOf fold rules text b → a ≡ b
tokens_unique fold rules text a b first second =
    let marks = marks_unique fold rules text second.marks first.marks second.are first.are in
    let segments = segments_of fold text first.marks in
    let words = subst (λ (ms : List Mark). AreWords (segments_of fold text ms) b.words) marks second.words in
    let spans = subst (λ (ms : List Mark). AreSpans (positions_in (segments_of fold text ms)) (tags_after 0 (segments_of fold text ms)) b.spans) marks second.spans in
    let words_are = words_unique a.words b.words (first.words.spelled ∙ sym words.spelled) (first.words.gaps ∙ sym words.gaps) (first.words.positions ∙ sym words.positions) in
    let spans_are = spans_unique a.spans b.spans first.spans.ascend spans.ascend (λ s has. (spans.same s).1 ((first.spans.same s).0 has)) (λ s has. (first.spans.same s).1 ((spans.same s).0 has)) in
    λ i. record { words = words_are i; spans = spans_are i }

-- a text whose tokens are a field isn't too long
pub not_too_long : (fold : ℕ → Option ℕ) (rules : MarkRules) (text : List ℕ) (tokens : FieldTokens) (position : ℕ) → TokensOf fold rules text tokens → IsField tokens → IsTooLong fold rules text position → ⊥
not_too_long fold rules text tokens position are field long =
    let marks = marks_unique fold rules text long.marks are.marks long.are are.are in
    let first = subst (λ (ms : List Mark). first_above (segments_of fold text ms) ≡ Some position) marks long.first in
    let none = ap (find (λ (p : ℕ). nat_lt MAX_POSITION p)) are.words.positions in
    none-some position (sym (none_above tokens.words field.within) ∙ none ∙ first)
