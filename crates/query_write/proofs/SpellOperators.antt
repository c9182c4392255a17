-- Operators as they are written, and the space, are pieces of the text.
use Rattle.std.proofs.Common.{◌≡◌, ℕ, ◌+◌, ◌<◌, Bool, true, false, eqb, List, [], ◌∷◌, ◌++◌, ◌&&◌, not, length, get_or, codes, refl, sym, ap, ◌∙◌, subst, arith}
use Rattle.std.specs.Prelude.{Option, Some, None, if◌then◌else◌, ◌==◌, nat_lt, MatchOption}
use Rattle.std.specs.Char.{is_ascii_digit}
use Rattle.std.specs.List.{list_all, prefix_len}
use Rattle.std.proofs.lemmas.Bool.{and_parts, and_from, not_from_false, lt-ltb, cond-true, cond-false}
use Rattle.std.proofs.lemmas.Bool.Decides.{nat_tests}
use Rattle.query_pieces.specs.declared.piece.Form.{Form}
use Rattle.query_pieces.specs.declared.piece.Form.TheVariants as forms
use Rattle.query_pieces.specs.declared.piece.Piece.{Piece}
use Rattle.query_pieces.specs.QueryBytes.{byte, byte_before, is_bound, is_blank, opens_not, spells, run_end, digits_end}
use Rattle.query_pieces.specs.Operators.{slice, piece, where_holds, lettered_at, operator_at, operator_by}
use Rattle.query_pieces.specs.Letters.{Alphabet, Letter, char_at, first_of, letter_at}
use Rattle.query_pieces.specs.Pieces.{IsPlain, IsWord, Stands, after_start, separator_at, char_end}
use Rattle.query_write.proofs.SpellPlaces.{IsRest, rest_past, rest_next, rest_to, byte_first, byte_on, run_at, char_is_at, spells_is, begins_same}
use Rattle.query_write.proofs.SpellLetters.{HasNone, chars_small}
use Rattle.query_write.proofs.SpellWords.{no_letter}

-- ---- runs
-- a run goes over what passes, up to what doesn't
pub run_over : (test : ℕ → Bool) (front rest : List ℕ) → list_all test front ≡ true → test (get_or rest 0 32) ≡ false → prefix_len test (front ++ rest) ≡ length front
run_over test [] [] passes stops = refl
run_over test [] (b ∷ rest) passes stops = cond-false (test b) (1 + prefix_len test rest) 0 stops
run_over test (b ∷ front) rest passes stops =
    let both = and_parts (test b) (list_all test front) passes in
    cond-true (test b) (1 + prefix_len test (front ++ rest)) 0 both.0 ∙ ap (λ (n : ℕ). 1 + n) (run_over test front rest both.1 stops) ∙ omega arith

pub run_ends : (test : ℕ → Bool) (text : List ℕ) (place : ℕ) (front rest : List ℕ) → IsRest text place (front ++ rest) → list_all test front ≡ true → test (get_or rest 0 32) ≡ false → run_end test text place ≡ place + length front
run_ends test text place front rest at passes stops = run_at test text place (front ++ rest) at ∙ ap (λ (n : ℕ). place + n) (run_over test front rest passes stops)

-- ---- what stands at a place
pub operator_stands : (alphabet : Alphabet) (text : List ℕ) (inside : Bool) (place : ℕ) (p : Piece) → operator_at text inside place ≡ Some p → Stands alphabet text inside place p
operator_stands alphabet text inside place p is = subst (λ (o : Option Piece). MatchOption o (IsPlain alphabet text place p) (λ operator. p ≡ operator)) (sym is) refl

-- the operator is found by its first byte
pub by_byte : (text : List ℕ) (inside : Bool) (place b : ℕ) (rest : List ℕ) → IsRest text place (b ∷ rest) → operator_at text inside place ≡ operator_by text inside place b
unfolding operator_at
by_byte text inside place b rest at = ap (operator_by text inside place) (byte_first text place (b ∷ rest) at)

pub holds : (test : Bool) (p : Piece) → test ≡ true → where_holds test p ≡ Some p
holds test p is = ap (λ (t : Bool). where_holds t p) is

pub open_stands : (alphabet : Alphabet) (text : List ℕ) (inside : Bool) (place : ℕ) (rest : List ℕ) → IsRest text place (40 ∷ rest) → Stands alphabet text inside place (piece forms.Open (place + 1))
open_stands alphabet text inside place rest at = operator_stands alphabet text inside place (piece forms.Open (place + 1)) (by_byte text inside place 40 rest at)

pub close_stands : (alphabet : Alphabet) (text : List ℕ) (inside : Bool) (place : ℕ) (rest : List ℕ) → IsRest text place (41 ∷ rest) → Stands alphabet text inside place (piece forms.Close (place + 1))
close_stands alphabet text inside place rest at = operator_stands alphabet text inside place (piece forms.Close (place + 1)) (by_byte text inside place 41 rest at)

pub or_stands : (alphabet : Alphabet) (text : List ℕ) (inside : Bool) (place : ℕ) (rest : List ℕ) → IsRest text place (124 ∷ rest) → Stands alphabet text inside place (piece forms.Or (place + 1))
or_stands alphabet text inside place rest at = operator_stands alphabet text inside place (piece forms.Or (place + 1)) (by_byte text inside place 124 rest at)

pub before_stands : (alphabet : Alphabet) (text : List ℕ) (inside : Bool) (place : ℕ) (rest : List ℕ) → IsRest text place (60 ∷ 60 ∷ rest) → Stands alphabet text inside place (piece forms.Before (place + 2))
before_stands alphabet text inside place rest at =
    operator_stands alphabet text inside place (piece forms.Before (place + 2))
    (by_byte text inside place 60 (60 ∷ rest) at ∙ holds (byte text (place + 1) == 60) (piece forms.Before (place + 2)) (ap (λ (b : ℕ). eqb b 60) (byte_on text place 1 (60 ∷ 60 ∷ rest) at)))

pub not_stands : (alphabet : Alphabet) (text : List ℕ) (inside : Bool) (place : ℕ) (rest : List ℕ) → opens_not (byte_before text place) ≡ true → is_blank (get_or rest 0 32) ≡ false → IsRest text place (45 ∷ rest) → Stands alphabet text inside place (piece forms.Not (place + 1))
not_stands alphabet text inside place rest before after at =
    let next : is_blank (byte text (place + 1)) ≡ false = ap is_blank (byte_first text (place + 1) rest (rest_next text place 45 rest at)) ∙ after in
    operator_stands alphabet text inside place (piece forms.Not (place + 1))
    (by_byte text inside place 45 rest at
    ∙ holds (opens_not (byte_before text place) && not (is_blank (byte text (place + 1)))) (piece forms.Not (place + 1)) (and_from (opens_not (byte_before text place)) (not (is_blank (byte text (place + 1)))) before (not_from_false (is_blank (byte text (place + 1))) next)))

-- what is spelled at a place
pub spelled_at : (text : List ℕ) (place : ℕ) (word rest : List ℕ) → IsRest text place (word ++ rest) → spells text place word ≡ true
spelled_at text place word rest at = spells_is text place word (word ++ rest) at ∙ begins_same word rest

lettered_is : (text : List ℕ) (place : ℕ) (word : List ℕ) (form : Form) (rest : List ℕ) → is_bound (byte_before text place) ≡ true → is_bound (get_or rest 0 32) ≡ true → IsRest text place (word ++ rest) → lettered_at text place word form ≡ Some (piece form (place + length word))
lettered_is text place word form rest before after at =
    let next : is_bound (byte text (place + length word)) ≡ true = ap is_bound (byte_first text (place + length word) rest (rest_past text place word rest at)) ∙ after in
    holds (is_bound (byte_before text place) && spells text place word && is_bound (byte text (place + length word))) (piece form (place + length word))
    (and_from (is_bound (byte_before text place) && spells text place word) (is_bound (byte text (place + length word))) (and_from (is_bound (byte_before text place)) (spells text place word) before (spelled_at text place word rest at)) next)

pub maybe_stands : (alphabet : Alphabet) (text : List ℕ) (inside : Bool) (place : ℕ) (rest : List ℕ) → is_bound (byte_before text place) ≡ true → is_bound (get_or rest 0 32) ≡ true → IsRest text place (codes "MAYBE" ++ rest) → Stands alphabet text inside place (piece forms.Maybe (place + 5))
maybe_stands alphabet text inside place rest before after at =
    operator_stands alphabet text inside place (piece forms.Maybe (place + 5)) (by_byte text inside place 77 (codes "AYBE" ++ rest) at ∙ lettered_is text place (codes "MAYBE") forms.Maybe rest before after at)

pub sentence_stands : (alphabet : Alphabet) (text : List ℕ) (inside : Bool) (place : ℕ) (rest : List ℕ) → is_bound (byte_before text place) ≡ true → is_bound (get_or rest 0 32) ≡ true → IsRest text place (codes "SENTENCE" ++ rest) → Stands alphabet text inside place (piece forms.Sentence (place + 8))
sentence_stands alphabet text inside place rest before after at =
    operator_stands alphabet text inside place (piece forms.Sentence (place + 8)) (by_byte text inside place 83 (codes "ENTENCE" ++ rest) at ∙ lettered_is text place (codes "SENTENCE") forms.Sentence rest before after at)

pub paragraph_stands : (alphabet : Alphabet) (text : List ℕ) (inside : Bool) (place : ℕ) (rest : List ℕ) → is_bound (byte_before text place) ≡ true → is_bound (get_or rest 0 32) ≡ true → IsRest text place (codes "PARAGRAPH" ++ rest) → Stands alphabet text inside place (piece forms.Paragraph (place + 9))
paragraph_stands alphabet text inside place rest before after at =
    operator_stands alphabet text inside place (piece forms.Paragraph (place + 9)) (by_byte text inside place 80 (codes "ARAGRAPH" ++ rest) at ∙ lettered_is text place (codes "PARAGRAPH") forms.Paragraph rest before after at)

-- ---- NEAR with its number
pub bound_no_digit : (b : ℕ) → is_bound b ≡ true → is_ascii_digit b ≡ false
bound_no_digit b bound = grind (arith, nat_tests)

-- the digits of a number
pub record AreDigits (digits : List ℕ) : Type 0 where
  pub are : list_all is_ascii_digit digits ≡ true
  pub some : 0 < length digits

pub near_stands : (alphabet : Alphabet) (text : List ℕ) (inside : Bool) (place to : ℕ) (digits rest : List ℕ) → AreDigits digits → is_bound (byte_before text place) ≡ true → is_bound (get_or rest 0 32) ≡ true → to ≡ place + 5 + length digits → IsRest text place (codes "NEAR/" ++ (digits ++ rest)) → Stands alphabet text inside place (piece (forms.Near (slice (place + 5) to)) to)
near_stands alphabet text inside place to digits rest are before after e at =
    let next : IsRest text (place + 5) (digits ++ rest) = rest_past text place (codes "NEAR/") (digits ++ rest) at in
    let ends : digits_end text (place + 5) ≡ to = run_ends is_ascii_digit text (place + 5) digits rest next are.are (bound_no_digit (get_or rest 0 32) after) ∙ sym e in
    let last : is_bound (byte text to) ≡ true = ap is_bound (byte_first text to rest (rest_to text (place + 5) to digits rest e next)) ∙ after in
    let some : nat_lt (place + 5) to ≡ true = lt-ltb (place + 5) to (omega (arith, e, are.some)) in
    let test : (is_bound (byte_before text place) && spells text place (codes "NEAR/") && nat_lt (place + 5) to && is_bound (byte text to)) ≡ true =
    and_from _ (is_bound (byte text to)) (and_from _ (nat_lt (place + 5) to) (and_from (is_bound (byte_before text place)) (spells text place (codes "NEAR/")) before (spelled_at text place (codes "NEAR/") (digits ++ rest) at)) some) last in
    operator_stands alphabet text inside place (piece (forms.Near (slice (place + 5) to)) to)
    (by_byte text inside place 78 (codes "EAR/" ++ (digits ++ rest)) at
    ∙ ap (λ (n : ℕ). where_holds (is_bound (byte_before text place) && spells text place (codes "NEAR/") && nat_lt (place + 5) n && is_bound (byte text n)) (piece (forms.Near (slice (place + 5) n)) n)) ends
    ∙ holds (is_bound (byte_before text place) && spells text place (codes "NEAR/") && nat_lt (place + 5) to && is_bound (byte text to)) (piece (forms.Near (slice (place + 5) to)) to) test)

-- ---- the space
pub space_stands : (alphabet : Alphabet) (text : List ℕ) (inside : Bool) (place : ℕ) (rest : List ℕ) → HasNone alphabet.fold → IsRest text place (32 ∷ rest) → Stands alphabet text inside place (piece forms.Separator (place + 1))
space_stands alphabet text inside place rest none at =
    let is : byte text place ≡ 32 = byte_first text place (32 ∷ rest) at in
    let here : after_start text place ≡ place = ap (λ (b : ℕ). if b == 94 then place + 1 else place) is in
    let letter : letter_at alphabet text false (after_start text place) ≡ None = ap (letter_at alphabet text false) here ∙ no_letter alphabet text false place (32 ∷ rest) none (record { is = refl }) (λ e. let same : 32 ≡ 42 = e in absurd (omega (arith, same))) at in
    let char : char_at text place ≡ Some 32 = char_is_at text place (32 ∷ rest) at ∙ ap first_of (chars_small 32 rest (omega arith)) in
    let same : separator_at text place ≡ piece forms.Separator (place + 1) =
    ap (λ (b : ℕ). piece forms.Separator (if b == 92 then char_end (place + 1) (char_at text (place + 1)) else char_end place (char_at text place))) is
    ∙ ap (λ (o : Option ℕ). piece forms.Separator (char_end place o)) char in
    let plain : IsPlain alphabet text place (piece forms.Separator (place + 1)) =
    subst (λ (o : Option Letter). MatchOption o (piece forms.Separator (place + 1) ≡ separator_at text place) (λ letter. IsWord alphabet text place (piece forms.Separator (place + 1)))) (sym letter) (sym same) in
    subst (λ (o : Option Piece). MatchOption o (IsPlain alphabet text place (piece forms.Separator (place + 1))) (λ operator. piece forms.Separator (place + 1) ≡ operator)) (sym (by_byte text inside place 32 rest at)) plain
