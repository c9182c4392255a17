-- The slices of words and quoted pieces cut no character.
use Rattle.std.proofs.Common.{◌≡◌, ℕ, ◌+◌, ◌<◌, ◌≤◌, Bool, true, false, List, [], ◌∷◌, length, drop, refl, sym, subst, arith, lit<, IsUtf8}
use Rattle.std.specs.Prelude.{Option, Some, None, MatchOption, ◌==◌, ◌&&◌, ◌||◌, codes, if◌then◌else◌, nat_lt}
use Rattle.std.specs.Char.{len_utf8}
use Rattle.std.specs.List.{prefix_len}
use Rattle.std.specs.Option.{option_map, is_some}
use Rattle.std.specs.Str.{IsCharBoundary}
use Rattle.std.proofs.lemmas.Bool.{eqb-true, ltb-true}
use Rattle.std.proofs.lemmas.Str.{IsCharBoundary-before_ascii}
use Rattle.query_pieces.specs.declared.piece.Form.TheVariants as forms
use Rattle.query_pieces.specs.declared.piece.Names.{Names}
use Rattle.query_pieces.specs.declared.piece.Names.TheVariants as names
use Rattle.query_pieces.specs.declared.piece.Piece.{Piece}
use Rattle.query_pieces.specs.QueryBytes.{byte, byte_before, begins_field, is_field_byte, begins_zone, is_zone_byte, spells, run_end, digits_end}
use Rattle.query_pieces.specs.Operators.{piece, slice, NamesAt, operator_at, limit_with, limit_of, fields_from, fields_at, names_at, relaxed_at, at_sign_at, zones_of, zones_at, quoted_at, quote_end, number_at, is_inside}
use Rattle.query_pieces.specs.Letters.{Alphabet, Letter, char_at, is_word_mark, letter_at, letter_of, by_table}
use Rattle.query_pieces.specs.Pieces.{AreLetters, IsWord, IsPlain, Stands, after_start, after_end, separator_at}
use Rattle.query_pieces.proofs.ByteRuns.{byte_within, quote_stops}
use Rattle.query_pieces.proofs.Seams.{byte_inside, seam_next}
use Rattle.query_marks.specs.steps.Cuts.{IsCut, AreCut}

-- of one of two choices
choose : {X : Type 0} (P : X → Type 0) (b : Bool) (x y : X) → (b ≡ true → P x) → P y → P (if b then x else y)
choose P true x y left right = left refl
choose P false x y left right = right

-- ---- letters go ahead
record IsAhead (place : ℕ) (o : Option Letter) : Type 0 where
  ahead : MatchOption o (Unit {0}) (λ letter. place ≤ letter.to)

none_ahead : (place : ℕ) → IsAhead place None
none_ahead place = record { ahead = tt }

of_ahead : (place to : ℕ) (o : Option ℕ) → place ≤ to → IsAhead place (letter_of to o)
of_ahead place to None ahead = none_ahead place
of_ahead place to (Some v) ahead = record { ahead = ahead }

table_ahead : (fold : ℕ → Option ℕ) (place from : ℕ) (o : Option ℕ) → place ≤ from → IsAhead place (by_table fold from o)
table_ahead fold place from None ahead = none_ahead place
table_ahead fold place from (Some c) ahead = let after : place ≤ from + len_utf8 c = omega (arith, ahead) in of_ahead place (from + len_utf8 c) (fold c) after

at_ahead : (alphabet : Alphabet) (text : List ℕ) (inside : Bool) (place : ℕ) → IsAhead place (letter_at alphabet text inside place)
unfolding letter_at
at_ahead alphabet text inside place =
    let next : place ≤ place + 1 = omega arith in
    let same : place ≤ place = omega arith in
    choose (IsAhead place) (byte text place == 92) (by_table alphabet.fold (place + 1) (char_at text (place + 1))) _ (λ e. table_ahead alphabet.fold place (place + 1) (char_at text (place + 1)) next)
    (choose (IsAhead place) (is_word_mark alphabet inside (byte text place)) None _ (λ e. none_ahead place)
    (choose (IsAhead place) (is_some (operator_at text inside place)) None (by_table alphabet.fold place (char_at text place)) (λ e. none_ahead place) (table_ahead alphabet.fold place place (char_at text place) same)))

letter_ahead : (alphabet : Alphabet) (text : List ℕ) (inside : Bool) (place : ℕ) (letter : Letter) → letter_at alphabet text inside place ≡ Some letter → place ≤ letter.to
letter_ahead alphabet text inside place letter is = (subst (IsAhead place) is (at_ahead alphabet text inside place)).ahead

letters_ahead : (alphabet : Alphabet) (text : List ℕ) (inside : Bool) (from : ℕ) (letters : List ℕ) (to : ℕ) → AreLetters alphabet text inside from letters to → from ≤ to
letters_ahead alphabet text inside from [] to are = omega (arith, are)
letters_ahead alphabet text inside from (c ∷ cs) to are = omega (arith, letter_ahead alphabet text inside from are.0 are.1, letters_ahead alphabet text true are.0.to cs to are.3)

-- ---- words
start_seam : (text : List ℕ) (at : ℕ) → IsUtf8 text → IsCharBoundary text at → IsCharBoundary text (after_start text at)
start_seam text at utf8 seam = choose (IsCharBoundary text) (byte text at == 94) (at + 1) at (λ e. seam_next text at 94 utf8 (eqb-true (byte text at) 94 e) (lit< tt) (λ e. omega (arith, e))) seam

end_seam : (alphabet : Alphabet) (text : List ℕ) (to : ℕ) → IsUtf8 text → IsCharBoundary text (after_end alphabet text to) → IsCharBoundary text to
end_seam alphabet text to utf8 = by (byte text to == 36) (byte text to == 42) refl refl alphabet.stars
  where
    marked : (b : ℕ) → b < 128 → (b ≡ 32 → ⊥) → (byte text to == b) ≡ true → IsCharBoundary text to
    marked b small other e =
        let is : byte text to ≡ b = eqb-true (byte text to) b e in
        let below : to < length text = byte_inside text to b is other in
        IsCharBoundary-before_ascii text to below (omega (arith, is, small, byte_within text to below))

    by : (dollar star : Bool) → (byte text to == 36) ≡ dollar → (byte text to == 42) ≡ star → (stars : Bool) → IsCharBoundary text (if dollar || (stars && star) then to + 1 else to) → IsCharBoundary text to
    by true star e f stars seam = marked 36 (lit< tt) (λ d. omega (arith, d)) e
    by false true e f stars seam = marked 42 (lit< tt) (λ d. omega (arith, d)) f
    by false false e f true seam = seam
    by false false e f false seam = seam

word_cut : (alphabet : Alphabet) (text : List ℕ) (at : ℕ) (p : Piece) → IsUtf8 text → IsCharBoundary text at → IsCharBoundary text p.to → IsWord alphabet text at p → AreCut text p.form
word_cut alphabet text at p utf8 seam next word =
    let after : IsCharBoundary text (after_end alphabet text word.to) = subst (λ (q : Piece). IsCharBoundary text q.to) word.is next in
    let cut : IsCut text (slice (after_start text at) word.to) = record {
      ahead = letters_ahead alphabet text false (after_start text at) word.letters word.to word.run.are;
      from = start_seam text at utf8 seam;
      to = end_seam alphabet text word.to utf8 after;
    } in
    subst (λ (q : Piece). AreCut text q.form) (sym word.is) cut

plain_cut : (alphabet : Alphabet) (text : List ℕ) (at : ℕ) (p : Piece) → IsUtf8 text → IsCharBoundary text at → IsCharBoundary text p.to → IsPlain alphabet text at p → AreCut text p.form
plain_cut alphabet text at p utf8 seam next = by (letter_at alphabet text false (after_start text at))
  where
    by : (o : Option Letter) → MatchOption o (p ≡ separator_at text at) (λ letter. IsWord alphabet text at p) → AreCut text p.form
    by None is = subst (λ (q : Piece). AreCut text q.form) (sym is) tt
    by (Some letter) word = word_cut alphabet text at p utf8 seam next word

-- ---- operators
record OptionCut (text : List ℕ) (o : Option Piece) : Type 0 where
  cut : MatchOption o (Unit {0}) (λ p. AreCut text p.form)

record PieceCut (text : List ℕ) (p : Piece) : Type 0 where
  cut : AreCut text p.form

none_cut : (text : List ℕ) → OptionCut text None
none_cut text = record { cut = tt }

some_cut : (text : List ℕ) (p : Piece) → AreCut text p.form → OptionCut text (Some p)
some_cut text p cut = record { cut = cut }

quoted_cut : (text : List ℕ) (at : ℕ) → IsUtf8 text → byte text at ≡ 34 → PieceCut text (quoted_at text at)
unfolding run_end
quoted_cut text at utf8 quote = choose (PieceCut text) (nat_lt (quote_end text (at + 1)) (length text)) (piece (forms.Quoted (record { inside = slice (at + 1) (quote_end text (at + 1)); number = (number_at text (quote_end text (at + 1) + 1)).number })) (number_at text (quote_end text (at + 1) + 1)).to) (piece forms.Unclosed (length text)) (λ e. record { cut = cut e }) (record { cut = tt })
  where
    cut : nat_lt (quote_end text (at + 1)) (length text) ≡ true → IsCut text (slice (at + 1) (quote_end text (at + 1)))
    cut e =
        let below : quote_end text (at + 1) < length text = ltb-true (quote_end text (at + 1)) (length text) e in
        let is : byte text (quote_end text (at + 1)) ≡ 34 = quote_stops text (at + 1) (prefix_len is_inside (drop (at + 1) text)) refl below in
        record {
          ahead = omega arith;
          from = seam_next text at 34 utf8 quote (lit< tt) (λ e. omega (arith, e));
          to = IsCharBoundary-before_ascii text (quote_end text (at + 1)) below (omega (arith, is, byte_within text (quote_end text (at + 1)) below));
        }

limit_cut : (text : List ℕ) (negated : Bool) (names : Names) (to : ℕ) → PieceCut text (limit_with text negated names to)
limit_cut text negated names to =
    choose (PieceCut text) ((byte text to == 91) && nat_lt (to + 1) (digits_end text (to + 1)) && (byte text (digits_end text (to + 1)) == 93))
    (piece (forms.Fields (record { negated = negated; names = names; positions = Some (slice (to + 1) (digits_end text (to + 1))) })) (digits_end text (to + 1) + 1))
    (piece (forms.Fields (record { negated = negated; names = names; positions = None })) to)
    (λ e. record { cut = tt }) (record { cut = tt })

map_cut : (text : List ℕ) (f : NamesAt → Piece) (o : Option NamesAt) → ((n : NamesAt) → PieceCut text (f n)) → OptionCut text (option_map f o)
map_cut text f None cut = none_cut text
map_cut text f (Some n) cut = some_cut text (f n) (cut n).cut

from_cut : (text : List ℕ) (negated : Bool) (at : ℕ) → OptionCut text (fields_from text negated at)
from_cut text negated at = choose (OptionCut text) (byte text at == 42) (Some (limit_with text negated names.All (at + 1))) (option_map (limit_of text negated) (names_at begins_field is_field_byte text at)) (λ e. some_cut text (limit_with text negated names.All (at + 1)) (limit_cut text negated names.All (at + 1)).cut) (map_cut text (limit_of text negated) (names_at begins_field is_field_byte text at) (λ n. limit_cut text negated (names.Listed n.names) n.to))

sign_cut : (text : List ℕ) (at : ℕ) → OptionCut text (at_sign_at text at)
sign_cut text at = choose (OptionCut text) (relaxed_at text at) (Some (piece forms.Relaxed 9)) (fields_at text at) (λ e. some_cut text (piece forms.Relaxed 9) tt) (choose (OptionCut text) (byte text (at + 1) == 33) (fields_from text true (at + 2)) (fields_from text false (at + 1)) (λ e. from_cut text true (at + 2)) (from_cut text false (at + 1)))

zones_cut : (text : List ℕ) (inside : Bool) (at : ℕ) → OptionCut text (zones_at text inside at)
zones_cut text inside at =
    choose (OptionCut text) (inside || (byte_before text at == 94)) None _ (λ e. none_cut text)
    (choose (OptionCut text) (spells text at (codes "ZONE:")) (option_map (zones_of false) (names_at begins_zone is_zone_byte text (at + 5))) _ (λ e. map_cut text (zones_of false) (names_at begins_zone is_zone_byte text (at + 5)) (λ n. record { cut = tt }))
    (choose (OptionCut text) (spells text at (codes "ZONESPAN:")) (option_map (zones_of true) (names_at begins_zone is_zone_byte text (at + 9))) None (λ e. map_cut text (zones_of true) (names_at begins_zone is_zone_byte text (at + 9)) (λ n. record { cut = tt })) (none_cut text)))

tested : (text : List ℕ) (b : Bool) (p : Piece) → AreCut text p.form → OptionCut text (if b then Some p else None)
tested text true p cut = some_cut text p cut
tested text false p cut = none_cut text

operator_cut : (text : List ℕ) (inside : Bool) (at : ℕ) → IsUtf8 text → OptionCut text (operator_at text inside at)
unfolding operator_at
operator_cut text inside at utf8 =
    choose (OptionCut text) (byte text at == 34) _ _ (λ e. some_cut text (quoted_at text at) (quoted_cut text at utf8 (eqb-true (byte text at) 34 e)).cut)
    (choose (OptionCut text) (byte text at == 40) _ _ (λ e. some_cut text (piece forms.Open (at + 1)) tt)
    (choose (OptionCut text) (byte text at == 41) _ _ (λ e. some_cut text (piece forms.Close (at + 1)) tt)
    (choose (OptionCut text) (byte text at == 124) _ _ (λ e. some_cut text (piece forms.Or (at + 1)) tt)
    (choose (OptionCut text) (byte text at == 60) _ _ (λ e. tested text _ (piece forms.Before (at + 2)) tt)
    (choose (OptionCut text) ((byte text at == 45) || (byte text at == 33)) _ _ (λ e. tested text _ (piece forms.Not (at + 1)) tt)
    (choose (OptionCut text) (byte text at == 64) _ _ (λ e. sign_cut text at)
    (choose (OptionCut text) (byte text at == 90) _ _ (λ e. zones_cut text inside at)
    (choose (OptionCut text) (byte text at == 77) _ _ (λ e. tested text _ (piece forms.Maybe (at + 5)) tt)
    (choose (OptionCut text) (byte text at == 83) _ _ (λ e. tested text _ (piece forms.Sentence (at + 8)) tt)
    (choose (OptionCut text) (byte text at == 80) _ _ (λ e. tested text _ (piece forms.Paragraph (at + 9)) tt)
    (choose (OptionCut text) (byte text at == 78) _ _ (λ e. tested text _ (piece (forms.Near (slice (at + 5) (digits_end text (at + 5)))) (digits_end text (at + 5))) tt) (none_cut text))))))))))))

-- the slices of a piece that stands in a text
pub are_cut : (alphabet : Alphabet) (text : List ℕ) (inside : Bool) (at : ℕ) (p : Piece) → IsUtf8 text → IsCharBoundary text at → IsCharBoundary text p.to → Stands alphabet text inside at p → AreCut text p.form
are_cut alphabet text inside at p utf8 seam next = by (operator_at text inside at) (operator_cut text inside at utf8)
  where
    by : (o : Option Piece) → OptionCut text o → MatchOption o (IsPlain alphabet text at p) (λ operator. p ≡ operator) → AreCut text p.form
    by None cut plain = plain_cut alphabet text at p utf8 seam next plain
    by (Some operator) cut is = subst (λ (q : Piece). AreCut text q.form) (sym is) cut.cut
