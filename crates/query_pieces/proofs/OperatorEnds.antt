-- Where operators, limits and quoted pieces end: after their place, in the text, beside an ASCII byte.
use Rattle.std.proofs.Common.{◌≡◌, ⊎_elim, inr, ℕ, ◌+◌, ◌-◌, ◌<◌, ◌≤◌, Bool, true, false, List, length, get_or, drop, refl, ◌∙◌, subst, arith, lit<, length-drop}
use Rattle.std.specs.Prelude.{Option, Some, None, MatchOption, ◌==◌, ◌&&◌, ◌||◌, codes, if◌then◌else◌, nat_lt, slice_range}
use Rattle.std.specs.Char.{is_ascii_digit}
use Rattle.std.specs.Option.{option_map}
use Rattle.std.proofs.lemmas.Bool.{eqb-true, ltb-true, cases_lt}
use Rattle.std.proofs.lemmas.List.Sums.{prefix_len-le-length}
use Rattle.query_pieces.specs.declared.bytes.NameKind.{NameKind}
use Rattle.query_pieces.specs.declared.bytes.NameKind.TheVariants as kinds
use Rattle.query_pieces.specs.declared.piece.Form.{Form}
use Rattle.query_pieces.specs.declared.piece.Form.TheVariants as forms
use Rattle.query_pieces.specs.declared.piece.Names.{Names}
use Rattle.query_pieces.specs.declared.piece.Names.TheVariants as names
use Rattle.query_pieces.specs.declared.piece.Piece.{Piece}
use Rattle.query_pieces.specs.QueryBytes.{byte, byte_before, is_bound, spells, run_end, digits_end}
use Rattle.query_pieces.specs.Operators.{piece, slice, NamesAt, NumberAt, operator_at, before_at, lettered_at, near_at, limit_with, limit_of, fields_from, fields_at, names_at, list_at, name_at, is_listed, are_names, relaxed_at, at_sign_at, zones_of, zones_at, quoted_at, quote_end, number_at}
use Rattle.query_pieces.specs.steps.Names.{begins_of, further_of}
use Rattle.query_pieces.specs.steps.Ends.{EndsIn}
use Rattle.query_pieces.proofs.ByteRuns.{digit_small, further_small, run_last, quote_stops, spells_at, begun_run, ends_last, ends_relaxed}
use Rattle.query_pieces.proofs.Seams.{byte_inside}

-- ---- tests
-- of one of two choices
choose : {X : Type 0} (P : X → Type 0) (b : Bool) (x y : X) → (b ≡ true → P x) → P y → P (if b then x else y)
choose P true x y left right = left refl
choose P false x y left right = right

clash : {X : Type 0} → false ≡ true → X
clash e = absurd (bad e)
  where
    bad : false ≡ true → ⊥
    bad e = cc

first_of : (a b : Bool) → (a && b) ≡ true → a ≡ true
first_of true b e = refl
first_of false b e = clash e

middle_of : (a b c : Bool) → (a && b && c) ≡ true → b ≡ true
middle_of true true c e = refl
middle_of true false c e = clash e
middle_of false b c e = clash e

last_of : (a b c : Bool) → (a && b && c) ≡ true → c ≡ true
last_of true true c e = e
last_of true false c e = clash e
last_of false b c e = clash e

start_of : (a b c : Bool) → (a && b && c) ≡ true → a ≡ true
start_of true b c e = refl
start_of false b c e = clash e

third_of : (a b c d : Bool) → (a && b && c && d) ≡ true → c ≡ true
third_of true true true d e = refl
third_of true true false d e = clash e
third_of true false c d e = clash e
third_of false b c d e = clash e

-- ---- ends
-- after an ASCII byte
ascii_ends : (text : List ℕ) (place at : ℕ) → place ≤ at → at < length text → byte text at < 128 → EndsIn text place (at + 1)
ascii_ends text place at ahead within small =
    let e : at ≡ at + 1 - 1 = omega arith in
    record { after = omega (arith, ahead); within = omega (arith, within); seam = inr (subst (λ n. byte text n < 128) e small) }

byte_ends : (text : List ℕ) (place at b : ℕ) → place ≤ at → byte text at ≡ b → b < 128 → (b ≡ 32 → ⊥) → EndsIn text place (at + 1)
byte_ends text place at b ahead is small other = ascii_ends text place at ahead (byte_inside text at b is other) (omega (arith, is, small))

-- after a run of ASCII bytes
run_ends : (test : ℕ → Bool) (text : List ℕ) (place from : ℕ) → ((b : ℕ) → test b ≡ true → b < 128) → place ≤ from → from < run_end test text from → EndsIn text place (run_end test text from)
unfolding run_end
run_ends test text place from small ahead some =
    ⊎_elim (λ within. record { after = omega (arith, ahead, some); within = omega (arith, prefix_len-le-length test (drop from text), length-drop from text, within); seam = inr (run_last test text from small within some) })
    (λ past. absurd (omega (arith, past, some, prefix_len-le-length test (drop from text), length-drop from text)))
    (cases_lt from (length text))

run_ahead : (test : ℕ → Bool) (text : List ℕ) (place : ℕ) → place ≤ run_end test text place
unfolding run_end
run_ahead test text place = omega arith

digits_ends : (text : List ℕ) (place from : ℕ) → place ≤ from → nat_lt from (digits_end text from) ≡ true → EndsIn text place (digits_end text from)
digits_ends text place from ahead some = run_ends is_ascii_digit text place from digit_small ahead (ltb-true from (digits_end text from) some)

-- after a word, by its last byte
word_ends : (text : List ℕ) (place : ℕ) (word : List ℕ) (k b to : ℕ) → spells text place word ≡ true → k < length word → get_or word k 0 ≡ b → b < 128 → (b ≡ 32 → ⊥) → place + k + 1 ≡ to → EndsIn text place to
word_ends text place word k b to is below last small other e =
    subst (EndsIn text place) e (byte_ends text place (place + k) b (omega arith) (spells_at text place word k below is ∙ last) small other)

-- ---- pieces
abbrev pub is_word : Form → Bool
is_word (forms.Word w) = true
is_word _ = false

record PieceEnds (text : List ℕ) (place : ℕ) (p : Piece) : Type 0 where
  other : is_word p.form ≡ false
  ends : EndsIn text place p.to

-- What begins at a place besides words is no word.
pub record OptionEnds (text : List ℕ) (place : ℕ) (o : Option Piece) : Type 0 where
  pub other : MatchOption o (Unit {0}) (λ p. is_word p.form ≡ false)
  pub ends : MatchOption o (Unit {0}) (λ p. EndsIn text place p.to)

some_ends : (text : List ℕ) (place : ℕ) (p : Piece) → is_word p.form ≡ false → EndsIn text place p.to → OptionEnds text place (Some p)
some_ends text place p other ends = record { other = other; ends = ends }

piece_ends : (text : List ℕ) (place : ℕ) (p : Piece) → PieceEnds text place p → OptionEnds text place (Some p)
piece_ends text place p ends = record { other = ends.other; ends = ends.ends }

none_ends : (text : List ℕ) (place : ℕ) → OptionEnds text place None
none_ends text place = record { other = tt; ends = tt }

-- ---- quoted pieces
record NumberEnds (text : List ℕ) (place : ℕ) (n : NumberAt) : Type 0 where
  ends : EndsIn text place n.to

number_ends : (text : List ℕ) (place last : ℕ) → place ≤ last → last < length text → byte text last ≡ 34 → NumberEnds text place (number_at text (last + 1))
number_ends text place last ahead within quote =
    let near : place ≤ last + 1 + 1 = omega (arith, ahead) in
    let far : place ≤ last + 1 + 3 = omega (arith, ahead) in
    choose (NumberEnds text place) ((byte text (last + 1) == 126) && nat_lt (last + 1 + 1) (digits_end text (last + 1 + 1))) _ _
    (λ e. record { ends = digits_ends text place (last + 1 + 1) near (second (byte text (last + 1) == 126) _ e) })
    (choose (NumberEnds text place) ((byte text (last + 1) == 47) && spells text (last + 1 + 1) (codes "0.") && nat_lt (last + 1 + 3) (digits_end text (last + 1 + 3))) _ _
    (λ e. record { ends = digits_ends text place (last + 1 + 3) far (last_of (byte text (last + 1) == 47) (spells text (last + 1 + 1) (codes "0.")) _ e) })
    (choose (NumberEnds text place) ((byte text (last + 1) == 47) && nat_lt (last + 1 + 1) (digits_end text (last + 1 + 1))) _ _
    (λ e. record { ends = digits_ends text place (last + 1 + 1) near (second (byte text (last + 1) == 47) _ e) })
    (record { ends = byte_ends text place last 34 ahead quote (lit< tt) (λ e. omega (arith, e)) })))
  where
    second : (a b : Bool) → (a && b) ≡ true → b ≡ true
    second true b e = e
    second false b e = clash e

quoted_ends : (text : List ℕ) (place : ℕ) → place < length text → PieceEnds text place (quoted_at text place)
unfolding run_end
quoted_ends text place within =
    choose (PieceEnds text place) (nat_lt (quote_end text (place + 1)) (length text)) (piece (forms.Quoted (record { inside = slice (place + 1) (quote_end text (place + 1)); number = (number_at text (quote_end text (place + 1) + 1)).number })) (number_at text (quote_end text (place + 1) + 1)).to) (piece forms.Unclosed (length text))
    (λ e. record { other = refl; ends = (closed e).ends }) (record { other = refl; ends = ends_last text place within })
  where
    closed : nat_lt (quote_end text (place + 1)) (length text) ≡ true → NumberEnds text place (number_at text (quote_end text (place + 1) + 1))
    closed e =
        let below : quote_end text (place + 1) < length text = ltb-true (quote_end text (place + 1)) (length text) e in
        number_ends text place (quote_end text (place + 1)) (omega arith) below (quote_stops text (place + 1) _ refl below)

-- ---- names and limits
record NamesEnd (text : List ℕ) (place : ℕ) (o : Option NamesAt) : Type 0 where
  ends : MatchOption o (Unit {0}) (λ found. EndsIn text place found.to)

no_names : (text : List ℕ) (place : ℕ) → NamesEnd text place None
no_names text place = record { ends = tt }

some_names : (text : List ℕ) (place : ℕ) (found : NamesAt) → EndsIn text place found.to → NamesEnd text place (Some found)
some_names text place found ends = record { ends = ends }

-- the place after the bytes of a list of names
abbrev list_end : NameKind → List ℕ → ℕ → ℕ
list_end kind text from = run_end (is_listed (further_of kind)) text (from + 1)

names_end : (kind : NameKind) (text : List ℕ) (place from : ℕ) → place ≤ from → NamesEnd text place (names_at (begins_of kind) (further_of kind) text from)
names_end kind text place from ahead =
    choose (NamesEnd text place) (byte text from == 40) (list_at (begins_of kind) (further_of kind) text from) (name_at (begins_of kind) (further_of kind) text from)
    (λ e. choose (NamesEnd text place) ((byte text (list_end kind text from) == 41) && are_names (begins_of kind) true (slice_range text (from + 1) (list_end kind text from))) _ None
    (λ e. some_names text place (record { names = slice (from + 1) (list_end kind text from); to = list_end kind text from + 1 }) (byte_ends text place (list_end kind text from) 41 list_ahead (eqb-true (byte text (list_end kind text from)) 41 (first_of (byte text (list_end kind text from) == 41) _ e)) (lit< tt) (λ e. omega (arith, e)))) (no_names text place))
    (choose (NamesEnd text place) (begins_of kind (byte text from)) _ None
    (λ e. some_names text place (record { names = slice from (run_end (further_of kind) text from); to = run_end (further_of kind) text from }) (run_ends (further_of kind) text place from (further_small kind) ahead (begun_run kind text from e).1)) (no_names text place))
  where
    list_ahead : place ≤ list_end kind text from
    list_ahead = omega (arith, ahead, run_ahead (is_listed (further_of kind)) text (from + 1))

map_ends : (text : List ℕ) (place : ℕ) (f : NamesAt → Piece) (o : Option NamesAt) → ((found : NamesAt) → EndsIn text place found.to → PieceEnds text place (f found)) → NamesEnd text place o → OptionEnds text place (option_map f o)
map_ends text place f None of ends = none_ends text place
map_ends text place f (Some found) of ends = piece_ends text place (f found) (of found ends.ends)

limit_ends : (text : List ℕ) (negated : Bool) (n : Names) (place to : ℕ) → EndsIn text place to → PieceEnds text place (limit_with text negated n to)
limit_ends text negated n place to ends =
    let ahead : place ≤ digits_end text (to + 1) = omega (arith, ends.after, run_ahead is_ascii_digit text (to + 1)) in
    choose (PieceEnds text place) ((byte text to == 91) && nat_lt (to + 1) (digits_end text (to + 1)) && (byte text (digits_end text (to + 1)) == 93)) (piece (forms.Fields (record { negated = negated; names = n; positions = Some (slice (to + 1) (digits_end text (to + 1))) })) (digits_end text (to + 1) + 1)) (piece (forms.Fields (record { negated = negated; names = n; positions = None })) to)
    (λ e. record { other = refl; ends = byte_ends text place (digits_end text (to + 1)) 93 ahead (eqb-true (byte text (digits_end text (to + 1))) 93 (last_of (byte text to == 91) (nat_lt (to + 1) (digits_end text (to + 1))) _ e)) (lit< tt) (λ e. omega (arith, e)) }) (record { other = refl; ends = ends })

fields_ends : (text : List ℕ) (negated : Bool) (place from : ℕ) → place ≤ from → OptionEnds text place (fields_from text negated from)
fields_ends text negated place from ahead =
    choose (OptionEnds text place) (byte text from == 42) (Some (limit_with text negated names.All (from + 1))) (option_map (limit_of text negated) (names_at (begins_of kinds.Field) (further_of kinds.Field) text from))
    (λ e. piece_ends text place (limit_with text negated names.All (from + 1)) (limit_ends text negated names.All place (from + 1) (byte_ends text place from 42 ahead (eqb-true (byte text from) 42 e) (lit< tt) (λ e. omega (arith, e)))))
    (map_ends text place (limit_of text negated) (names_at (begins_of kinds.Field) (further_of kinds.Field) text from) (λ found ends. limit_ends text negated (names.Listed found.names) place found.to ends) (names_end kinds.Field text place from ahead))

sign_ends : (text : List ℕ) (place : ℕ) → OptionEnds text place (at_sign_at text place)
sign_ends text place =
    choose (OptionEnds text place) (relaxed_at text place) (Some (piece forms.Relaxed 9)) (fields_at text place) (λ e. some_ends text place (piece forms.Relaxed 9) refl (relaxed e))
    (choose (OptionEnds text place) (byte text (place + 1) == 33) (fields_from text true (place + 2)) (fields_from text false (place + 1)) (λ e. fields_ends text true place (place + 2) (omega arith)) (fields_ends text false place (place + 1) (omega arith)))
  where
    relaxed : relaxed_at text place ≡ true → EndsIn text place 9
    relaxed e =
        let start : place ≡ 0 = eqb-true place 0 (start_of (place == 0) (spells text 0 (codes "@@relaxed")) _ e) in
        let is : spells text 0 (codes "@@relaxed") ≡ true = middle_of (place == 0) (spells text 0 (codes "@@relaxed")) _ e in
        let last : 8 < length text = byte_inside text 8 100 (spells_at text 0 (codes "@@relaxed") 8 (lit< tt) is) (λ e. omega (arith, e)) in
        ends_relaxed text place start (omega (arith, last)) is

zones_ends : (text : List ℕ) (inside : Bool) (place : ℕ) → OptionEnds text place (zones_at text inside place)
zones_ends text inside place =
    choose (OptionEnds text place) (inside || (byte_before text place == 94)) None _ (λ e. none_ends text place)
    (choose (OptionEnds text place) (spells text place (codes "ZONE:")) (option_map (zones_of false) (names_at (begins_of kinds.Zone) (further_of kinds.Zone) text (place + 5))) _ (λ e. map_ends text place (zones_of false) (names_at (begins_of kinds.Zone) (further_of kinds.Zone) text (place + 5)) (λ found ends. record { other = refl; ends = ends }) (names_end kinds.Zone text place (place + 5) (omega arith)))
    (choose (OptionEnds text place) (spells text place (codes "ZONESPAN:")) (option_map (zones_of true) (names_at (begins_of kinds.Zone) (further_of kinds.Zone) text (place + 9))) None (λ e. map_ends text place (zones_of true) (names_at (begins_of kinds.Zone) (further_of kinds.Zone) text (place + 9)) (λ found ends. record { other = refl; ends = ends }) (names_end kinds.Zone text place (place + 9) (omega arith))) (none_ends text place)))

-- ---- operators
before_ends : (text : List ℕ) (place : ℕ) → OptionEnds text place (before_at text place)
before_ends text place =
    let e : place + 1 + 1 ≡ place + 2 = omega arith in
    choose (OptionEnds text place) (byte text (place + 1) == 60) (Some (piece forms.Before (place + 2))) None
    (λ is. some_ends text place (piece forms.Before (place + 2)) refl (subst (EndsIn text place) e (byte_ends text place (place + 1) 60 (omega arith) (eqb-true (byte text (place + 1)) 60 is) (lit< tt) (λ e. omega (arith, e))))) (none_ends text place)

tested : (text : List ℕ) (place : ℕ) (b : Bool) (p : Piece) → is_word p.form ≡ false → EndsIn text place p.to → OptionEnds text place (if b then Some p else None)
tested text place true p other ends = some_ends text place p other ends
tested text place false p other ends = none_ends text place

lettered_ends : (text : List ℕ) (place : ℕ) (word : List ℕ) (form : Form) → is_word form ≡ false → (spells text place word ≡ true → EndsIn text place (place + length word)) → OptionEnds text place (lettered_at text place word form)
lettered_ends text place word form other ends =
    choose (OptionEnds text place) (is_bound (byte_before text place) && spells text place word && is_bound (byte text (place + length word))) (Some (piece form (place + length word))) None
    (λ e. some_ends text place (piece form (place + length word)) other (ends (middle_of (is_bound (byte_before text place)) (spells text place word) _ e))) (none_ends text place)

near_ends : (text : List ℕ) (place : ℕ) → OptionEnds text place (near_at text place)
near_ends text place =
    choose (OptionEnds text place) (is_bound (byte_before text place) && spells text place (codes "NEAR/") && nat_lt (place + 5) (digits_end text (place + 5)) && is_bound (byte text (digits_end text (place + 5)))) (Some (piece (forms.Near (slice (place + 5) (digits_end text (place + 5)))) (digits_end text (place + 5)))) None
    (λ e. some_ends text place (piece (forms.Near (slice (place + 5) (digits_end text (place + 5)))) (digits_end text (place + 5))) refl (digits_ends text place (place + 5) (omega arith) (third_of (is_bound (byte_before text place)) (spells text place (codes "NEAR/")) (nat_lt (place + 5) (digits_end text (place + 5))) _ e))) (none_ends text place)

pub operator_ends : (text : List ℕ) (inside : Bool) (place : ℕ) → place < length text → OptionEnds text place (operator_at text inside place)
unfolding operator_at
operator_ends text inside place within =
    choose (OptionEnds text place) (byte text place == 34) _ _ (λ e. piece_ends text place (quoted_at text place) (quoted_ends text place within))
    (choose (OptionEnds text place) (byte text place == 40) _ _ (λ e. some_ends text place (piece forms.Open (place + 1)) refl (single 40 e (lit< tt) (λ e. omega (arith, e))))
    (choose (OptionEnds text place) (byte text place == 41) _ _ (λ e. some_ends text place (piece forms.Close (place + 1)) refl (single 41 e (lit< tt) (λ e. omega (arith, e))))
    (choose (OptionEnds text place) (byte text place == 124) _ _ (λ e. some_ends text place (piece forms.Or (place + 1)) refl (single 124 e (lit< tt) (λ e. omega (arith, e))))
    (choose (OptionEnds text place) (byte text place == 60) _ _ (λ e. before_ends text place)
    (choose (OptionEnds text place) ((byte text place == 45) || (byte text place == 33)) _ _ (λ e. tested text place _ (piece forms.Not (place + 1)) refl (either e))
    (choose (OptionEnds text place) (byte text place == 64) _ _ (λ e. sign_ends text place)
    (choose (OptionEnds text place) (byte text place == 90) _ _ (λ e. zones_ends text inside place)
    (choose (OptionEnds text place) (byte text place == 77) _ _ (λ e. lettered_ends text place (codes "MAYBE") forms.Maybe refl (λ is. word_ends text place (codes "MAYBE") 4 69 (place + 5) is (lit< tt) refl (lit< tt) (λ e. omega (arith, e)) (omega arith)))
    (choose (OptionEnds text place) (byte text place == 83) _ _ (λ e. lettered_ends text place (codes "SENTENCE") forms.Sentence refl (λ is. word_ends text place (codes "SENTENCE") 7 69 (place + 8) is (lit< tt) refl (lit< tt) (λ e. omega (arith, e)) (omega arith)))
    (choose (OptionEnds text place) (byte text place == 80) _ _ (λ e. lettered_ends text place (codes "PARAGRAPH") forms.Paragraph refl (λ is. word_ends text place (codes "PARAGRAPH") 8 72 (place + 9) is (lit< tt) refl (lit< tt) (λ e. omega (arith, e)) (omega arith)))
    (choose (OptionEnds text place) (byte text place == 78) _ _ (λ e. near_ends text place) (none_ends text place))))))))))))
  where
    single : (b : ℕ) → (byte text place == b) ≡ true → b < 128 → (b ≡ 32 → ⊥) → EndsIn text place (place + 1)
    single b e small other = byte_ends text place place b (omega arith) (eqb-true (byte text place) b e) small other

    either : ((byte text place == 45) || (byte text place == 33)) ≡ true → EndsIn text place (place + 1)
    either = cases (byte text place == 45) refl
      where
        cases : (b : Bool) → (byte text place == 45) ≡ b → (b || (byte text place == 33)) ≡ true → EndsIn text place (place + 1)
        cases true is e = single 45 is (lit< tt) (λ e. omega (arith, e))
        cases false is e = single 33 e (lit< tt) (λ e. omega (arith, e))
