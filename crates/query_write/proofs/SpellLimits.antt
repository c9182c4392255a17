-- A limit as it is written is one piece of the text.
use Rattle.std.proofs.Common.{◌≡◌, ◌≢◌, ℕ, ◌+◌, Bool, true, false, eqb, List, [], ◌∷◌, ◌++◌, ◌&&◌, ◌||◌, length, get_or, codes, decimal, slice_range, refl, ap, ap₂, ◌∙◌, subst, arith, append_assoc, length-append}
use Rattle.std.specs.Prelude.{Option, Some, None, if◌then◌else◌, ◌==◌, nat_lt, option_map}
use Rattle.std.specs.Char.{is_ascii_digit}
use Rattle.std.proofs.lemmas.Bool.{and_from, and_left, and_right, or_from, lt-ltb, eqb-true, eqb-false}
use Rattle.query_pieces.specs.declared.piece.Slice.{Slice}
use Rattle.query_pieces.specs.declared.piece.Names.{Names}
use Rattle.query_pieces.specs.declared.piece.Names.TheVariants as names
use Rattle.query_pieces.specs.declared.piece.FieldLimit.{FieldLimit}
use Rattle.query_pieces.specs.declared.piece.Form.TheVariants as forms
use Rattle.query_pieces.specs.declared.piece.Piece.{Piece}
use Rattle.query_pieces.specs.QueryBytes.{byte, byte_before, begins_field, is_field_byte, begins_zone, is_zone_byte, spells, run_end, digits_end}
use Rattle.query_pieces.specs.Operators.{slice, piece, NamesAt, are_names, is_listed, list_at, name_at, names_at, limit_with, limit_of, fields_from, fields_at, relaxed_at, at_sign_at, zones_of, zones_at}
use Rattle.query_write.specs.Written.{parted, named, all_fields, listed, fields_text, positions_text}
use Rattle.query_write.specs.steps.Signs.{AreFields, ArePositions, IsSmall, HaveNames}
use Rattle.query_write.proofs.SpellPlaces.{IsRest, rest_past, rest_next, byte_first, slice_at, spells_is, begins}
use Rattle.query_write.proofs.SpellLetters.{if_true, if_false}
use Rattle.query_write.proofs.SpellOperators.{run_ends, spelled_at}
use Rattle.query_write.proofs.SpellNumbers.{decimal_digits}

-- ---- names between parentheses
-- where names between parentheses end, from their `(` on
abbrev pub names_to : ℕ → List (List ℕ) → ℕ
names_to place list = place + 1 + length (parted 44 list)

abbrev pub names_found : ℕ → List (List ℕ) → NamesAt
names_found place list = record { names = slice (place + 1) (names_to place list); to = names_to place list + 1 }

names_rest : (text : List ℕ) (place : ℕ) (list : List (List ℕ)) (rest : List ℕ) → IsRest text place (listed list ++ rest) → IsRest text (place + 1) (parted 44 list ++ 41 ∷ rest)
names_rest text place list rest at = rest_next text place 40 (parted 44 list ++ 41 ∷ rest) (subst (λ (l : List ℕ). IsRest text place (40 ∷ l)) (append_assoc (parted 44 list) (41 ∷ []) rest) at)

pub names_after : (text : List ℕ) (place : ℕ) (list : List (List ℕ)) (rest : List ℕ) → IsRest text place (listed list ++ rest) → IsRest text (names_to place list + 1) rest
names_after text place list rest at = rest_next text (names_to place list) 41 rest (rest_past text (place + 1) (parted 44 list) (41 ∷ rest) (names_rest text place list rest at))

pub names_bytes : (text : List ℕ) (place : ℕ) (list : List (List ℕ)) (rest : List ℕ) → IsRest text place (listed list ++ rest) → slice_range text (place + 1) (names_to place list) ≡ parted 44 list
names_bytes text place list rest at = slice_at text (place + 1) (names_to place list) (parted 44 list) (41 ∷ rest) refl (names_rest text place list rest at)

-- a list of names that ends at a place
abbrev list_to : (ℕ → Bool) → List ℕ → ℕ → ℕ → Option NamesAt
list_to begins text place to = if (byte text to == 41) && are_names begins true (slice_range text (place + 1) to) then Some (record { names = slice (place + 1) to; to = to + 1 }) else None

pub names_is : (begins further : ℕ → Bool) (text : List ℕ) (place : ℕ) (list : List (List ℕ)) (rest : List ℕ) → HaveNames begins further list → is_listed further 41 ≡ false → IsRest text place (listed list ++ rest) → names_at begins further text place ≡ Some (names_found place list)
names_is begins further text place list rest names stops at =
    let first : (byte text place == 40) ≡ true = ap (λ (b : ℕ). eqb b 40) (byte_first text place (listed list ++ rest) at) in
    let next : IsRest text (place + 1) (parted 44 list ++ 41 ∷ rest) = names_rest text place list rest at in
    let ends : run_end (is_listed further) text (place + 1) ≡ names_to place list = run_ends (is_listed further) text (place + 1) (parted 44 list) (41 ∷ rest) next names.1 stops in
    let close : (byte text (names_to place list) == 41) ≡ true = ap (λ (b : ℕ). eqb b 41) (byte_first text (names_to place list) (41 ∷ rest) (rest_past text (place + 1) (parted 44 list) (41 ∷ rest) next)) in
    let are : are_names begins true (slice_range text (place + 1) (names_to place list)) ≡ true = ap (are_names begins true) (names_bytes text place list rest at) ∙ names.0 in
    if_true (byte text place == 40) (list_at begins further text place) (name_at begins further text place) (Some (names_found place list)) first
    (ap (list_to begins text place) ends
    ∙ if_true ((byte text (names_to place list) == 41) && are_names begins true (slice_range text (place + 1) (names_to place list))) (Some (names_found place list)) None (Some (names_found place list)) (and_from (byte text (names_to place list) == 41) (are_names begins true (slice_range text (place + 1) (names_to place list))) close are) refl)

-- ---- positions
abbrev limit_piece : Bool → Names → Option Slice → ℕ → Piece
limit_piece negated names positions to = piece (forms.Fields (record { negated = negated; names = names; positions = positions })) to

-- a field limit whose digits end at a place
abbrev limit_to : List ℕ → Bool → Names → ℕ → ℕ → Piece
limit_to text negated names to last =
    if (byte text to == 91) && nat_lt (to + 1) last && (byte text last == 93)
    then limit_piece negated names (Some (slice (to + 1) last)) (last + 1)
    else limit_piece negated names None to

-- What `[N]`, where it stands, is read as.
pub record HasPositions (text : List ℕ) (negated : Bool) (names : Names) (to n : ℕ) : Type 0 where
  pub positions : Option Slice
  pub end : ℕ
  pub is : limit_with text negated names to ≡ limit_piece negated names positions end
  pub ends : end ≡ to + length (positions_text n)
  pub reads : ArePositions text positions n

pub positions_are : (text : List ℕ) (negated : Bool) (names : Names) (to n : ℕ) (rest : List ℕ) → IsSmall n → eqb (get_or rest 0 32) 91 ≡ false → IsRest text to (positions_text n ++ rest) → HasPositions text negated names to n
positions_are text negated names to n rest small other = by (n == 65535) refl
  where
    by : (b : Bool) → (n == 65535) ≡ b → IsRest text to ((if b then [] else 91 ∷ (decimal n ++ 93 ∷ [])) ++ rest) → HasPositions text negated names to n
    by true e at =
        let none : (byte text to == 91) ≡ false = ap (λ (b : ℕ). eqb b 91) (byte_first text to rest at) ∙ other in
        record {
          positions = None;
          end = to;
          is = if_false ((byte text to == 91) && nat_lt (to + 1) (digits_end text (to + 1)) && (byte text (digits_end text (to + 1)) == 93)) _ (limit_piece negated names None to) (limit_piece negated names None to) (and_left _ _ (and_left (byte text to == 91) _ none)) refl;
          ends = let size : length (positions_text n) ≡ 0 = ap (λ (b : Bool). length (if b then [] else 91 ∷ (decimal n ++ 93 ∷ []))) e in omega (arith, size);
          reads = eqb-true n 65535 e;
        }
    by false e at =
        let here : IsRest text to (91 ∷ (decimal n ++ 93 ∷ rest)) = subst (λ (l : List ℕ). IsRest text to (91 ∷ l)) (append_assoc (decimal n) (93 ∷ []) rest) at in
        let next : IsRest text (to + 1) (decimal n ++ 93 ∷ rest) = rest_next text to 91 (decimal n ++ 93 ∷ rest) here in
        let last : ℕ = to + 1 + length (decimal n) in
        let digits : digits_end text (to + 1) ≡ last = run_ends is_ascii_digit text (to + 1) (decimal n) (93 ∷ rest) next (decimal_digits n small).are refl in
        let first : (byte text to == 91) ≡ true = ap (λ (b : ℕ). eqb b 91) (byte_first text to (91 ∷ (decimal n ++ 93 ∷ rest)) here) in
        let some : nat_lt (to + 1) last ≡ true = lt-ltb (to + 1) last (omega (arith, (decimal_digits n small).some)) in
        let close : (byte text last == 93) ≡ true = ap (λ (b : ℕ). eqb b 93) (byte_first text last (93 ∷ rest) (rest_past text (to + 1) (decimal n) (93 ∷ rest) next)) in
        let size : length (positions_text n) ≡ length (decimal n) + 2 = ap (λ (b : Bool). length (if b then [] else 91 ∷ (decimal n ++ 93 ∷ []))) e ∙ omega (arith, length-append (decimal n) (93 ∷ [])) in
        record {
          positions = Some (slice (to + 1) last);
          end = last + 1;
          is = ap (limit_to text negated names to) digits
              ∙ if_true ((byte text to == 91) && nat_lt (to + 1) last && (byte text last == 93)) (limit_piece negated names (Some (slice (to + 1) last)) (last + 1)) (limit_piece negated names None to) (limit_piece negated names (Some (slice (to + 1) last)) (last + 1))
              (and_from ((byte text to == 91) && nat_lt (to + 1) last) (byte text last == 93) (and_from (byte text to == 91) (nat_lt (to + 1) last) first some) close) refl;
          ends = omega (arith, size);
          reads = slice_at text (to + 1) last (decimal n) (93 ∷ rest) refl next;
        }

-- ---- the names of a field limit
not_relaxed : (text : List ℕ) (place b : ℕ) (rest : List ℕ) → eqb b 64 ≡ false → IsRest text place (64 ∷ b ∷ rest) → relaxed_at text place ≡ false
not_relaxed text place b rest other at = and_left _ _ (by (place == 0) refl)
  where
    by : (start : Bool) → (place == 0) ≡ start → ((place == 0) && spells text 0 (codes "@@relaxed")) ≡ false
    by false e = and_left (place == 0) (spells text 0 (codes "@@relaxed")) e
    by true e =
        let here : IsRest text 0 (64 ∷ b ∷ rest) = subst (λ (n : ℕ). IsRest text n (64 ∷ b ∷ rest)) (eqb-true place 0 e) at in
        and_right (place == 0) (spells text 0 (codes "@@relaxed")) (spells_is text 0 (codes "@@relaxed") (64 ∷ b ∷ rest) here ∙ and_left (eqb b 64) (begins (codes "relaxed") rest) other)

-- a limit after `@`, or after `@!`
pub fields_is : (text : List ℕ) (place b : ℕ) (rest : List ℕ) → eqb b 64 ≡ false → eqb b 33 ≡ false → IsRest text place (64 ∷ b ∷ rest) → at_sign_at text place ≡ fields_from text false (place + 1)
fields_is text place b rest other first at =
    if_false (relaxed_at text place) (Some (piece forms.Relaxed 9)) (fields_at text place) (fields_from text false (place + 1)) (not_relaxed text place b rest other at)
    (if_false (byte text (place + 1) == 33) (fields_from text true (place + 2)) (fields_from text false (place + 1)) (fields_from text false (place + 1)) (ap (λ (c : ℕ). eqb c 33) (byte_first text (place + 1) (b ∷ rest) (rest_next text place 64 (b ∷ rest) at)) ∙ first) refl)

pub negated_is : (text : List ℕ) (place : ℕ) (rest : List ℕ) → IsRest text place (64 ∷ 33 ∷ rest) → at_sign_at text place ≡ fields_from text true (place + 2)
negated_is text place rest at =
    if_false (relaxed_at text place) (Some (piece forms.Relaxed 9)) (fields_at text place) (fields_from text true (place + 2)) (not_relaxed text place 33 rest refl at)
    (if_true (byte text (place + 1) == 33) (fields_from text true (place + 2)) (fields_from text false (place + 1)) (fields_from text true (place + 2)) (ap (λ (c : ℕ). eqb c 33) (byte_first text (place + 1) (33 ∷ rest) (rest_next text place 64 (33 ∷ rest) at))) refl)

star_is : (text : List ℕ) (negated : Bool) (place : ℕ) (rest : List ℕ) → IsRest text place (42 ∷ rest) → fields_from text negated place ≡ Some (limit_with text negated names.All (place + 1))
star_is text negated place rest at = if_true (byte text place == 42) (Some (limit_with text negated names.All (place + 1))) _ (Some (limit_with text negated names.All (place + 1))) (ap (λ (c : ℕ). eqb c 42) (byte_first text place (42 ∷ rest) at)) refl

listed_is : (text : List ℕ) (place : ℕ) (list : List (List ℕ)) (rest : List ℕ) → HaveNames begins_field is_field_byte list → IsRest text place (listed list ++ rest) → fields_from text false place ≡ Some (limit_with text false (names.Listed (slice (place + 1) (names_to place list))) (names_to place list + 1))
listed_is text place list rest are at =
    if_false (byte text place == 42) (Some (limit_with text false names.All (place + 1))) (option_map (limit_of text false) (names_at begins_field is_field_byte text place)) (Some (limit_with text false (names.Listed (slice (place + 1) (names_to place list))) (names_to place list + 1))) (ap (λ (c : ℕ). eqb c 42) (byte_first text place (listed list ++ rest) at))
    (ap (option_map (limit_of text false)) (names_is begins_field is_field_byte text place list rest are refl at))

-- ---- field limits
-- What a field limit is read as.
pub record ReadsFields (fields : List (List ℕ)) (text : List ℕ) (place n positions : ℕ) : Type 0 where
  pub limit : FieldLimit
  pub to : ℕ
  pub is : at_sign_at text place ≡ Some (piece (forms.Fields limit) to)
  pub ends : to ≡ place + 1 + length (fields_text fields n ++ positions_text positions)
  pub fields_are : AreFields fields text limit.negated limit.names n
  pub positions_are : ArePositions text limit.positions positions

limit_reads : (fields : List (List ℕ)) (text : List ℕ) (place n positions : ℕ) (negated : Bool) (names : Names) (to : ℕ) (front rest : List ℕ) → fields_text fields n ≡ front → to ≡ place + 1 + length front → IsSmall positions → eqb (get_or rest 0 32) 91 ≡ false → AreFields fields text negated names n → at_sign_at text place ≡ Some (limit_with text negated names to) → IsRest text to (positions_text positions ++ rest) → ReadsFields fields text place n positions
limit_reads fields text place n positions negated names to front rest front_is e small other are is at =
    let p : HasPositions text negated names to positions = positions_are text negated names to positions rest small other at in
    record {
      limit = record { negated = negated; names = names; positions = p.positions };
      to = p.end;
      is = is ∙ ap (λ (q : Piece). Some q) p.is;
      ends = omega (arith, p.ends, e, ap length front_is, length-append (fields_text fields n) (positions_text positions));
      fields_are = are;
      positions_are = p.reads;
    }

pub fields_read : (fields : List (List ℕ)) (text : List ℕ) (place n positions : ℕ) (rest : List ℕ) → ((n ≢ all_fields fields) → (n ≢ 0) → HaveNames begins_field is_field_byte (named fields n)) → IsSmall positions → eqb (get_or rest 0 32) 91 ≡ false → IsRest text place (64 ∷ (fields_text fields n ++ (positions_text positions ++ rest))) → ReadsFields fields text place n positions
fields_read fields text place n positions rest are small other = by (n == all_fields fields) (n == 0) refl refl
  where
    by : (all none : Bool) → (n == all_fields fields) ≡ all → (n == 0) ≡ none → IsRest text place (64 ∷ ((if all then codes "*" else if none then codes "!*" else listed (named fields n)) ++ (positions_text positions ++ rest))) → ReadsFields fields text place n positions
    by true none e f at =
        let more : List ℕ = positions_text positions ++ rest in
        let next : IsRest text (place + 1) (42 ∷ more) = rest_next text place 64 (42 ∷ more) at in
        limit_reads fields text place n positions false names.All (place + 1 + 1) (codes "*") rest (ap (λ (b : Bool). if b then codes "*" else if n == 0 then codes "!*" else listed (named fields n)) e) refl small other (eqb-true n (all_fields fields) e)
        (fields_is text place 42 more refl refl at ∙ star_is text false (place + 1) more next) (rest_next text (place + 1) 42 more next)
    by false true e f at =
        let more : List ℕ = positions_text positions ++ rest in
        let next : IsRest text (place + 2) (42 ∷ more) = rest_past text place (64 ∷ 33 ∷ []) (42 ∷ more) at in
        limit_reads fields text place n positions true names.All (place + 2 + 1) (codes "!*") rest (ap₂ (λ (b c : Bool). if b then codes "*" else if c then codes "!*" else listed (named fields n)) e f) (omega arith) small other (eqb-true n 0 f)
        (negated_is text place (42 ∷ more) at ∙ star_is text true (place + 2) more next) (rest_next text (place + 2) 42 more next)
    by false false e f at =
        let more : List ℕ = positions_text positions ++ rest in
        let list : List (List ℕ) = named fields n in
        let next : IsRest text (place + 1) (listed list ++ more) = rest_next text place 64 (listed list ++ more) at in
        limit_reads fields text place n positions false (names.Listed (slice (place + 1 + 1) (names_to (place + 1) list))) (names_to (place + 1) list + 1) (listed list) rest (ap₂ (λ (b c : Bool). if b then codes "*" else if c then codes "!*" else listed list) e f) (omega (arith, length-append (parted 44 list) (41 ∷ []))) small other
        (eqb-false n 0 f, names_bytes text (place + 1) list more next)
        (fields_is text place 40 (parted 44 list ++ 41 ∷ [] ++ more) refl refl at ∙ listed_is text (place + 1) list more (are (eqb-false n (all_fields fields) e) (eqb-false n 0 f)) next) (names_after text (place + 1) list more next)

-- ---- zone limits
zones_is : (text : List ℕ) (inside : Bool) (place : ℕ) → inside ≡ false → (byte_before text place == 94) ≡ false → (inside || (byte_before text place == 94)) ≡ false
zones_is text inside place first last = or_from inside (byte_before text place == 94) first last

pub zone_is : (text : List ℕ) (inside : Bool) (place : ℕ) (list : List (List ℕ)) (rest : List ℕ) → HaveNames begins_zone is_zone_byte list → inside ≡ false → (byte_before text place == 94) ≡ false → IsRest text place (codes "ZONE:" ++ (listed list ++ rest)) → zones_at text inside place ≡ Some (zones_of false (names_found (place + 5) list))
zone_is text inside place list rest names outside before at =
    if_false (inside || (byte_before text place == 94)) None _ (Some (zones_of false (names_found (place + 5) list))) (zones_is text inside place outside before)
    (if_true (spells text place (codes "ZONE:")) (option_map (zones_of false) (names_at begins_zone is_zone_byte text (place + 5))) _ (Some (zones_of false (names_found (place + 5) list))) (spelled_at text place (codes "ZONE:") (listed list ++ rest) at)
    (ap (option_map (zones_of false)) (names_is begins_zone is_zone_byte text (place + 5) list rest names refl (rest_past text place (codes "ZONE:") (listed list ++ rest) at))))

pub span_is : (text : List ℕ) (inside : Bool) (place : ℕ) (list : List (List ℕ)) (rest : List ℕ) → HaveNames begins_zone is_zone_byte list → inside ≡ false → (byte_before text place == 94) ≡ false → IsRest text place (codes "ZONESPAN:" ++ (listed list ++ rest)) → zones_at text inside place ≡ Some (zones_of true (names_found (place + 9) list))
span_is text inside place list rest names outside before at =
    if_false (inside || (byte_before text place == 94)) None _ (Some (zones_of true (names_found (place + 9) list))) (zones_is text inside place outside before)
    (if_false (spells text place (codes "ZONE:")) (option_map (zones_of false) (names_at begins_zone is_zone_byte text (place + 5))) _ (Some (zones_of true (names_found (place + 9) list))) (spells_is text place (codes "ZONE:") (codes "ZONESPAN:" ++ (listed list ++ rest)) at)
    (if_true (spells text place (codes "ZONESPAN:")) (option_map (zones_of true) (names_at begins_zone is_zone_byte text (place + 9))) None (Some (zones_of true (names_found (place + 9) list))) (spelled_at text place (codes "ZONESPAN:") (listed list ++ rest) at)
    (ap (option_map (zones_of true)) (names_is begins_zone is_zone_byte text (place + 9) list rest names refl (rest_past text place (codes "ZONESPAN:") (listed list ++ rest) at)))))
