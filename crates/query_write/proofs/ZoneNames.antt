-- The names of a zone limit of a text are of the form of zones' names.
use Rattle.std.proofs.Common.{◌≡◌, ℕ, zero, suc, ◌+◌, ◌-◌, Bool, true, false, cond, List, [], ◌∷◌, ◌&&◌, ◌||◌, length, get_or, take, drop, refl, sym, ap, ◌∙◌, subst, arith}
use Rattle.std.specs.Prelude.{Option, Some, None, MatchOption, Contains, ◌==◌, if◌then◌else◌, codes, nat_lt, slice_range}
use Rattle.std.specs.List.{list_all, prefix_len, slice_split, onto_first}
use Rattle.std.specs.Option.{option_map}
use Rattle.std.proofs.lemmas.Bool.{both_ways, and_parts, and_from}
use Rattle.std.proofs.lemmas.List.Splits.{slice_split_none}
use Rattle.query_pieces.specs.declared.piece.Names.{Names}
use Rattle.query_pieces.specs.declared.piece.Names.TheVariants as names
use Rattle.query_pieces.specs.declared.piece.ZoneLimit.{ZoneLimit}
use Rattle.query_pieces.specs.declared.piece.Form.{Form}
use Rattle.query_pieces.specs.declared.piece.Form.TheVariants as forms
use Rattle.query_pieces.specs.declared.piece.Piece.{Piece}
use Rattle.query_pieces.specs.QueryBytes.{byte, byte_before, begins_field, is_field_byte, begins_zone, is_zone_byte, spells, run_end, digits_end}
use Rattle.query_pieces.specs.Operators.{piece, slice, NamesAt, operator_at, limit_with, limit_of, fields_from, fields_at, names_at, list_at, name_at, is_listed, are_names, relaxed_at, at_sign_at, zones_of, zones_at, quoted_at, quote_end, number_at}
use Rattle.query_pieces.specs.Letters.{Alphabet, Letter, letter_at}
use Rattle.query_pieces.specs.Pieces.{IsWord, IsPlain, Stands, after_start, separator_at}
use Rattle.query_marks.specs.LimitNames.{bytes_of, names_in}
use Rattle.query_write.specs.steps.TokenRun.{is_zone_name}
use Rattle.query_write.proofs.SpellPlaces.{byte_first}
use Rattle.query_write.proofs.SpellSigns.{apart}
use Rattle.query_write.proofs.TokenNames.{has_none, zone_byte, zone_no_comma}

-- the names between the commas of some bytes are of the form of zones' names
abbrev pub HasZoneNames : List ℕ → Type 0
HasZoneNames bytes = (name : List ℕ) → Contains (names_in bytes) name → is_zone_name name ≡ true

-- ---- names between commas
-- The parts of bytes that are names, or that go on with a name.
abbrev AreParts : Bool → List (List ℕ) → Type 0
AreParts fresh [] = ⊥
AreParts true (part ∷ parts) = (is_zone_name part ≡ true) × ((name : List ℕ) → Contains parts name → is_zone_name name ≡ true)
AreParts false (part ∷ parts) = (list_all is_zone_byte part ≡ true) × ((name : List ℕ) → Contains parts name → is_zone_name name ≡ true)

each_part : (parts : List (List ℕ)) → AreParts true parts → (name : List ℕ) → Contains parts name → is_zone_name name ≡ true
each_part [] are name has = absurd are
each_part (part ∷ parts) are name (zero, within, at) = subst (λ (n : List ℕ). is_zone_name n ≡ true) at are.0
each_part (part ∷ parts) are name (suc k, within, at) = are.1 name (k, omega (arith, within), at)

-- the parts with a byte before the first, or with a comma before them
abbrev split_on : ℕ → Bool → List (List ℕ) → List (List ℕ)
split_on b comma parts = cond comma ([] ∷ parts) (onto_first b parts)

begun_parts : (b : ℕ) (parts : List (List ℕ)) → begins_zone b ≡ true → AreParts false parts → AreParts true (split_on b (b == 44) parts)
begun_parts b [] begins are = absurd are
begun_parts b (part ∷ parts) begins are =
    subst (λ (comma : Bool). AreParts true (split_on b comma (part ∷ parts))) (sym (apart begins_zone b 44 begins refl)) (and_from (begins_zone b) (list_all is_zone_byte part) begins are.0, are.1)

grown_parts : (b : ℕ) (parts : List (List ℕ)) → is_zone_byte b ≡ true → AreParts false parts → AreParts false (onto_first b parts)
grown_parts b [] is are = absurd are
grown_parts b (part ∷ parts) is are = (and_from (is_zone_byte b) (list_all is_zone_byte part) is are.0, are.1)

first_holds : (a b : Bool) → b ≡ false → (a || b) ≡ true → a ≡ true
first_holds true b e is = refl
first_holds false b e is = absurd (both_ways b e is)

next_parts : (b : ℕ) (parts : List (List ℕ)) (comma fresh going : Bool) → (b == 44) ≡ comma → is_listed is_zone_byte b ≡ true → (fresh ≡ true → AreParts true parts) → (going ≡ true → AreParts false parts) → (if comma then fresh else going) ≡ true → AreParts false (split_on b comma parts)
next_parts b parts true fresh going e listed of_fresh of_going are = (refl, each_part parts (of_fresh are))
next_parts b parts false fresh going e listed of_fresh of_going are = grown_parts b parts (first_holds (is_zone_byte b) (b == 44) e listed) (of_going are)

split_parts : (fresh : Bool) (bytes : List ℕ) → are_names begins_zone fresh bytes ≡ true → list_all (is_listed is_zone_byte) bytes ≡ true → AreParts fresh (slice_split (λ b. b == 44) bytes)
split_parts true [] are listed = absurd (both_ways false refl are)
split_parts false [] are listed = (refl, λ name has. absurd (has_none name has))
split_parts true (b ∷ bytes) are listed =
    let both = and_parts (begins_zone b) (are_names begins_zone false bytes) are in
    let next = and_parts (is_listed is_zone_byte b) (list_all (is_listed is_zone_byte) bytes) listed in
    begun_parts b (slice_split (λ b. b == 44) bytes) both.0 (split_parts false bytes both.1 next.1)
split_parts false (b ∷ bytes) are listed =
    let next = and_parts (is_listed is_zone_byte b) (list_all (is_listed is_zone_byte) bytes) listed in
    next_parts b (slice_split (λ b. b == 44) bytes) (b == 44) (are_names begins_zone true bytes) (are_names begins_zone false bytes) refl next.0
    (λ fresh. split_parts true bytes fresh next.1) (λ going. split_parts false bytes going next.1) are

listed_names : (bytes : List ℕ) → are_names begins_zone true bytes ≡ true → list_all (is_listed is_zone_byte) bytes ≡ true → HasZoneNames bytes
listed_names bytes are listed = each_part (slice_split (λ b. b == 44) bytes) (split_parts true bytes are listed)

one_name : (bytes : List ℕ) → is_zone_name bytes ≡ true → HasZoneNames bytes
one_name bytes is = λ name has. by name (subst (λ (list : List (List ℕ)). Contains list name) (slice_split_none (λ b. b == 44) bytes (zone_no_comma bytes is)) has)
  where
    by : (name : List ℕ) → Contains (bytes ∷ []) name → is_zone_name name ≡ true
    by name (zero, within, at) = subst (λ (n : List ℕ). is_zone_name n ≡ true) at is
    by name (suc k, within, at) = absurd (omega (arith, within))

-- ---- runs of bytes
run_slice : (test : ℕ → Bool) (text : List ℕ) (place : ℕ) → slice_range text place (run_end test text place) ≡ take (prefix_len test (drop place text)) (drop place text)
unfolding run_end
run_slice test text place = ap (λ (n : ℕ). take n (drop place text)) (size (prefix_len test (drop place text)))
  where
    size : (n : ℕ) → place + n - place ≡ n
    size n = omega arith

one_more : (n : ℕ) → suc n ≡ 1 + n
one_more n = omega arith

taken_pass : (test : ℕ → Bool) (list : List ℕ) → list_all test (take (prefix_len test list) list) ≡ true
taken_pass test [] = refl
taken_pass test (x ∷ list) = by (test x) refl (taken_pass test list)
  where
    by : (b : Bool) → test x ≡ b → list_all test (take (prefix_len test list) list) ≡ true → list_all test (take (cond b (1 + prefix_len test list) 0) (x ∷ list)) ≡ true
    by true e rest = subst (λ (n : ℕ). list_all test (take n (x ∷ list)) ≡ true) (one_more (prefix_len test list)) (and_from (test x) (list_all test (take (prefix_len test list) list)) e rest)
    by false e rest = refl

run_passes : (test : ℕ → Bool) (text : List ℕ) (place : ℕ) → list_all test (slice_range text place (run_end test text place)) ≡ true
run_passes test text place = ap (list_all test) (run_slice test text place) ∙ taken_pass test (drop place text)

taken_name : (list : List ℕ) → begins_zone (get_or list 0 32) ≡ true → is_zone_name (take (prefix_len is_zone_byte list) list) ≡ true
taken_name [] begins = absurd (both_ways (begins_zone 32) refl begins)
taken_name (b ∷ list) begins =
    ap (λ (t : Bool). is_zone_name (take (cond t (1 + prefix_len is_zone_byte list) 0) (b ∷ list))) (zone_byte b begins)
    ∙ subst (λ (n : ℕ). is_zone_name (take n (b ∷ list)) ≡ true) (one_more (prefix_len is_zone_byte list)) (and_from (begins_zone b) (list_all is_zone_byte (take (prefix_len is_zone_byte list) list)) begins (taken_pass is_zone_byte list))

run_name : (text : List ℕ) (place : ℕ) → begins_zone (byte text place) ≡ true → is_zone_name (slice_range text place (run_end is_zone_byte text place)) ≡ true
run_name text place begins =
    ap is_zone_name (run_slice is_zone_byte text place) ∙ taken_name (drop place text) (sym (ap begins_zone (byte_first text place (drop place text) (record { is = refl }))) ∙ begins)

-- ---- the piece
-- of one of two choices
choose : {X : Type 0} (P : X → Type 0) (b : Bool) (x y : X) → (b ≡ true → P x) → P y → P (if b then x else y)
choose P true x y left right = left refl
choose P false x y left right = right

record NamesNamed (text : List ℕ) (o : Option NamesAt) : Type 0 where
  named : MatchOption o (Unit {0}) (λ found. HasZoneNames (bytes_of text found.names))

no_names : (text : List ℕ) → NamesNamed text None
no_names text = record { named = tt }

some_names : (text : List ℕ) (found : NamesAt) → HasZoneNames (bytes_of text found.names) → NamesNamed text (Some found)
some_names text found are = record { named = are }

names_named : (text : List ℕ) (place : ℕ) → NamesNamed text (names_at begins_zone is_zone_byte text place)
names_named text place =
    choose (NamesNamed text) (byte text place == 40) (list_at begins_zone is_zone_byte text place) (name_at begins_zone is_zone_byte text place)
    (λ e. choose (NamesNamed text) ((byte text to == 41) && are_names begins_zone true (slice_range text (place + 1) to)) _ None
    (λ e. some_names text (record { names = slice (place + 1) to; to = to + 1 }) (listed_names (slice_range text (place + 1) to) (and_parts (byte text to == 41) (are_names begins_zone true (slice_range text (place + 1) to)) e).1 (run_passes (is_listed is_zone_byte) text (place + 1)))) (no_names text))
    (choose (NamesNamed text) (begins_zone (byte text place)) _ None
    (λ e. some_names text (record { names = slice place (run_end is_zone_byte text place); to = run_end is_zone_byte text place }) (one_name (slice_range text place (run_end is_zone_byte text place)) (run_name text place e))) (no_names text))
  where
    to : ℕ
    to = run_end (is_listed is_zone_byte) text (place + 1)

abbrev is_zones : Form → Bool
is_zones (forms.Zones limit) = true
is_zones _ = false

-- a piece that is a zone limit has names of the form
record ZonesNamed (text : List ℕ) (o : Option Piece) : Type 0 where
  named : MatchOption o (Unit {0}) (λ p. (limit : ZoneLimit) → p.form ≡ forms.Zones limit → HasZoneNames (bytes_of text limit.names))

no_piece : (text : List ℕ) → ZonesNamed text None
no_piece text = record { named = tt }

other_piece : (text : List ℕ) (p : Piece) → is_zones p.form ≡ false → ZonesNamed text (Some p)
other_piece text p other = record { named = λ limit form. absurd (both_ways (is_zones p.form) other (ap is_zones form)) }

tested_piece : (text : List ℕ) (b : Bool) (p : Piece) → is_zones p.form ≡ false → ZonesNamed text (if b then Some p else None)
tested_piece text true p other = other_piece text p other
tested_piece text false p other = no_piece text

quoted_other : (text : List ℕ) (place : ℕ) → is_zones (quoted_at text place).form ≡ false
quoted_other text place =
    choose (λ (p : Piece). is_zones p.form ≡ false) (nat_lt (quote_end text (place + 1)) (length text)) (piece (forms.Quoted (record { inside = slice (place + 1) (quote_end text (place + 1)); number = (number_at text (quote_end text (place + 1) + 1)).number })) (number_at text (quote_end text (place + 1) + 1)).to) (piece forms.Unclosed (length text)) (λ e. refl) refl

limit_other : (text : List ℕ) (negated : Bool) (n : Names) (to : ℕ) → is_zones (limit_with text negated n to).form ≡ false
limit_other text negated n to =
    choose (λ (p : Piece). is_zones p.form ≡ false) ((byte text to == 91) && nat_lt (to + 1) (digits_end text (to + 1)) && (byte text (digits_end text (to + 1)) == 93)) (piece (forms.Fields (record { negated = negated; names = n; positions = Some (slice (to + 1) (digits_end text (to + 1))) })) (digits_end text (to + 1) + 1)) (piece (forms.Fields (record { negated = negated; names = n; positions = None })) to) (λ e. refl) refl

mapped_limit : (text : List ℕ) (negated : Bool) (o : Option NamesAt) → ZonesNamed text (option_map (limit_of text negated) o)
mapped_limit text negated None = no_piece text
mapped_limit text negated (Some found) = other_piece text (limit_of text negated found) (limit_other text negated (names.Listed found.names) found.to)

fields_other : (text : List ℕ) (negated : Bool) (place : ℕ) → ZonesNamed text (fields_from text negated place)
fields_other text negated place =
    choose (ZonesNamed text) (byte text place == 42) (Some (limit_with text negated names.All (place + 1))) (option_map (limit_of text negated) (names_at begins_field is_field_byte text place))
    (λ e. other_piece text (limit_with text negated names.All (place + 1)) (limit_other text negated names.All (place + 1))) (mapped_limit text negated (names_at begins_field is_field_byte text place))

sign_other : (text : List ℕ) (place : ℕ) → ZonesNamed text (at_sign_at text place)
sign_other text place =
    choose (ZonesNamed text) (relaxed_at text place) (Some (piece forms.Relaxed 9)) (fields_at text place) (λ e. other_piece text (piece forms.Relaxed 9) refl)
    (choose (ZonesNamed text) (byte text (place + 1) == 33) (fields_from text true (place + 2)) (fields_from text false (place + 1)) (λ e. fields_other text true (place + 2)) (fields_other text false (place + 1)))

mapped_zones : (text : List ℕ) (span : Bool) (o : Option NamesAt) → NamesNamed text o → ZonesNamed text (option_map (zones_of span) o)
mapped_zones text span None are = no_piece text
mapped_zones text span (Some found) are = record {
  named = λ limit form. subst (λ (l : ZoneLimit). HasZoneNames (bytes_of text l.names)) (ap limit_in form) are.named;
}
  where
    limit_in : Form → ZoneLimit
    limit_in (forms.Zones limit) = limit
    limit_in _ = record { span = span; names = found.names }

zones_named : (text : List ℕ) (inside : Bool) (place : ℕ) → ZonesNamed text (zones_at text inside place)
zones_named text inside place =
    choose (ZonesNamed text) (inside || (byte_before text place == 94)) None _ (λ e. no_piece text)
    (choose (ZonesNamed text) (spells text place (codes "ZONE:")) (option_map (zones_of false) (names_at begins_zone is_zone_byte text (place + 5))) _ (λ e. mapped_zones text false (names_at begins_zone is_zone_byte text (place + 5)) (names_named text (place + 5)))
    (choose (ZonesNamed text) (spells text place (codes "ZONESPAN:")) (option_map (zones_of true) (names_at begins_zone is_zone_byte text (place + 9))) None (λ e. mapped_zones text true (names_at begins_zone is_zone_byte text (place + 9)) (names_named text (place + 9))) (no_piece text)))

operator_named : (text : List ℕ) (inside : Bool) (place : ℕ) → ZonesNamed text (operator_at text inside place)
unfolding operator_at
operator_named text inside place =
    choose (ZonesNamed text) (byte text place == 34) _ _ (λ e. other_piece text (quoted_at text place) (quoted_other text place))
    (choose (ZonesNamed text) (byte text place == 40) _ _ (λ e. other_piece text (piece forms.Open (place + 1)) refl)
    (choose (ZonesNamed text) (byte text place == 41) _ _ (λ e. other_piece text (piece forms.Close (place + 1)) refl)
    (choose (ZonesNamed text) (byte text place == 124) _ _ (λ e. other_piece text (piece forms.Or (place + 1)) refl)
    (choose (ZonesNamed text) (byte text place == 60) _ _ (λ e. tested_piece text _ (piece forms.Before (place + 2)) refl)
    (choose (ZonesNamed text) ((byte text place == 45) || (byte text place == 33)) _ _ (λ e. tested_piece text _ (piece forms.Not (place + 1)) refl)
    (choose (ZonesNamed text) (byte text place == 64) _ _ (λ e. sign_other text place)
    (choose (ZonesNamed text) (byte text place == 90) _ _ (λ e. zones_named text inside place)
    (choose (ZonesNamed text) (byte text place == 77) _ _ (λ e. tested_piece text _ (piece forms.Maybe (place + 5)) refl)
    (choose (ZonesNamed text) (byte text place == 83) _ _ (λ e. tested_piece text _ (piece forms.Sentence (place + 8)) refl)
    (choose (ZonesNamed text) (byte text place == 80) _ _ (λ e. tested_piece text _ (piece forms.Paragraph (place + 9)) refl)
    (choose (ZonesNamed text) (byte text place == 78) _ _ (λ e. tested_piece text _ (piece (forms.Near (slice (place + 5) (digits_end text (place + 5)))) (digits_end text (place + 5))) refl) (no_piece text))))))))))))

plain_other : (alphabet : Alphabet) (text : List ℕ) (place : ℕ) (p : Piece) (o : Option Letter) → MatchOption o (p ≡ separator_at text place) (λ letter. IsWord alphabet text place p) → is_zones p.form ≡ false
plain_other alphabet text place p None is = ap (λ (q : Piece). is_zones q.form) is
plain_other alphabet text place p (Some letter) word = ap (λ (q : Piece). is_zones q.form) word.is

pub zone_names : (alphabet : Alphabet) (text : List ℕ) (inside : Bool) (place : ℕ) (p : Piece) (limit : ZoneLimit) → Stands alphabet text inside place p → p.form ≡ forms.Zones limit → HasZoneNames (bytes_of text limit.names)
zone_names alphabet text inside place p limit stands form = by (operator_at text inside place) (operator_named text inside place) stands
  where
    by : (o : Option Piece) → ZonesNamed text o → MatchOption o (IsPlain alphabet text place p) (λ operator. p ≡ operator) → HasZoneNames (bytes_of text limit.names)
    by None are plain = absurd (both_ways (is_zones p.form) (plain_other alphabet text place p (letter_at alphabet text false (after_start text place)) plain) (ap is_zones form))
    by (Some operator) are is = are.named limit (sym (ap (λ (q : Piece). q.form) is) ∙ form)
