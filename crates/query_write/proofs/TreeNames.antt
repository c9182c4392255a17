-- The names of fields and zones of a schema are of the form that a list of names has.
use Rattle.std.proofs.Common.{arith, ◌≡◌, ◌≢◌, ◌≤◌, ◌/◌, ◌%◌, ◌+◌, ◌*◌, ◌<◌, zero, suc, ℕ, List, [], ◌∷◌, ◌++◌, Bool, true, false, map, refl, ◌∙◌, ap, if◌then◌else◌}
use Rattle.std.specs.Prelude.{All, ◌==◌}
use Rattle.std.specs.List.{flat_map, list_all}
use Rattle.std.proofs.Math.Nat.{div-add-mod, mod-lt}
use Rattle.std.proofs.lemmas.Bool.{both_ways, and_parts, and_from, or_left, or_right}
use Rattle.std.proofs.lemmas.Bool.Decides.{nat_tests}
use Rattle.std.proofs.lemmas.List.Elements.{All-nil, All-cons, All-head, All-tail}
use Rattle.std.proofs.lemmas.List.Folds.{list_all-append}
use Rattle.doc_types.specs.declared.schema.Schema.{Schema}
use Rattle.doc_types.specs.Schemas.{begins_name, goes_on_in_name, is_column_name, IsSchema}
use Rattle.query_pieces.specs.QueryBytes.{begins_field, is_field_byte, begins_zone, is_zone_byte}
use Rattle.query_pieces.specs.Operators.{are_names, is_listed}
use Rattle.query_write.specs.Written.{named, all_fields, name_of}
use Rattle.query_write.specs.steps.Signs.{HaveNames}
use Rattle.query_write.specs.steps.TokenRun.{is_zone_name, IsRightZone}

-- ---- names between commas

-- a name by the tests of its first byte and of the others
abbrev HasForm : (ℕ → Bool) → (ℕ → Bool) → List ℕ → Type 0
HasForm begins further [] = ⊥
HasForm begins further (first ∷ rest) = (begins first ≡ true) × (list_all further rest ≡ true)

module _ (begins further : ℕ → Bool) (no_comma : (b : ℕ) → further b ≡ true → (b == 44) ≡ false) (further_too : (b : ℕ) → begins b ≡ true → further b ≡ true) where
  names_after : (bytes rest : List ℕ) → list_all further bytes ≡ true → are_names begins false (bytes ++ rest) ≡ are_names begins false rest
  names_after [] rest all = refl
  names_after (b ∷ bytes) rest all =
      let both = and_parts (further b) (list_all further bytes) all in
      ap (λ x. if x then are_names begins true (bytes ++ rest) else are_names begins false (bytes ++ rest)) (no_comma b both.0) ∙ names_after bytes rest both.1

  name_first : (name rest : List ℕ) → HasForm begins further name → are_names begins false rest ≡ true → are_names begins true (name ++ rest) ≡ true
  name_first [] rest form h = absurd form
  name_first (b ∷ name) rest form h = and_from (begins b) (are_names begins false (name ++ rest)) form.0 (names_after name rest form.1 ∙ h)

  names_more : (names : List (List ℕ)) → All (HasForm begins further) names → are_names begins false (flat_map (λ next. 44 ∷ next) names) ≡ true
  names_more [] all = refl
  names_more (name ∷ names) all =
      name_first name (flat_map (λ next. 44 ∷ next) names) (All-head (HasForm begins further) name names all) (names_more names (All-tail (HasForm begins further) name names all))

  listed_each : (bytes : List ℕ) → list_all further bytes ≡ true → list_all (is_listed further) bytes ≡ true
  listed_each [] all = refl
  listed_each (b ∷ bytes) all =
      let both = and_parts (further b) (list_all further bytes) all in
      and_from (is_listed further b) (list_all (is_listed further) bytes) (or_left (further b) (b == 44) both.0) (listed_each bytes both.1)

  name_listed : (name : List ℕ) → HasForm begins further name → list_all (is_listed further) name ≡ true
  name_listed [] form = absurd form
  name_listed (b ∷ name) form = listed_each (b ∷ name) (and_from (further b) (list_all further name) (further_too b form.0) form.1)

  joined_listed : (a b : List ℕ) → list_all (is_listed further) a ≡ true → list_all (is_listed further) b ≡ true → list_all (is_listed further) (a ++ b) ≡ true
  joined_listed a b first second = list_all-append (is_listed further) a b ∙ and_from (list_all (is_listed further) a) (list_all (is_listed further) b) first second

  comma_listed : is_listed further 44 ≡ true
  comma_listed = or_right (further 44) true refl

  listed_more : (names : List (List ℕ)) → All (HasForm begins further) names → list_all (is_listed further) (flat_map (λ next. 44 ∷ next) names) ≡ true
  listed_more [] all = refl
  listed_more (name ∷ names) all =
      and_from (is_listed further 44) (list_all (is_listed further) (name ++ flat_map (λ next. 44 ∷ next) names)) comma_listed
      (joined_listed name (flat_map (λ next. 44 ∷ next) names) (name_listed name (All-head (HasForm begins further) name names all)) (listed_more names (All-tail (HasForm begins further) name names all)))

  have_names : (names : List (List ℕ)) → names ≢ [] → All (HasForm begins further) names → HaveNames begins further names
  have_names [] some all = absurd (some refl)
  have_names (name ∷ names) some all =
      let form : HasForm begins further name = All-head (HasForm begins further) name names all in
      let rest : All (HasForm begins further) names = All-tail (HasForm begins further) name names all in (
        name_first name (flat_map (λ next. 44 ∷ next) names) form (names_more names rest),
        joined_listed name (flat_map (λ next. 44 ∷ next) names) (name_listed name form) (listed_more names rest),
      )

-- ---- fields

field_no_comma : (b : ℕ) → is_field_byte b ≡ true → (b == 44) ≡ false
field_no_comma b is = grind (arith, nat_tests)

field_further : (b : ℕ) → begins_field b ≡ true → is_field_byte b ≡ true
field_further b is = grind (arith, nat_tests)

field_begins : (b : ℕ) → begins_name b ≡ true → begins_field b ≡ true
field_begins b is = grind (arith, nat_tests)

field_goes_on : (b : ℕ) → goes_on_in_name b ≡ true → is_field_byte b ≡ true
field_goes_on b is = grind (arith, nat_tests)

fields_go_on : (bytes : List ℕ) → list_all goes_on_in_name bytes ≡ true → list_all is_field_byte bytes ≡ true
fields_go_on [] all = refl
fields_go_on (b ∷ bytes) all =
    let both = and_parts (goes_on_in_name b) (list_all goes_on_in_name bytes) all in
    and_from (is_field_byte b) (list_all is_field_byte bytes) (field_goes_on b both.0) (fields_go_on bytes both.1)

column_form : (name : List ℕ) → is_column_name name ≡ true → HasForm begins_field is_field_byte name
column_form [] is = absurd (both_ways false refl is)
column_form (b ∷ name) is =
    let both = and_parts (begins_name b) (list_all goes_on_in_name name) is in
    (field_begins b both.0, fields_go_on name both.1)

fields_form : (names more : List (List ℕ)) → All (λ name. is_column_name name ≡ true) (names ++ more) → All (HasForm begins_field is_field_byte) names
fields_form [] more all = All-nil (HasForm begins_field is_field_byte)
fields_form (name ∷ names) more all =
    All-cons (HasForm begins_field is_field_byte) name names (column_form name (All-head (λ name. is_column_name name ≡ true) name (names ++ more) all))
    (fields_form names more (All-tail (λ name. is_column_name name ≡ true) name (names ++ more) all))

one_named : (P : List ℕ → Type 0) (name : List ℕ) (rest : List (List ℕ)) (has : Bool) → P name → All P rest → All P (if has then name ∷ rest else rest)
one_named P name rest true first all = All-cons P name rest first all
one_named P name rest false first all = all

named_form : (P : List ℕ → Type 0) (names : List (List ℕ)) (n : ℕ) → All P names → All P (named names n)
named_form P [] n all = All-nil P
named_form P (name ∷ names) n all = one_named P name (named names (n / 2)) (n % 2 == 1) (All-head P name names all) (named_form P names (n / 2) (All-tail P name names all))

bit_zero : (bit : ℕ) → bit < 2 → (bit == 1) ≡ false → bit ≡ 0
bit_zero zero below e = refl
bit_zero (suc zero) below e = absurd (both_ways true e refl)
bit_zero (suc (suc bit)) below e = absurd (omega (arith, below))

not_odd : (n : ℕ) → (n % 2 == 1) ≡ false → n ≢ 0 → n / 2 ≢ 0
not_odd n e some half = some (omega (arith, half, div-add-mod n 2, bit_zero (n % 2) (mod-lt n (omega arith)) e))

some_named : (name : List ℕ) (rest : List (List ℕ)) (has : Bool) → (has ≡ false → rest ≢ []) → (if has then name ∷ rest else rest) ≢ []
some_named name rest true some e = cc
some_named name rest false some e = some refl e

half_within : (n all : ℕ) → n ≤ 1 + 2 * all → n / 2 ≤ all
half_within n all within = omega (arith, within, div-add-mod n 2)

named_some : (names : List (List ℕ)) (n : ℕ) → n ≤ all_fields names → n ≢ 0 → named names n ≢ []
named_some [] n within some = absurd (some (omega (arith, within)))
named_some (name ∷ names) n within some =
    some_named name (named names (n / 2)) (n % 2 == 1) (λ e. named_some names (n / 2) (half_within n (all_fields names) within) (not_odd n e some))

pub field_names : (schema : Schema) (n : ℕ) → IsSchema schema → n ≤ all_fields schema.fields → n ≢ 0 → HaveNames begins_field is_field_byte (named schema.fields n)
field_names schema n is within some =
    have_names begins_field is_field_byte field_no_comma field_further (named schema.fields n) (named_some schema.fields n within some)
    (named_form (HasForm begins_field is_field_byte) schema.fields n (fields_form schema.fields (map (λ attr. attr.0) schema.attrs) is.form))

-- ---- zones

zone_no_comma : (b : ℕ) → is_zone_byte b ≡ true → (b == 44) ≡ false
zone_no_comma b is = grind (arith, nat_tests)

zone_further : (b : ℕ) → begins_zone b ≡ true → is_zone_byte b ≡ true
zone_further b is = grind (arith, nat_tests)

zone_form : (name : List ℕ) → is_zone_name name ≡ true → HasForm begins_zone is_zone_byte name
zone_form [] is = absurd (both_ways false refl is)
zone_form (b ∷ name) is = and_parts (begins_zone b) (list_all is_zone_byte name) is

zones_form : (schema : Schema) (zones : List ℕ) → All (IsRightZone schema) zones → All (HasForm begins_zone is_zone_byte) (map (name_of schema.zones) zones)
zones_form schema [] all = All-nil (HasForm begins_zone is_zone_byte)
zones_form schema (zone ∷ zones) all =
    let right : IsRightZone schema zone = All-head (IsRightZone schema) zone zones all in
    All-cons (HasForm begins_zone is_zone_byte) (name_of schema.zones zone) (map (name_of schema.zones) zones) (zone_form (name_of schema.zones zone) right.1)
    (zones_form schema zones (All-tail (IsRightZone schema) zone zones all))

some_mapped : (schema : Schema) (zones : List ℕ) → zones ≢ [] → map (name_of schema.zones) zones ≢ []
some_mapped schema [] some e = some refl
some_mapped schema (zone ∷ zones) some e = cc

pub zone_names : (schema : Schema) (zones : List ℕ) → zones ≢ [] → All (IsRightZone schema) zones → HaveNames begins_zone is_zone_byte (map (name_of schema.zones) zones)
zone_names schema zones some all =
    have_names begins_zone is_zone_byte zone_no_comma zone_further (map (name_of schema.zones) zones) (some_mapped schema zones some) (zones_form schema zones all)
