-- Where nothing is wrong with the names of a zone limit, their numbers are those of zones that can be written.
use Rattle.std.proofs.Common.{◌≡◌, ◌≢◌, ⊎_elim, ℕ, zero, suc, ◌+◌, ◌<◌, Bool, true, false, cond, List, [], ◌∷◌, ◌||◌, not, length, map, refl, sym, ap, ◌∙◌, subst, arith, All}
use Rattle.std.specs.Prelude.{Option, Some, None, Contains, ◌==◌, if◌then◌else◌, nat_le, nat_lt, find}
use Rattle.std.specs.Char.{to_ascii_lowercase}
use Rattle.std.specs.List.{list_all, list_any}
use Rattle.std.specs.Str.{str_to_ascii_lowercase}
use Rattle.std.proofs.lemmas.Bool.{both_ways, and_parts, and_from, and_cases, or_parts, not-false}
use Rattle.std.proofs.lemmas.Bool.Decides.{nat_tests}
use Rattle.std.proofs.lemmas.List.{length-map}
use Rattle.std.proofs.lemmas.List.Elements.{All-nil, All-cons}
use Rattle.std.proofs.lemmas.List.Splits.{length-slice_split}
use Rattle.std.proofs.lemmas.Slice.Eq.{bytes_eq-Decides}
use Rattle.doc_types.specs.declared.schema.Schema.{Schema}
use Rattle.doc_types.specs.declared.schema.TheConstants.{MAX_NAME_BYTES}
use Rattle.doc_types.specs.Schemas.{IsName, IsSchema}
use Rattle.query_pieces.specs.QueryBytes.{begins_zone, is_zone_byte}
use Rattle.query_marks.specs.declared.fault.QueryKind.TheVariants as kinds
use Rattle.query_marks.specs.LimitNames.{names_in, is_same, is_known, is_long, is_unknown, first_unknown, has_long, place_of, numbers_of}
use Rattle.query_marks.specs.Marks.{nameless, unknown_or, wrong_zones}
use Rattle.query_write.specs.Written.{name_of}
use Rattle.query_write.specs.steps.TokenRun.{is_zone_name, IsRightZone, AreRightZones}
use Rattle.query_write.proofs.TokenNames.{has_none, has_first, has_later, has_each, small_name}
use Rattle.query_write.proofs.TokenFields.{name_contained}
use Rattle.query_write.proofs.ZoneNames.{HasZoneNames}

-- ---- lists in which a test finds nothing
none_found : {X : Type 0} (test : X → Bool) (list : List X) → find test list ≡ None → (x : X) → Contains list x → test x ≡ false
none_found test [] e x has = absurd (has_none x has)
none_found test (y ∷ list) e x has = by (test y) refl e has (none_found test list)
  where
    by : (b : Bool) → test y ≡ b → cond b (Some y) (find test list) ≡ None → Contains (y ∷ list) x → (find test list ≡ None → (x : _) → Contains list x → test x ≡ false) → test x ≡ false
    by true is e has rest = cc
    by false is e (zero, within, at) rest = ap test (sym at) ∙ is
    by false is e (suc k, within, at) rest = rest e x (k, omega (arith, within), at)

none_passes : {X : Type 0} (test : X → Bool) (list : List X) → list_any test list ≡ false → (x : X) → Contains list x → test x ≡ false
none_passes test [] e x has = absurd (has_none x has)
none_passes test (y ∷ list) e x (zero, within, at) = ap test (sym at) ∙ (or_parts (test y) (list_any test list) e).0
none_passes test (y ∷ list) e x (suc k, within, at) = none_passes test list (or_parts (test y) (list_any test list) e).1 x (k, omega (arith, within), at)

all_mapped : {X Y : Type 0} (f : X → Y) (P : Y → Type 0) (list : List X) → ((x : X) → Contains list x → P (f x)) → All P (map f list)
all_mapped f P [] each = All-nil P
all_mapped f P (x ∷ list) each = All-cons P (f x) (map f list) (each x (has_first x list)) (all_mapped f P list (λ y has. each y (has_later x list y has)))

-- ---- names in small letters
small_begins : (b : ℕ) → begins_zone b ≡ true → begins_zone (to_ascii_lowercase b) ≡ true
small_begins b is = grind (arith, nat_tests)

small_further : (b : ℕ) → is_zone_byte b ≡ true → is_zone_byte (to_ascii_lowercase b) ≡ true
small_further b is = grind (arith, nat_tests)

small_bytes : (bytes : List ℕ) → list_all is_zone_byte bytes ≡ true → list_all is_zone_byte (str_to_ascii_lowercase bytes) ≡ true
small_bytes [] are = refl
small_bytes (b ∷ bytes) are =
    let both = and_parts (is_zone_byte b) (list_all is_zone_byte bytes) are in
    and_from (is_zone_byte (to_ascii_lowercase b)) (list_all is_zone_byte (str_to_ascii_lowercase bytes)) (small_further b both.0) (small_bytes bytes both.1)

small_zone_name : (name : List ℕ) → is_zone_name name ≡ true → is_zone_name (str_to_ascii_lowercase name) ≡ true
small_zone_name [] is = is
small_zone_name (b ∷ name) is =
    let both = and_parts (begins_zone b) (list_all is_zone_byte name) is in
    and_from (begins_zone (to_ascii_lowercase b)) (list_all is_zone_byte (str_to_ascii_lowercase name)) (small_begins b both.0) (small_bytes name both.1)

-- a name of a schema that is the same as a zone's name is one too
same_zone_name : (name known : List ℕ) → IsName known → is_same name known ≡ true → is_zone_name name ≡ true → is_zone_name known ≡ true
same_zone_name name known known_is same is =
    let e : str_to_ascii_lowercase name ≡ known = (bytes_eq-Decides (str_to_ascii_lowercase name) (str_to_ascii_lowercase known)).0 same ∙ small_name known known_is.small in
    subst (λ (n : List ℕ). is_zone_name n ≡ true) e (small_zone_name name is)

-- ---- names that are known
one_more : (n : ℕ) → suc n ≡ 1 + n
one_more n = omega arith

-- the number of a known name is that of the first name which is the same
record IsPlace (zones : List (List ℕ)) (name : List ℕ) (place : ℕ) : Type 0 where
  below : place < length zones
  same : is_same name (name_of zones place) ≡ true

place_known : (zones : List (List ℕ)) (name : List ℕ) → is_known zones name ≡ true → IsPlace zones name (place_of zones name)
place_known [] name known = absurd (both_ways false refl known)
place_known (zone ∷ zones) name known = by (is_same name zone) refl known (place_known zones name)
  where
    later : IsPlace zones name (place_of zones name) → IsPlace (zone ∷ zones) name (suc (place_of zones name))
    later rest = record { below = omega (arith, rest.below); same = rest.same }

    by : (b : Bool) → is_same name zone ≡ b → (b || is_known zones name) ≡ true → (is_known zones name ≡ true → IsPlace zones name (place_of zones name)) → IsPlace (zone ∷ zones) name (cond (not b) (1 + place_of zones name) 0)
    by true e known rest = record { below = omega arith; same = e }
    by false e known rest = subst (IsPlace (zone ∷ zones) name) (one_more (place_of zones name)) (later (rest known))

not_long : (n most : ℕ) → nat_lt most n ≡ false → nat_le n most ≡ false → ⊥
not_long n most short long = grind (arith, nat_tests)

known_name : (zones : List (List ℕ)) (name : List ℕ) → is_unknown zones name ≡ false → is_long name ≡ false → is_known zones name ≡ true
known_name zones name known short =
    ⊎_elim (λ long. absurd (not_long (length name) MAX_NAME_BYTES short long)) (λ e. not-false (is_known zones name) e)
    (and_cases (nat_le (length name) MAX_NAME_BYTES) (not (is_known zones name)) known)

not_wrong : (zones : List (List ℕ)) (bytes : List ℕ) → zones ≢ [] → wrong_zones zones bytes ≡ None → (first_unknown zones bytes ≡ None) × (has_long bytes ≡ false)
not_wrong [] bytes some right = absurd (some refl)
not_wrong (zone ∷ zones) bytes some right = by (first_unknown (zone ∷ zones) bytes) (has_long bytes) right
  where
    by : (o : Option (List ℕ)) (b : Bool) → unknown_or kinds.UnknownZone o (if b then nameless kinds.NameTooLong else None) ≡ None → (o ≡ None) × (b ≡ false)
    by (Some name) b e = cc
    by None true e = cc
    by None false e = (refl, refl)

-- ---- their numbers
numbers_some : (zones : List (List ℕ)) (bytes : List ℕ) → numbers_of zones bytes ≢ []
numbers_some zones bytes e = omega (arith, ap length e, length-map (names_in bytes) (place_of zones), length-slice_split (λ b. b == 44) bytes)

pub right_zones : (schema : Schema) (bytes : List ℕ) → IsSchema schema → schema.zones ≢ [] → HasZoneNames bytes → wrong_zones schema.zones bytes ≡ None → AreRightZones schema (numbers_of schema.zones bytes)
right_zones schema bytes is some named right = (numbers_some schema.zones bytes, all_mapped (place_of schema.zones) (IsRightZone schema) (names_in bytes) each)
  where
    fine : (first_unknown schema.zones bytes ≡ None) × (has_long bytes ≡ false)
    fine = not_wrong schema.zones bytes some right

    each : (name : List ℕ) → Contains (names_in bytes) name → IsRightZone schema (place_of schema.zones name)
    each name has =
        let known : is_known schema.zones name ≡ true = known_name schema.zones name (none_found (is_unknown schema.zones) (names_in bytes) fine.0 name has) (none_passes is_long (names_in bytes) fine.1 name has) in
        let place : IsPlace schema.zones name (place_of schema.zones name) = place_known schema.zones name known in
        let other : List ℕ = name_of schema.zones (place_of schema.zones name) in
        let other_is : IsName other = has_each IsName schema.zones other is.zones.names (name_contained schema.zones (place_of schema.zones name) place.below) in
        (place.below, same_zone_name name other other_is place.same (named name has))
