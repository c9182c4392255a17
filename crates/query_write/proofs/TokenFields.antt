-- The fields and the zones of a limit are read back from their names.
use Rattle.std.proofs.Common.{◌≡◌, ◌≢◌, ℕ, zero, suc, ◌+◌, ◌*◌, ◌/◌, ◌%◌, ◌<◌, ◌≤◌, Bool, true, false, cond, List, [], ◌∷◌, ◌||◌, not, length, map, refl, sym, ap, ap₂, ◌∙◌, subst, arith, append-nil, All}
use Rattle.std.specs.Prelude.{Option, None, AllPairs, Contains, ◌==◌, if◌then◌else◌, find}
use Rattle.std.specs.List.{list_any, prefix_len}
use Rattle.std.proofs.lemmas.Bool.{both_ways, or_left, eqb-true}
use Rattle.std.proofs.lemmas.List.Elements.{All-head, All-tail, Contains-append_left}
use Rattle.std.proofs.Math.Nat.{div-add-mod, mod-lt}
use Rattle.doc_types.specs.declared.schema.Schema.{Schema}
use Rattle.doc_types.specs.Schemas.{IsName, IsSchema, is_column_name, columns}
use Rattle.query_pieces.specs.declared.piece.Slice.{Slice}
use Rattle.query_pieces.specs.declared.piece.Names.{Names}
use Rattle.query_pieces.specs.declared.piece.Names.TheVariants as names
use Rattle.query_marks.specs.declared.fault.QueryKind.TheVariants as kinds
use Rattle.query_marks.specs.LimitNames.{bytes_of, names_in, is_same, is_long, is_unknown, first_unknown, has_long, place_of, numbers_of}
use Rattle.query_marks.specs.Limits.{mask, keeps}
use Rattle.query_marks.specs.Marks.{nameless, unknown_or, wrong_positions, wrong_fields, wrong_zones}
use Rattle.query_write.specs.Written.{parted, named, all_fields, name_of}
use Rattle.query_write.specs.steps.Signs.{AreFields}
use Rattle.query_write.specs.steps.TokenRun.{AreRightZones}
use Rattle.query_write.proofs.TokenNames.{has_first, has_later, has_each, has_mapped, any_none, AreApart, apart_names, same_self, column_no_comma, zone_no_comma, HasNoComma, names_back, none_unknown, none_long}

-- ---- bits
half_below : (n m : ℕ) → n ≤ 1 + 2 * m → n / 2 ≤ m
half_below n m within = omega (arith, within, div-add-mod n 2)

bit_zero : (bit : ℕ) → bit < 2 → (bit == 1) ≡ false → bit ≡ 0
bit_zero zero below e = refl
bit_zero (suc zero) below e = absurd (both_ways true e refl)
bit_zero (suc (suc bit)) below e = absurd (omega (arith, below))

odd_back : (n : ℕ) → (n % 2 == 1) ≡ true → 1 + 2 * (n / 2) ≡ n
odd_back n e = omega (arith, div-add-mod n 2, eqb-true (n % 2) 1 e)

even_back : (n : ℕ) → (n % 2 == 1) ≡ false → 0 + 2 * (n / 2) ≡ n
even_back n e = omega (arith, div-add-mod n 2, bit_zero (n % 2) (mod-lt n (omega arith)) e)

-- ---- the fields of a number
named_contained : (fields : List (List ℕ)) (n : ℕ) (name : List ℕ) → Contains (named fields n) name → Contains fields name
named_contained [] n name has = has
named_contained (field ∷ fields) n name has = by (n % 2 == 1) (named_contained fields (n / 2) name) has
  where
    by : (b : Bool) → (Contains (named fields (n / 2)) name → Contains fields name) → Contains (if b then field ∷ named fields (n / 2) else named fields (n / 2)) name → Contains (field ∷ fields) name
    by true rest (zero, within, at) = (zero, omega arith, at)
    by true rest (suc k, within, at) = has_later field fields name (rest (k, omega (arith, within), at))
    by false rest has = has_later field fields name (rest has)

named_some : (fields : List (List ℕ)) (n : ℕ) → n ≤ all_fields fields → n ≢ 0 → named fields n ≢ []
named_some [] n within some = absurd (some (omega (arith, within)))
named_some (field ∷ fields) n within some = by (n % 2 == 1) refl (named_some fields (n / 2) (half_below n (all_fields fields) within))
  where
    by : (b : Bool) → (n % 2 == 1) ≡ b → (n / 2 ≢ 0 → named fields (n / 2) ≢ []) → (if b then field ∷ named fields (n / 2) else named fields (n / 2)) ≢ []
    by true e rest = λ f. cc
    by false e rest = rest (λ zero_half. absurd (some (omega (arith, zero_half, even_back n e))))

mask_same : (test other : List ℕ → Bool) (fields : List (List ℕ)) → ((field : List ℕ) → Contains fields field → test field ≡ other field) → mask test fields ≡ mask other fields
mask_same test other [] each = refl
mask_same test other (field ∷ fields) each =
    ap₂ (λ (b : Bool) (n : ℕ). (if b then 1 else 0) + 2 * n) (each field (has_first field fields)) (mask_same test other fields (λ next has. each next (has_later field fields next has)))

mask_none : (fields : List (List ℕ)) → mask (λ field. false) fields ≡ 0
mask_none [] = refl
mask_none (field ∷ fields) = ap (λ (n : ℕ). 0 + 2 * n) (mask_none fields)

abbrev is_among : List (List ℕ) → List ℕ → Bool
is_among names field = list_any (λ name. is_same name field) names

mask_named : (fields : List (List ℕ)) (n : ℕ) → AreApart fields → n ≤ all_fields fields → mask (is_among (named fields n)) fields ≡ n
mask_named [] n apart within = omega (arith, within)
mask_named (field ∷ fields) n apart within = by (n % 2 == 1) refl (mask_named fields (n / 2) apart.1 (half_below n (all_fields fields) within))
  where
    by : (b : Bool) → (n % 2 == 1) ≡ b → mask (is_among (named fields (n / 2))) fields ≡ n / 2 → mask (is_among (if b then field ∷ named fields (n / 2) else named fields (n / 2))) (field ∷ fields) ≡ n
    by true e half =
        let first : is_among (field ∷ named fields (n / 2)) field ≡ true = or_left (is_same field field) (is_among (named fields (n / 2)) field) (same_self field) in
        let rest : mask (is_among (field ∷ named fields (n / 2))) fields ≡ n / 2 =
        mask_same (is_among (field ∷ named fields (n / 2))) (is_among (named fields (n / 2))) fields (λ other has. ap (λ (b : Bool). b || is_among (named fields (n / 2)) other) (apart.0 other has).0) ∙ half in
        ap₂ (λ (b : Bool) (m : ℕ). (if b then 1 else 0) + 2 * m) first rest ∙ odd_back n e
    by false e half =
        let first : is_among (named fields (n / 2)) field ≡ false = any_none (λ name. is_same name field) (named fields (n / 2)) (λ name has. (apart.0 name (named_contained fields (n / 2) name has)).1) in
        ap₂ (λ (b : Bool) (m : ℕ). (if b then 1 else 0) + 2 * m) first half ∙ even_back n e

-- ---- field limits
listed_back : (schema : Schema) (bytes : List ℕ) (n : ℕ) → IsSchema schema → n ≤ all_fields schema.fields → n ≢ 0 → bytes ≡ parted 44 (named schema.fields n) → names_in bytes ≡ named schema.fields n
listed_back schema bytes n is within some bytes_are =
    names_back bytes (named schema.fields n) (named_some schema.fields n within some)
    (λ name has. column_no_comma name (has_each (λ name. is_column_name name ≡ true) (columns schema) name is.form (Contains-append_left schema.fields (map (λ attr. attr.0) schema.attrs) name (named_contained schema.fields n name has)))) bytes_are

pub fields_back : (schema : Schema) (text : List ℕ) (negated : Bool) (of : Names) (n : ℕ) → IsSchema schema → n ≤ all_fields schema.fields → AreFields schema.fields text negated of n → mask (keeps text negated of) schema.fields ≡ n
fields_back schema text false names.All n is within are = sym are
fields_back schema text true names.All n is within are = mask_none schema.fields ∙ sym are
fields_back schema text false (names.Listed s) n is within (some, bytes) =
    ap (λ (list : List (List ℕ)). mask (is_among list) schema.fields) (listed_back schema (bytes_of text s) n is within some bytes)
    ∙ mask_named schema.fields n (apart_names schema.fields (map (λ attr. attr.0) schema.attrs) is.names is.distinct) within
fields_back schema text true (names.Listed s) n is within are = absurd are

pub fields_right : (schema : Schema) (relaxed : Bool) (text : List ℕ) (negated : Bool) (of : Names) (positions : Option Slice) (n : ℕ) → IsSchema schema → n ≤ all_fields schema.fields → AreFields schema.fields text negated of n → wrong_positions text positions ≡ None → wrong_fields schema.fields relaxed text of positions ≡ None
fields_right schema relaxed text negated names.All positions n is within are right = right
fields_right schema relaxed text true (names.Listed s) positions n is within are right = absurd are
fields_right schema relaxed text false (names.Listed s) positions n is within (some, bytes) right =
    let list : names_in (bytes_of text s) ≡ named schema.fields n = listed_back schema (bytes_of text s) n is within some bytes in
    let known : first_unknown schema.fields (bytes_of text s) ≡ None = ap (find (is_unknown schema.fields)) list ∙ none_unknown schema.fields (named schema.fields n) (named_contained schema.fields n) in
    let short : has_long (bytes_of text s) ≡ false = ap (list_any is_long) list ∙ none_long (columns schema) (named schema.fields n) is.names inside in
    ap₂ (λ (o : Option (List ℕ)) (b : Bool). unknown_or kinds.UnknownField o (if b then nameless kinds.NameTooLong else wrong_positions text positions)) (either relaxed (first_unknown schema.fields (bytes_of text s)) known) short ∙ right
  where
    inside : (name : List ℕ) → Contains (named schema.fields n) name → Contains (columns schema) name
    inside name has = Contains-append_left schema.fields (map (λ attr. attr.0) schema.attrs) name (named_contained schema.fields n name has)

    either : (b : Bool) (o : Option (List ℕ)) → o ≡ None → (if b then None else o) ≡ None
    either true o e = refl
    either false o e = e

-- ---- zone limits
pub name_contained : (zones : List (List ℕ)) (zone : ℕ) → zone < length zones → Contains zones (name_of zones zone)
name_contained [] zone below = absurd (omega (arith, below))
name_contained (name ∷ zones) zero below = has_first name zones
name_contained (name ∷ zones) (suc zone) below = has_later name zones (name_of zones zone) (name_contained zones zone (omega (arith, below)))

place_back : (zones : List (List ℕ)) (zone : ℕ) → AreApart zones → zone < length zones → place_of zones (name_of zones zone) ≡ zone
place_back [] zone apart below = absurd (omega (arith, below))
place_back (name ∷ zones) zero apart below = ap (λ (b : Bool). cond (not b) (1 + prefix_len (λ known. not (is_same name known)) zones) 0) (same_self name)
place_back (name ∷ zones) (suc zone) apart below =
    let within : zone < length zones = omega (arith, below) in
    let rest : place_of zones (name_of zones zone) ≡ zone = place_back zones zone apart.1 within in
    ap (λ (b : Bool). cond (not b) (1 + place_of zones (name_of zones zone)) 0) (apart.0 (name_of zones zone) (name_contained zones zone within)).1 ∙ omega (arith, rest)

places_back : (zones : List (List ℕ)) (list : List ℕ) → AreApart zones → All (λ zone. zone < length zones) list → map (place_of zones) (map (name_of zones) list) ≡ list
places_back zones [] apart all = refl
places_back zones (zone ∷ list) apart all =
    ap₂ (λ (n : ℕ) (rest : List ℕ). n ∷ rest) (place_back zones zone apart (All-head (λ zone. zone < length zones) zone list all)) (places_back zones list apart (All-tail (λ zone. zone < length zones) zone list all))

mapped_some : (zones : List (List ℕ)) (list : List ℕ) → list ≢ [] → map (name_of zones) list ≢ []
mapped_some zones [] some = absurd (some refl)
mapped_some zones (zone ∷ list) some = λ e. cc

zone_names_back : (schema : Schema) (bytes : List ℕ) (list : List ℕ) → AreRightZones schema list → bytes ≡ parted 44 (map (name_of schema.zones) list) → names_in bytes ≡ map (name_of schema.zones) list
zone_names_back schema bytes list right bytes_are =
    names_back bytes (map (name_of schema.zones) list) (mapped_some schema.zones list right.0)
    (λ name has. has_mapped (name_of schema.zones) HasNoComma list name (λ k d below. zone_no_comma (name_of schema.zones _) (right.1 k d below).1) has) bytes_are

pub zones_back : (schema : Schema) (bytes : List ℕ) (list : List ℕ) → IsSchema schema → AreRightZones schema list → bytes ≡ parted 44 (map (name_of schema.zones) list) → numbers_of schema.zones bytes ≡ list
zones_back schema bytes list is right bytes_are =
    ap (map (place_of schema.zones)) (zone_names_back schema bytes list right bytes_are)
    ∙ places_back schema.zones list (apart_zones schema is) (λ k d below. (right.1 k d below).0)
  where
    apart_zones : (schema : Schema) → IsSchema schema → AreApart schema.zones
    apart_zones schema is =
        apart_names schema.zones [] (subst (All IsName) (sym (append-nil schema.zones)) is.zones.names) (subst (λ (l : List (List ℕ)). AllPairs (λ name other. name ≢ other) l) (sym (append-nil schema.zones)) is.zones.distinct)

pub zones_right : (schema : Schema) (bytes : List ℕ) (list : List ℕ) → IsSchema schema → AreRightZones schema list → bytes ≡ parted 44 (map (name_of schema.zones) list) → wrong_zones schema.zones bytes ≡ None
zones_right schema bytes list is right bytes_are = by schema.zones known short
  where
    names : names_in bytes ≡ map (name_of schema.zones) list
    names = zone_names_back schema bytes list right bytes_are

    inside : (name : List ℕ) → Contains (map (name_of schema.zones) list) name → Contains schema.zones name
    inside name has = has_mapped (name_of schema.zones) (Contains schema.zones) list name (λ k d below. name_contained schema.zones _ (right.1 k d below).0) has

    known : first_unknown schema.zones bytes ≡ None
    known = ap (find (is_unknown schema.zones)) names ∙ none_unknown schema.zones (map (name_of schema.zones) list) inside

    short : has_long bytes ≡ false
    short = ap (list_any is_long) names ∙ none_long schema.zones (map (name_of schema.zones) list) is.zones.names inside

    by : (zones : List (List ℕ)) → first_unknown zones bytes ≡ None → has_long bytes ≡ false → wrong_zones zones bytes ≡ None
    by [] known short = refl
    by (zone ∷ zones) known short = ap₂ (λ (o : Option (List ℕ)) (b : Bool). unknown_or kinds.UnknownZone o (if b then nameless kinds.NameTooLong else None)) known short
