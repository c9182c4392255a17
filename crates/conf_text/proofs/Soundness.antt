-- What holds of the indexes of lines at which no fault stands.
use Rattle.std.proofs.Common.{◌≡◌, ◌≢◌, ℕ, ◌+◌, ◌≤◌, Bool, true, false, List, [], ◌∷◌, ◌++◌, append-nil, length, length-append, get_or, map, refl, sym, ◌∙◌, ap, subst, arith}
use Rattle.std.specs.Prelude.{All, Option, Some, None, ◌&&◌, ◌||◌, not, nat_le, nat_lt, ◌==◌}
use Rattle.std.specs.Char.{to_ascii_lowercase}
use Rattle.std.specs.List.{cons_option, list_all, list_any, slice_split}
use Rattle.std.specs.Option.{is_some}
use Rattle.std.specs.Str.{bytes_eq}
use Rattle.std.proofs.lemmas.Bool.Decides.{nat_tests}
use Rattle.std.proofs.lemmas.Bool.{true≢false, ltb-false, leb-false, and_parts, or_parts}
use Rattle.std.proofs.lemmas.List.{map-append, length-map}
use Rattle.std.proofs.lemmas.List.Elements.{All-nil, All-push}
use Rattle.doc_types.specs.declared.schema.TheConstants.{MAX_FIELDS, MAX_ATTRS, MAX_ZONES}
use Rattle.doc_types.specs.Schemas.{AreDistinct, AreZones, IsName, is_capital, is_column_name}
use Rattle.std.proofs.lemmas.List.Folds.{list_any-append}
use Rattle.conf_text.specs.declared.keys.Key.{Key}
use Rattle.conf_text.specs.declared.keys.Key.TheVariants as keys
use Rattle.conf_text.specs.Confs.{zones_by}
use Rattle.conf_text.specs.steps.Drafts.{entry_with}
use Rattle.conf_text.specs.Faults.{has_path, is_among, is_column, is_long, is_repeated, passes_limit}
use Rattle.conf_text.specs.Keys.{same_key}
use Rattle.conf_text.specs.Sections.{Entry, IndexText, attr_by, attrs_in, field_by, fields_in, given}
use Rattle.conf_text.specs.Lines.{trimmed}
use Rattle.conf_text.specs.Shapes.{small}
use Rattle.conf_text.specs.Values.{AreZoneNames, IsValue, can_be_column, zones_in}
use Rattle.doc_types.specs.declared.schema.AttrKind.{AttrKind}
use Rattle.conf_text.proofs.Among.{among_no, distinct_more}
use Rattle.conf_text.proofs.Entries.{filter_map_more, given_new, given_other}
use Rattle.conf_text.proofs.Pairs.{AreApart, all_cons, all_differ}

-- names in small letters
no_capital : (b : ℕ) → not (is_capital (to_ascii_lowercase b)) ≡ true
no_capital b = grind (arith, nat_tests)

pub small_name : (text : List ℕ) → list_all (λ b. not (is_capital b)) (small text) ≡ true
small_name [] = refl
small_name (b ∷ text) = ap (λ t. t && list_all (λ c. not (is_capital c)) (small text)) (no_capital b) ∙ small_name text

-- a name that isn't long, in small letters
is_name_of : (text : List ℕ) → is_long (small text) ≡ false → IsName (small text)
is_name_of text short = record { short = ltb-false _ _ short; small = small_name text }

-- the columns, the zones and the path of entries, after other indexes
pub record GoodParts (texts : List IndexText) (fields attrs : List (List ℕ)) (zones path : Option (List ℕ)) : Type 0 where
  pub few_fields : length fields ≤ MAX_FIELDS
  pub few_attrs : length attrs ≤ MAX_ATTRS
  pub field_names : All IsName fields
  pub attr_names : All IsName attrs
  pub field_forms : All (λ n. is_column_name n ≡ true) fields
  pub attr_forms : All (λ n. is_column_name n ≡ true) attrs
  pub fields_distinct : AreDistinct fields
  pub attrs_distinct : AreDistinct attrs
  pub apart : AreApart fields attrs
  pub zones_are : AreZones (zones_by zones)
  pub path_new : (p : List ℕ) → path ≡ Some p → list_any (has_path p) texts ≡ false

-- the names of attributes
abbrev pub attr_names_in : List Entry → List (List ℕ)
attr_names_in entries = map (λ attr. attr.0) (attrs_in entries)

abbrev pub GoodEntries : List IndexText → List Entry → Type 0
GoodEntries texts entries = GoodParts texts (fields_in entries) (attr_names_in entries) (given keys.IndexZones entries) (given keys.Path entries)

pub good_none : (texts : List IndexText) → GoodEntries texts []
good_none texts = record {
  few_fields = omega arith;
  few_attrs = omega arith;
  field_names = All-nil IsName;
  attr_names = All-nil IsName;
  field_forms = All-nil (λ n. is_column_name n ≡ true);
  attr_forms = All-nil (λ n. is_column_name n ≡ true);
  fields_distinct = λ i j d order below. absurd (omega arith);
  attrs_distinct = λ i j d order below. absurd (omega arith);
  apart = λ k d below. absurd (omega arith);
  zones_are = record { few = omega arith; names = All-nil IsName; distinct = λ i j d order below. absurd (omega arith) };
  path_new = λ p is. cc;
}

-- what a good entry isn't
pub record NoFault (texts : List IndexText) (entries : List Entry) (key : Key) (value : List ℕ) : Type 0 where
  pub value_is : ¬ (¬ (IsValue key value))
  pub new : ¬ (is_repeated texts entries key value ≡ true)
  pub within : ¬ (passes_limit entries key value ≡ true)

-- a test that isn't true is false, and one that isn't not true is true
pub is_false : (b : Bool) → ¬ (b ≡ true) → b ≡ false
is_false true other = absurd (other refl)
is_false false other = refl

is_true : (b : Bool) → ¬ (¬ (b ≡ true)) → b ≡ true
is_true true other = refl
is_true false other = absurd (other (λ same. true≢false (sym same)))

-- the parts of entries with one more
fields_more : (entries : List Entry) (e : Entry) → fields_in (entries ++ e ∷ []) ≡ fields_in entries ++ cons_option (field_by e.key e.value) []
fields_more entries e = filter_map_more (λ (x : Entry). field_by x.key x.value) entries e

names_more : (entries : List Entry) (e : Entry) → attr_names_in (entries ++ e ∷ []) ≡ attr_names_in entries ++ map (λ attr. attr.0) (cons_option (attr_by e.key e.value) [])
names_more entries e =
    ap (map (λ (attr : List ℕ × AttrKind). attr.0)) (filter_map_more (λ (x : Entry). attr_by x.key x.value) entries e)
    ∙ map-append (λ (attr : List ℕ × AttrKind). attr.0) (attrs_in entries) (cons_option (attr_by e.key e.value) [])

parts_are : (texts : List IndexText) (entries : List Entry) (fields attrs : List (List ℕ)) (zones path : Option (List ℕ)) → fields_in entries ≡ fields → attr_names_in entries ≡ attrs → given keys.IndexZones entries ≡ zones → given keys.Path entries ≡ path → GoodParts texts fields attrs zones path → GoodEntries texts entries
parts_are texts entries fields attrs zones path f a z p good =
    subst (λ (fs : List (List ℕ)). GoodParts texts fs (attr_names_in entries) (given keys.IndexZones entries) (given keys.Path entries)) (sym f)
    (subst (λ (ns : List (List ℕ)). GoodParts texts fields ns (given keys.IndexZones entries) (given keys.Path entries)) (sym a)
    (subst (λ (o : Option (List ℕ)). GoodParts texts fields attrs o (given keys.Path entries)) (sym z)
    (subst (λ (o : Option (List ℕ)). GoodParts texts fields attrs zones o) (sym p) good)))

-- the same columns
fields_same : (entries : List Entry) (e : Entry) → field_by e.key e.value ≡ None → fields_in (entries ++ e ∷ []) ≡ fields_in entries
fields_same entries e none = fields_more entries e ∙ ap (λ o. fields_in entries ++ cons_option o []) none ∙ append-nil (fields_in entries)

names_same : (entries : List Entry) (e : Entry) → attr_by e.key e.value ≡ None → attr_names_in (entries ++ e ∷ []) ≡ attr_names_in entries
names_same entries e none = names_more entries e ∙ ap (λ o. attr_names_in entries ++ map (λ (attr : List ℕ × AttrKind). attr.0) (cons_option o [])) none ∙ append-nil (attr_names_in entries)

-- an entry that adds nothing
same_more : (texts : List IndexText) (entries : List Entry) (key : Key) (value : List ℕ) → field_by key value ≡ None → attr_by key value ≡ None → same_key key keys.IndexZones ≡ false → same_key key keys.Path ≡ false → GoodEntries texts entries → GoodEntries texts (entries ++ entry_with key value ∷ [])
same_more texts entries key value field attr zones path good =
    let e : Entry = entry_with key value in
    parts_are texts (entries ++ e ∷ []) (fields_in entries) (attr_names_in entries) (given keys.IndexZones entries) (given keys.Path entries)
    (fields_same entries e field) (names_same entries e attr) (given_other keys.IndexZones entries e zones) (given_other keys.Path entries e path) good

-- a name that is no column yet
column_new : (column : List ℕ) (entries : List Entry) → is_column column entries ≡ false → (is_among column (fields_in entries) ≡ false) × (is_among column (attr_names_in entries) ≡ false)
column_new column entries new =
    let split : (is_among column (fields_in entries) || is_among column (attr_names_in entries)) ≡ false = sym (list_any-append (λ other. bytes_eq other column) (fields_in entries) (attr_names_in entries)) ∙ new in
    ((or_parts _ _ split).0, (or_parts _ _ split).1)

few_more : (count limit : ℕ) → nat_le limit count ≡ false → count + 1 ≤ limit
few_more count limit less = omega (arith, leb-false limit count less)

-- one more field
field_parts : (texts : List IndexText) (fields attrs : List (List ℕ)) (zones path : Option (List ℕ)) (name : List ℕ) → IsName name → is_column_name name ≡ true → is_among name fields ≡ false → is_among name attrs ≡ false → nat_le MAX_FIELDS (length fields) ≡ false → GoodParts texts fields attrs zones path → GoodParts texts (fields ++ name ∷ []) attrs zones path
field_parts texts fields attrs zones path name is form new other few good = record {
  few_fields = omega (arith, few_more (length fields) MAX_FIELDS few, length-append fields (name ∷ []));
  few_attrs = good.few_attrs;
  field_names = All-push IsName fields name good.field_names is;
  attr_names = good.attr_names;
  field_forms = All-push (λ n. is_column_name n ≡ true) fields name good.field_forms form;
  attr_forms = good.attr_forms;
  fields_distinct = distinct_more fields name good.fields_distinct new;
  attrs_distinct = good.attrs_distinct;
  apart = All-push (λ n. All (λ o. n ≢ o) attrs) fields name good.apart (all_differ name attrs other);
  zones_are = good.zones_are;
  path_new = good.path_new;
}

-- one more attribute
attr_parts : (texts : List IndexText) (fields attrs : List (List ℕ)) (zones path : Option (List ℕ)) (name : List ℕ) → IsName name → is_column_name name ≡ true → is_among name fields ≡ false → is_among name attrs ≡ false → nat_le MAX_ATTRS (length attrs) ≡ false → GoodParts texts fields attrs zones path → GoodParts texts fields (attrs ++ name ∷ []) zones path
attr_parts texts fields attrs zones path name is form other new few good = record {
  few_fields = good.few_fields;
  few_attrs = omega (arith, few_more (length attrs) MAX_ATTRS few, length-append attrs (name ∷ []));
  field_names = good.field_names;
  attr_names = All-push IsName attrs name good.attr_names is;
  field_forms = good.field_forms;
  attr_forms = All-push (λ n. is_column_name n ≡ true) attrs name good.attr_forms form;
  fields_distinct = good.fields_distinct;
  attrs_distinct = distinct_more attrs name good.attrs_distinct new;
  apart = λ k d below. All-push (λ o. get_or fields k d ≢ o) attrs name (good.apart k d below) (among_no name fields other k d below);
  zones_are = good.zones_are;
  path_new = good.path_new;
}

names_of : (pieces : List (List ℕ)) → list_any is_long (map (λ piece. small (trimmed piece)) pieces) ≡ false → All IsName (map (λ piece. small (trimmed piece)) pieces)
names_of [] short = All-nil IsName
names_of (piece ∷ pieces) short =
    all_cons IsName (small (trimmed piece)) (map (λ p. small (trimmed p)) pieces) (is_name_of (trimmed piece) (or_parts _ _ short).0) (names_of pieces (or_parts _ _ short).1)

-- zones within the limits
zones_good : (value : List ℕ) → ¬ (¬ (AreZoneNames (zones_in value))) → (list_any is_long (zones_in value) || nat_lt MAX_ZONES (length (zones_in value))) ≡ false → AreZones (zones_in value)
zones_good value are within = record {
  few = ltb-false MAX_ZONES (length (zones_in value)) (or_parts _ _ within).1;
  names = names_of (slice_split (λ b. b == 44) value) (or_parts _ _ within).0;
  distinct = λ i j d order below same. are (λ names. names.distinct i j d order below same);
}

zone_parts : (texts : List IndexText) (fields attrs : List (List ℕ)) (zones path : Option (List ℕ)) (value : List ℕ) → AreZones (zones_in value) → GoodParts texts fields attrs zones path → GoodParts texts fields attrs (Some value) path
zone_parts texts fields attrs zones path value are good = record {
  few_fields = good.few_fields;
  few_attrs = good.few_attrs;
  field_names = good.field_names;
  attr_names = good.attr_names;
  field_forms = good.field_forms;
  attr_forms = good.attr_forms;
  fields_distinct = good.fields_distinct;
  attrs_distinct = good.attrs_distinct;
  apart = good.apart;
  zones_are = are;
  path_new = good.path_new;
}

path_is : (texts : List IndexText) (value p : List ℕ) → list_any (has_path value) texts ≡ false → Some value ≡ Some p → list_any (has_path p) texts ≡ false
path_is texts value p new is =
    let same : value ≡ p = cc in
    subst (λ (t : List ℕ). list_any (has_path t) texts ≡ false) same new

path_parts : (texts : List IndexText) (fields attrs : List (List ℕ)) (zones path : Option (List ℕ)) (value : List ℕ) → list_any (has_path value) texts ≡ false → GoodParts texts fields attrs zones path → GoodParts texts fields attrs zones (Some value)
path_parts texts fields attrs zones path value new good = record {
  few_fields = good.few_fields;
  few_attrs = good.few_attrs;
  field_names = good.field_names;
  attr_names = good.attr_names;
  field_forms = good.field_forms;
  attr_forms = good.attr_forms;
  fields_distinct = good.fields_distinct;
  attrs_distinct = good.attrs_distinct;
  apart = good.apart;
  zones_are = good.zones_are;
  path_new = λ p is. path_is texts value p new is;
}

-- an entry that declares an attribute
attr_more : (texts : List IndexText) (entries : List Entry) (key : Key) (value : List ℕ) → field_by key value ≡ None → map (λ attr. attr.0) (cons_option (attr_by key value) []) ≡ small value ∷ [] → same_key key keys.IndexZones ≡ false → same_key key keys.Path ≡ false → ¬ (¬ (can_be_column value ≡ true)) → ¬ (is_column (small value) entries ≡ true) → ¬ ((is_long (small value) || nat_le MAX_ATTRS (length (attrs_in entries))) ≡ true) → GoodEntries texts entries → GoodEntries texts (entries ++ entry_with key value ∷ [])
attr_more texts entries key value field attr zones path value_is new within good =
    let e : Entry = entry_with key value in
    let form : is_column_name (small value) ≡ true = (and_parts _ _ (is_true (can_be_column value) value_is)).0 in
    let other = column_new (small value) entries (is_false (is_column (small value) entries) new) in
    let size : (is_long (small value) || nat_le MAX_ATTRS (length (attrs_in entries))) ≡ false = is_false _ within in
    let few : nat_le MAX_ATTRS (length (attr_names_in entries)) ≡ false = ap (nat_le MAX_ATTRS) (length-map (attrs_in entries) (λ (a : List ℕ × AttrKind). a.0)) ∙ (or_parts _ _ size).1 in
    parts_are texts (entries ++ e ∷ []) (fields_in entries) (attr_names_in entries ++ small value ∷ []) (given keys.IndexZones entries) (given keys.Path entries)
    (fields_same entries e field) (names_more entries e ∙ ap (λ ns. attr_names_in entries ++ ns) attr) (given_other keys.IndexZones entries e zones) (given_other keys.Path entries e path)
    (attr_parts texts (fields_in entries) (attr_names_in entries) (given keys.IndexZones entries) (given keys.Path entries) (small value) (is_name_of value (or_parts _ _ size).0) form other.0 other.1 few good)

-- an entry at which no fault stands
pub good_more : (texts : List IndexText) (entries : List Entry) (key : Key) (value : List ℕ) → NoFault texts entries key value → GoodEntries texts entries → GoodEntries texts (entries ++ entry_with key value ∷ [])
good_more texts entries keys.RtField value fine good =
    let e : Entry = entry_with keys.RtField value in
    let form : is_column_name (small value) ≡ true = (and_parts _ _ (is_true (can_be_column value) fine.value_is)).0 in
    let other = column_new (small value) entries (is_false (is_column (small value) entries) fine.new) in
    let size : (is_long (small value) || nat_le MAX_FIELDS (length (fields_in entries))) ≡ false = is_false _ fine.within in
    parts_are texts (entries ++ e ∷ []) (fields_in entries ++ small value ∷ []) (attr_names_in entries) (given keys.IndexZones entries) (given keys.Path entries)
    (fields_more entries e) (names_same entries e refl) (given_other keys.IndexZones entries e refl) (given_other keys.Path entries e refl)
    (field_parts texts (fields_in entries) (attr_names_in entries) (given keys.IndexZones entries) (given keys.Path entries) (small value) (is_name_of value (or_parts _ _ size).0) form other.0 other.1 (or_parts _ _ size).1 good)
good_more texts entries keys.RtAttrUint value fine good = attr_more texts entries keys.RtAttrUint value refl refl refl refl fine.value_is fine.new fine.within good
good_more texts entries keys.RtAttrBool value fine good = attr_more texts entries keys.RtAttrBool value refl refl refl refl fine.value_is fine.new fine.within good
good_more texts entries keys.RtAttrBigint value fine good = attr_more texts entries keys.RtAttrBigint value refl refl refl refl fine.value_is fine.new fine.within good
good_more texts entries keys.RtAttrTimestamp value fine good = attr_more texts entries keys.RtAttrTimestamp value refl refl refl refl fine.value_is fine.new fine.within good
good_more texts entries keys.IndexZones value fine good =
    let e : Entry = entry_with keys.IndexZones value in
    parts_are texts (entries ++ e ∷ []) (fields_in entries) (attr_names_in entries) (Some value) (given keys.Path entries)
    (fields_same entries e refl) (names_same entries e refl) (given_new keys.IndexZones entries e refl (is_false _ fine.new)) (given_other keys.Path entries e refl)
    (zone_parts texts (fields_in entries) (attr_names_in entries) (given keys.IndexZones entries) (given keys.Path entries) value (zones_good value fine.value_is (is_false _ fine.within)) good)
good_more texts entries keys.Path value fine good =
    let e : Entry = entry_with keys.Path value in
    let new : (is_some (given keys.Path entries) || list_any (has_path value) texts) ≡ false = is_false _ fine.new in
    parts_are texts (entries ++ e ∷ []) (fields_in entries) (attr_names_in entries) (given keys.IndexZones entries) (Some value)
    (fields_same entries e refl) (names_same entries e refl) (given_other keys.IndexZones entries e refl) (given_new keys.Path entries e refl (or_parts _ _ new).0)
    (path_parts texts (fields_in entries) (attr_names_in entries) (given keys.IndexZones entries) (given keys.Path entries) value (or_parts _ _ new).1 good)
good_more texts entries key value fine good = same_more texts entries key value refl refl refl refl good
