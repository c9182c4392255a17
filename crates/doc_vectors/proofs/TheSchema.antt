-- The schemas of the tables keep the limits, and their columns have distinct names.
use Rattle.std.proofs.Common.{◌≡◌, ◌≢◌, ℕ, ◌≤◌, List, [], ◌∷◌, Bool, true, false, not, ◌&&◌, leb, nat_eq, length, refl, sym, ap, subst, ◌∙◌, arith, All, AllPairs}
use Rattle.std.specs.Bool.{IsTrue}
use Rattle.std.specs.List.{list_all}
use Rattle.std.specs.Str.{bytes_eq}
use Rattle.std.proofs.lemmas.Bool.{false≢true}
use Rattle.std.proofs.lemmas.Bool.Decides.{nat_tests}
use Rattle.std.proofs.lemmas.List.Elements.{All-nil, All-cons}
use Rattle.std.proofs.lemmas.List.Kept.{AllPairs-cons}
use Rattle.std.proofs.lemmas.Slice.Eq.{bytes_eq-Decides}
use Rattle.doc_types.specs.declared.schema.Schema.{Schema}
use Rattle.doc_types.specs.Schemas.{AreZones, IsSchema, IsName, columns, is_capital, is_column_name}
use Rattle.doc_vectors.specs.steps.Columns.{the_schema, one_schema, wide_schema, HasShape}

abbrev is_fine : List ℕ → Bool
is_fine name = (leb (length name) 64 && list_all (λ b. not (is_capital b)) name) && is_column_name name

differ : (name other : List ℕ) → not (bytes_eq name other) ≡ true → name ≢ other
differ name other apart e = absurd (false≢true (sym (ap not ((bytes_eq-Decides name other).1 e)) ∙ apart))

both : (a b : Bool) → (a && b) ≡ true → (a ≡ true) × (b ≡ true)
both true b e = (refl, e)
both false b e = absurd (false≢true e)

all_by : (P : List ℕ → Type 0) (p : List ℕ → Bool) → ((name : List ℕ) → p name ≡ true → P name) → (names : List (List ℕ)) → list_all p names ≡ true → All P names
all_by P p has [] e = All-nil P
all_by P p has (name ∷ names) e = let parts = both (p name) (list_all p names) e in All-cons P name names (has name parts.0) (all_by P p has names parts.1)

is_short : (n : ℕ) → leb n 64 ≡ true → n ≤ 64
is_short n e = grind (arith, nat_tests)

is_name : (name : List ℕ) → (leb (length name) 64 && list_all (λ b. not (is_capital b)) name) ≡ true → IsName name
is_name name e =
    let parts = both (leb (length name) 64) (list_all (λ b. not (is_capital b)) name) e in
    record { short = is_short (length name) parts.0; small = parts.1 }

all_differ : (name : List ℕ) (others : List (List ℕ)) → list_all (λ other. not (bytes_eq name other)) others ≡ true → All (λ other. name ≢ other) others
all_differ name [] e = All-nil (λ other. name ≢ other)
all_differ name (other ∷ others) e =
    let parts = both (not (bytes_eq name other)) (list_all (λ other. not (bytes_eq name other)) others) e in
    All-cons (λ other. name ≢ other) other others (differ name other parts.0) (all_differ name others parts.1)

abbrev distinct : List (List ℕ) → Bool
distinct [] = true
distinct (name ∷ others) = list_all (λ other. not (bytes_eq name other)) others && distinct others

all_distinct : (names : List (List ℕ)) → distinct names ≡ true → AllPairs (λ name other. name ≢ other) names
all_distinct [] e = λ i j d l h. absurd (omega (arith, h))
all_distinct (name ∷ others) e =
    let parts = both (list_all (λ other. not (bytes_eq name other)) others) (distinct others) e in
    AllPairs-cons (λ name other. name ≢ other) name others (all_differ name others parts.0) (all_distinct others parts.1)

-- a schema whose columns pass, and which has no zones
is_schema : (schema : Schema) → IsName schema.name → length schema.fields ≤ 32 → length schema.attrs ≤ 32 → list_all is_fine (columns schema) ≡ true → distinct (columns schema) ≡ true → schema.zones ≡ [] → schema.min_prefix ≤ 42 → IsSchema schema
is_schema schema name fields attrs fine apart none short = record {
  name = name;
  few_fields = fields;
  few_attrs = attrs;
  names = all_by IsName is_fine (λ name e. is_name name (both (leb (length name) 64 && list_all (λ b. not (is_capital b)) name) (is_column_name name) e).0) (columns schema) fine;
  form = all_by (λ name. IsTrue (is_column_name name)) is_fine (λ name e. (both (leb (length name) 64 && list_all (λ b. not (is_capital b)) name) (is_column_name name) e).1) (columns schema) fine;
  distinct = all_distinct (columns schema) apart;
  zones = subst AreZones (sym none) (record { few = omega arith; names = All-nil IsName; distinct = all_distinct [] refl });
  prefixes = short;
}

-- the numbers of the fields and attributes of each schema of the tables
pub the_shape : HasShape the_schema 3 2
the_shape = record { limits = is_schema the_schema (is_name the_schema.name refl) (omega arith) (omega arith) refl refl refl (omega arith); fields_n = refl; attrs_n = refl }

pub one_shape : HasShape one_schema 1 0
one_shape = record { limits = is_schema one_schema (is_name one_schema.name refl) (omega arith) (omega arith) refl refl refl (omega arith); fields_n = refl; attrs_n = refl }

pub wide_shape : HasShape wide_schema 32 0
wide_shape = record { limits = is_schema wide_schema (is_name wide_schema.name refl) (omega arith) (omega arith) refl refl refl (omega arith); fields_n = refl; attrs_n = refl }

is_equal : (a b : ℕ) → IsTrue (nat_eq a b) → a ≡ b
is_equal a b e = grind (arith, nat_tests)

-- a schema has so many columns, where they are counted and tested
pub by_test : (schema : Schema) (n m fields attrs : ℕ) → HasShape schema n m → fields ≡ n → IsTrue (nat_eq attrs m) → HasShape schema fields attrs
by_test schema n m fields attrs shape e test = record { limits = shape.limits; fields_n = shape.fields_n ∙ sym e; attrs_n = shape.attrs_n ∙ sym (is_equal attrs m test) }
