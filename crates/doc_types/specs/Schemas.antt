-- Schemas: what a schema keeps.
use Rattle.std.specs.Prelude.{◌≢◌, ◌≤◌, ℕ, List, [], ◌∷◌, ◌++◌, Bool, false, ◌==◌, ◌||◌, ◌&&◌, not, IsTrue, All, AllPairs, length, map}
use Rattle.std.specs.Int.{is_in_range}
use Rattle.std.specs.List.{list_all}
use Rattle.doc_types.specs.declared.schema.TheConstants.{MAX_FIELDS, MAX_ATTRS, MAX_ZONES, MAX_NAME_BYTES}
use Rattle.doc_types.specs.declared.schema.Schema.{Schema}
use Rattle.doc_types.specs.declared.tokens.TheConstants.{MAX_WORD_CHARS}

-- an ASCII capital
abbrev pub is_capital : ℕ → Bool
is_capital b = is_in_range 65 90 b

-- a small letter or `_`, with which a column's name begins
abbrev pub begins_name : ℕ → Bool
begins_name b = is_in_range 97 122 b || (b == 95)

-- what follows in it: small letters, digits and `_`
abbrev pub goes_on_in_name : ℕ → Bool
goes_on_in_name b = begins_name b || is_in_range 48 57 b

-- the form of a column's name, as names are kept
abbrev pub is_column_name : List ℕ → Bool
is_column_name [] = false
is_column_name (first ∷ rest) = begins_name first && list_all goes_on_in_name rest

-- a name within the limit, kept in small letters
pub record IsName (name : List ℕ) : Type 0 where
  pub short : length name ≤ MAX_NAME_BYTES
  pub small : IsTrue (list_all (λ b. not (is_capital b)) name)

-- no name stands twice
abbrev pub AreDistinct : List (List ℕ) → Type 0
AreDistinct names = AllPairs (λ name other. name ≢ other) names

-- the names of zones: few enough, and distinct
pub record AreZones (zones : List (List ℕ)) : Type 0 where
  pub few : length zones ≤ MAX_ZONES
  pub names : All IsName zones
  pub distinct : AreDistinct zones

-- the names of the columns: the fields, then the attributes
abbrev pub columns : Schema → List (List ℕ)
columns schema = schema.fields ++ map (λ attr. attr.0) schema.attrs

-- a schema within the limits: its columns have distinct names of their form, its zones are distinct, and a word is long enough
-- for each prefix
pub record IsSchema (schema : Schema) : Type 0 where
  pub name : IsName schema.name
  pub few_fields : length schema.fields ≤ MAX_FIELDS
  pub few_attrs : length schema.attrs ≤ MAX_ATTRS
  pub names : All IsName (columns schema)
  pub form : All (λ name. IsTrue (is_column_name name)) (columns schema)
  pub distinct : AreDistinct (columns schema)
  pub zones : AreZones schema.zones
  pub prefixes : schema.min_prefix ≤ MAX_WORD_CHARS
