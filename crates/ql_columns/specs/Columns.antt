-- The columns of an index, as statements name them: `id`, a field or an attribute.
use Rattle.std.specs.Prelude.{ℕ, zero, suc, List, [], ◌∷◌, ◌++◌, map, length, Bool, not, is_some, codes, Option, Some, None, if◌then◌else◌, slice_index_or}
use Rattle.std.specs.List.{position}
use Rattle.std.specs.Str.{bytes_eq}
use Rattle.doc_types.specs.declared.schema.AttrKind.{AttrKind}
use Rattle.doc_types.specs.declared.schema.AttrKind.TheVariants.{Uint}
use Rattle.doc_types.specs.declared.schema.Schema.{Schema}
use Rattle.ql_columns.specs.declared.columns.IndexColumn.{IndexColumn}
use Rattle.ql_columns.specs.declared.columns.IndexColumn.TheVariants.{Id, Field, Attr}
use Rattle.ql_refusals.specs.Refusals.{Refused, unknown_column, column_twice}

-- the column of every index
abbrev pub id_name : List ℕ
id_name = codes "id"

abbrev pub attr_names : Schema → List (List ℕ)
attr_names schema = map (λ attr. attr.0) schema.attrs

-- the place of the field, or of the attribute, with a name
abbrev pub field_place : Schema → List ℕ → Option ℕ
field_place schema name = position (λ field. bytes_eq field name) schema.fields

abbrev pub attr_place : Schema → List ℕ → Option ℕ
attr_place schema name = position (λ attr. bytes_eq attr.0 name) schema.attrs

abbrev pub field_or_attr : Option ℕ → Option ℕ → Option IndexColumn
field_or_attr None None = None
field_or_attr None (Some attr) = Some (Attr attr)
field_or_attr (Some field) attr = Some (Field field)

-- the column of this name: the id, a field or an attribute, by its place in the schema
abbrev pub column_named : Schema → List ℕ → Option IndexColumn
column_named schema name = if bytes_eq name id_name then Some Id else field_or_attr (field_place schema name) (attr_place schema name)

-- what is wrong with a name in a list of columns, by whether it is among those before it: no column has it, or it is there twice
abbrev pub name_fault : Schema → Bool → List ℕ → Option Refused
name_fault schema before name =
    if not (is_some (column_named schema name)) then Some (unknown_column name)
    else (if before then Some (column_twice name) else None)

-- as many columns of one kind, by their places
abbrev pub numbered : (ℕ → IndexColumn) → ℕ → List IndexColumn
numbered make zero = []
numbered make (suc count) = numbered make count ++ make count ∷ []

-- all columns in schema order: the id, the fields, the attributes
abbrev pub all_columns : Schema → List IndexColumn
all_columns schema = Id ∷ numbered Field (length schema.fields) ++ numbered Attr (length schema.attrs)

-- a column's name
abbrev pub name_of : Schema → IndexColumn → List ℕ
name_of schema Id = id_name
name_of schema (Field field) = slice_index_or schema.fields field []
name_of schema (Attr attr) = slice_index_or (attr_names schema) attr []

-- the kind of an attribute, by its place in the schema
abbrev pub kind_of : Schema → ℕ → AttrKind
kind_of schema attr = (slice_index_or schema.attrs attr ([], Uint)).1
