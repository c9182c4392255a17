-- The text of a schema, as a root keeps it: a line for each column.
use Rattle.std.specs.Prelude.{ℕ, List, [], ◌∷◌, ◌++◌, codes}
use Rattle.std.specs.List.{flat_map}
use Rattle.doc_types.specs.declared.schema.AttrKind.{AttrKind}
use Rattle.doc_types.specs.declared.schema.AttrKind.TheVariants as kinds
use Rattle.doc_types.specs.declared.schema.Schema.{Schema}

-- the word for a kind of attribute, with a blank
abbrev pub kind_text : AttrKind → List ℕ
kind_text kinds.Uint = codes "uint "
kind_text kinds.Bool = codes "bool "
kind_text kinds.Bigint = codes "bigint "
kind_text kinds.Timestamp = codes "timestamp "

-- the line of a field
abbrev pub field_line : List ℕ → List ℕ
field_line name = codes "field " ++ name ++ 10 ∷ []

-- the line of an attribute
abbrev pub attr_line : List ℕ × AttrKind → List ℕ
attr_line attr = kind_text attr.1 ++ attr.0 ++ 10 ∷ []

-- the fields, then the attributes, each on a line of its own
abbrev pub schema_text : Schema → List ℕ
schema_text schema = flat_map field_line schema.fields ++ flat_map attr_line schema.attrs
