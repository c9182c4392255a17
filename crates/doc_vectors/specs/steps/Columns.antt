-- Documents by the numbers of their fields and values, and the columns of those of the tables.
use Rattle.std.specs.Prelude.{◌≡◌, ◌<◌, ◌≤◌, ℕ, List, [], ◌∷◌, false, true, length, codes, All, AllPairs}
use Rattle.doc_types.specs.declared.documents.DocRow.{DocRow}
use Rattle.doc_types.specs.declared.schema.Schema.{Schema}
use Rattle.doc_types.specs.declared.schema.AttrKind.TheVariants as kinds
use Rattle.doc_types.specs.declared.tokens.FieldTokens.{FieldTokens}
use Rattle.doc_types.specs.Documents.{IsField}
use Rattle.doc_types.specs.Schemas.{IsSchema}

-- three fields and two attributes
abbrev pub the_schema : Schema
the_schema = record {
  name = codes "rt";
  fields = codes "title" ∷ codes "content" ∷ codes "note" ∷ [];
  attrs = (codes "gid", kinds.Uint) ∷ (codes "price", kinds.Bigint) ∷ [];
  zones = [];
  sp = true;
  min_prefix = 0;
}

-- one field
abbrev pub one_schema : Schema
one_schema = record { name = codes "one"; fields = codes "title" ∷ []; attrs = []; zones = []; sp = false; min_prefix = 0 }

-- as many fields as there may be
abbrev pub wide_schema : Schema
wide_schema = record {
  name = codes "wide";
  fields =
      codes "a" ∷ codes "b" ∷ codes "c" ∷ codes "d" ∷ codes "e" ∷ codes "f" ∷ codes "g" ∷ codes "h" ∷
      codes "i" ∷ codes "j" ∷ codes "k" ∷ codes "l" ∷ codes "m" ∷ codes "n" ∷ codes "o" ∷ codes "p" ∷
      codes "q" ∷ codes "r" ∷ codes "s" ∷ codes "t" ∷ codes "u" ∷ codes "v" ∷ codes "w" ∷ codes "x" ∷
      codes "y" ∷ codes "z" ∷ codes "aa" ∷ codes "ab" ∷ codes "ac" ∷ codes "ad" ∷ codes "ae" ∷ codes "af" ∷ [];
  attrs = [];
  zones = [];
  sp = false;
  min_prefix = 0;
}

-- a schema has so many fields and attributes
pub record HasShape (schema : Schema) (fields attrs : ℕ) : Type 0 where
  pub limits : IsSchema schema
  pub fields_n : length schema.fields ≡ fields
  pub attrs_n : length schema.attrs ≡ attrs

-- the tokens of a field, with a thousand spans at most
pub record IsShort (tokens : FieldTokens) : Type 0 where
  pub field : IsField tokens
  pub few : length tokens.spans ≤ 1000

-- so many fields
pub record AreFields (n : ℕ) (fields : List FieldTokens) : Type 0 where
  pub count : length fields ≡ n
  pub each : All IsShort fields

-- so many values
abbrev pub HasValues : ℕ → DocRow → Type 0
HasValues n row = length row.doc.values ≡ n

-- rows of so many fields and values, by ascending id
pub record AreListed (fields values : ℕ) (rows : List DocRow) : Type 0 where
  pub ids : AllPairs (λ row later. row.doc.id < later.doc.id) rows
  pub filled : All (λ row. AreFields fields row.doc.fields) rows
  pub valued : All (HasValues values) rows
