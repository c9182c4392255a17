-- Rows that can be written: those of a schema with so many fields and attributes.
use Rattle.std.specs.Prelude.{◌≡◌, ℕ, List, length}
use Rattle.doc_types.specs.declared.documents.Doc.{Doc}
use Rattle.doc_types.specs.declared.documents.DocRow.{DocRow}
use Rattle.doc_types.specs.declared.schema.Schema.{Schema}
use Rattle.doc_types.specs.Documents.{AreRowsOf}
use Rattle.doc_types.specs.Schemas.{IsSchema}

-- the rows are of the schema, which has so many fields and attributes
pub record IsWritten (schema : Schema) (rows : List DocRow) (fields attrs : ℕ) : Type 0 where
  pub limits : IsSchema schema
  pub of : AreRowsOf schema rows
  pub fields_n : length schema.fields ≡ fields
  pub attrs_n : length schema.attrs ≡ attrs

-- the row of a document that the commit of this number put
abbrev pub row_of : Doc → ℕ → DocRow
row_of doc born = record { doc = doc; born = born }
