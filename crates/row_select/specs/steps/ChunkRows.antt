-- Where a document stands that is read as a row.
use Rattle.std.specs.Prelude.{◌≡◌, ◌<◌, ℕ, List, Some, length, slice_get}
use Rattle.doc_types.specs.declared.documents.DocRow.{DocRow}

-- it is one of these documents, and has so many attributes
pub record StandsIn (docs : List DocRow) (number attrs : ℕ) : Type 0 where
  pub within : number < length docs
  pub attrs_are : (doc : DocRow) → slice_get docs number ≡ Some doc → length doc.doc.values ≡ attrs
