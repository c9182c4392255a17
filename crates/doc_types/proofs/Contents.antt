-- What a chunk's rows keep, as bounds.
use Rattle.std.proofs.Common.{◌≤◌, length, arith, All, List}
use Rattle.doc_types.specs.declared.documents.DocRow.{DocRow}
use Rattle.doc_types.specs.Chunks.{IsContent}
use Rattle.doc_types.specs.declared.schema.TheConstants.{MAX_FIELDS}

pub few_fields : (rows : List DocRow) → IsContent rows → All (λ row. length row.doc.fields ≤ MAX_FIELDS) rows
few_fields rows content k d h = omega (arith, (content.of.docs k d h).fields, content.limits.few_fields)
