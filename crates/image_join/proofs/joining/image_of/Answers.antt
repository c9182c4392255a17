use Rattle.std.proofs.Common.{◌≡◌, ◌++◌, List, ℕ, length, map, rules, sym, ap, ◌∙◌, arith}
use Rattle.std.proofs.lemmas.List.{length-map}
use Rattle.doc_types.specs.declared.documents.DocRow.{DocRow}
use Rattle.doc_types.specs.declared.schema.Schema.{Schema}
use Rattle.doc_types.specs.Documents.{AreRowsOf}
use Rattle.doc_types.specs.Schemas.{IsSchema}
use Rattle.chunk_image.specs.ChunkImage.{IsImageOf, rows_bytes}
use Rattle.image_write.specs.declared.image.Counts.{Counts}
use Rattle.image_write.specs.Headers.{counted}
use Rattle.image_join.specs.steps.Numbering.{AreNumbered, row_in}
use Rattle.image_join.specs.steps.Parts.{PartValue}
use Rattle.image_join.proofs.Imaged.{image_is}
use Rattle.image_join.proofs.Joined.{fields_of, values_of}
use Rattle.image_join.proofs.Lengths.{image_long}
use Rattle.image_join.proofs.joining.image_of.Goals as goal

pub put_rows-requires-clause-wide : goal.put_rows-requires-clause-wide
put_rows-requires-clause-wide g c =
    let parts : List PartValue = c.args.parts.now in
    let order = c.args.order.now in
    let schema = c.requires.of.0 in
    let values = values_of schema parts order c.requires.of.2 in
    let shape = c.shape_of-fields.ensures (length schema.fields) (length schema.attrs) (fields_of schema parts order c.requires.of.2) values c.requires.some in
    λ k d low. values k d low ∙ sym shape.1

pub returns-then-bytes : goal.returns-then-bytes
returns-then-bytes g c =
    let parts : List PartValue = c.args.parts.now in
    let rows : List DocRow = map (row_in parts) c.args.order.now in
    let tables = c.in_ok-tables.tables in
    let columns = c.put_rows.new.columns.items in
    let columns_are : columns ≡ rows_bytes 0 rows = c.in_ok-put_rows.ensures.columns ∙ ap (λ (l : List ℕ). l ++ rows_bytes 0 rows) c.in_ok-columns.ensures.items in
    let numbered : AreNumbered parts c.deref.result.now rows = search rules in
    let its = c.in_ok-tables.ensures rows numbered in
    (image_long rows its.0 tables columns c.put_rows.new.marks.items c.in_ok-bytes.bytes its.1 its.2 columns_are c.in_ok-put_rows.ensures.marks (search rules), search rules)

pub returns : goal.returns
returns g c =
    let parts : List PartValue = c.args.parts.now in
    let order = c.args.order.now in
    let rows : List DocRow = map (row_in parts) order in
    let tables = c.in_ok-tables.tables in
    let columns = c.put_rows.new.columns.items in
    let marks = c.put_rows.new.marks.items in
    let counts : Counts = record { rows = c.in_ok-count_in.field-0; fields = c.shape_of-fields.result.0; attrs = c.shape_of-fields.result.1; words = c.in_ok-count_in-2.field-0; marks = c.in_ok-place_in.field-0; dictionary = c.in_ok-place_in-2.field-0; postings = c.in_ok-place_in-3.field-0 } in
    let columns_are : columns ≡ rows_bytes 0 rows = c.in_ok-put_rows.ensures.columns ∙ ap (λ (l : List ℕ). l ++ rows_bytes 0 rows) c.in_ok-columns.ensures.items in
    let numbered : AreNumbered parts c.deref.result.now rows = search rules in
    let its = c.in_ok-tables.ensures rows numbered in
    let bytes : List ℕ = counted counts ++ columns ++ marks ++ tables.table.items ++ tables.dictionary.items ++ tables.postings.items in
    let is : c.in_ok-image.image.items ≡ bytes = search rules in
    let made : (schema : Schema) → IsSchema schema → AreRowsOf schema rows → IsImageOf schema rows c.in_ok-image.image.items = λ schema limits are.
    let shape = c.shape_of-fields.ensures (length schema.fields) (length schema.attrs) (fields_of schema parts order are) (values_of schema parts order are) c.requires.some in
    image_is schema rows its.0 tables counts columns marks c.in_ok-image.image.items its.1 its.2 c.in_ok-put_rows.ensures.room columns_are c.in_ok-put_rows.ensures.marks
    (c.in_ok-count_in.ensures.is ∙ sym (length-map order (row_in parts))) shape.0 shape.1 c.in_ok-count_in-2.ensures.is (omega (arith, c.in_ok-count_in-2.ensures.is, c.in_ok-count_in-2.ensures.small)) c.in_ok-place_in.ensures.is c.in_ok-place_in-2.ensures.is c.in_ok-place_in-3.ensures.is is in
    (made, c.in_ok-image.ensures.short, omega (arith, c.in_ok-count_in.ensures.small, length-map order (row_in parts)))
