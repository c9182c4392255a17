use Rattle.std.proofs.Common.{◌∷◌, length, map, sym, ◌∙◌}
use Rattle.std.specs.List.{flat_map}
use Rattle.doc_types.specs.declared.documents.DocRow.{DocRow}
use Rattle.doc_types.specs.Chunks.{last_position, spans_of}
use Rattle.chunk_image.specs.Marks.{span_numbers}
use Rattle.image_parts.proofs.RowPlaces.{element, low_too}
use Rattle.image_parts.proofs.MarkPlaces.{appended, fields_there, was_ok}
use Rattle.image_parts.proofs.marks.put_lasts.Goals as goal

pub put_field_lasts-requires : goal.put_field_lasts-requires
put_field_lasts-requires c =
    let r = c.requires in
    let found = element r.0 c.args.row r.4 in
    (found.0.doc.fields, length (spans_of found.0) ∷ flat_map span_numbers (spans_of found.0), c.marks_place-at.ensures.numbers r.0 r.1 found.0 r.2 r.3 found.1, fields_there r.0 r.1 c.args.parts c.args.row found.0 r.3 found.1)

pub returns-clause-ok : goal.returns-clause-ok
returns-clause-ok c = λ rows words have are.
    let r = c.requires in
    let found = element rows c.args.row (low_too r.0 rows r.1 words c.args.parts c.args.row r.3 are r.4) in
    let put = was_ok c.put_field_lasts.result _ (sym c.is_err.ensures.value ∙ c.if-is_err.false) c.put_field_lasts.ensures.ok in
    appended (λ (row : DocRow). map last_position row.doc.fields) rows c.args.row found.0 c.args.into.now.items c.put_field_lasts.new.into.items found.1
    (put found.0.doc.fields (length (spans_of found.0) ∷ flat_map span_numbers (spans_of found.0)) (c.marks_place-at.ensures.numbers rows words found.0 have are found.1) (fields_there rows words c.args.parts c.args.row found.0 are found.1))
