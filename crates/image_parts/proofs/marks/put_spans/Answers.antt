use Rattle.std.proofs.Common.{◌∷◌, length, sym, ◌∙◌}
use Rattle.std.specs.List.{flat_map}
use Rattle.doc_types.specs.Chunks.{spans_of}
use Rattle.chunk_image.specs.Marks.{span_numbers}
use Rattle.image_parts.proofs.RowPlaces.{element, low_too}
use Rattle.image_parts.proofs.MarkPlaces.{appended, fields_there, was_ok}
use Rattle.image_parts.proofs.MarkRoom.{marked}
use Rattle.image_parts.proofs.marks.put_spans.Goals as goal

pub behind_fields-at-requires : goal.behind_fields-at-requires
behind_fields-at-requires c =
    let r = c.requires in
    let found = element r.0 c.args.row r.4 in
    (found.0.doc.fields, length (spans_of found.0) ∷ flat_map span_numbers (spans_of found.0), c.marks_place.ensures.numbers r.0 r.1 found.0 r.2 r.3 found.1, fields_there r.0 r.1 c.args.parts c.args.row found.0 r.3 found.1)

pub put_counted_spans-requires : goal.put_counted_spans-requires
put_counted_spans-requires c =
    let r = c.requires in
    let found = element r.0 c.args.row r.4 in (
      spans_of found.0,
      c.behind_fields-at.ensures found.0.doc.fields (length (spans_of found.0) ∷ flat_map span_numbers (spans_of found.0)) (c.marks_place.ensures.numbers r.0 r.1 found.0 r.2 r.3 found.1) (fields_there r.0 r.1 c.args.parts c.args.row found.0 r.3 found.1),
      (marked r.0 r.1 c.args.image.now r.2 c.args.row found.0 found.1).spans,
    )

pub returns-clause-ok : goal.returns-clause-ok
returns-clause-ok c = λ rows words have are.
    let r = c.requires in
    let found = element rows c.args.row (low_too r.0 rows r.1 words c.args.parts c.args.row r.3 are r.4) in
    let put = was_ok c.put_counted_spans.result _ (sym c.is_err.ensures.value ∙ c.if-is_err.false) c.put_counted_spans.ensures.ok in
    appended spans_of rows c.args.row found.0 c.args.into.now.items c.put_counted_spans.new.into.items found.1
    (put (spans_of found.0)
    (c.behind_fields-at.ensures found.0.doc.fields (length (spans_of found.0) ∷ flat_map span_numbers (spans_of found.0)) (c.marks_place.ensures.numbers rows words found.0 have are found.1) (fields_there rows words c.args.parts c.args.row found.0 are found.1))
    (marked rows words c.args.image.now have c.args.row found.0 found.1).spans)
