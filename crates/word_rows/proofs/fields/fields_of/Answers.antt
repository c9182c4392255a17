use Rattle.std.proofs.Common.{◌≡◌, Option, Some, IfSome, IsSome, bit_and, sym, ap, subst, ◌∙◌}
use Rattle.doc_types.specs.declared.cursor.Cursor.{Cursor}
use Rattle.doc_types.specs.Chunks.{next_row}
use Rattle.word_rows.specs.Keywords.{has_field}
use Rattle.word_rows.specs.Slots.{Stands, next_of, next_with}
use Rattle.word_rows.proofs.FieldBits.{absent_fields, absent_there, fields_there, key_fields}
use Rattle.word_rows.proofs.Opening.{is_left, row_there}
use Rattle.word_rows.proofs.PlacedRows.{IsPlacedRow, at_one, placed_rows}
use Rattle.word_rows.proofs.fields.fields_of.Goals as goal

pub fields_at-requires-clause-left : goal.fields_at-requires-clause-left
fields_at-requires-clause-left g c =
    let place = g.C.Chunk.place c.args.chunk.now in
    let rows = g.C.Chunk.content c.args.chunk.now in
    let there = row_there rows c.args.row c.requires.row in
    subst (λ (cursor : Option Cursor). IfSome cursor (λ its. IsSome (next_row (place its)))) c.in-Some.is
    (is_left (g.C.Chunk.belongs c.args.chunk.now) place rows c.args.row c.args.key.now.word there.0 there.1 c.args.cursor c.requires.at (sym (c.requires.seen there.0 there.1) ∙ c.if-present.true))

pub returns-in-None-clause-fields : goal.returns-in-None-clause-fields
returns-in-None-clause-fields g c = λ found here looks.
    absent_fields found c.args.key.now
    (absent_there (g.C.Chunk.place c.args.chunk.now) (g.C.Chunk.content c.args.chunk.now) c.args.row c.args.key.now.word found here c.args.cursor c.in-None.is c.requires.at)

pub returns-then-present-clause-fields : goal.returns-then-present-clause-fields
returns-then-present-clause-fields g c = λ found here looks field.
    let belongs = g.C.Chunk.belongs c.args.chunk.now in
    let place = g.C.Chunk.place c.args.chunk.now in
    let rows = g.C.Chunk.content c.args.chunk.now in
    let key = c.args.key.now in
    let stands : Stands belongs place rows c.args.row key.word (Some c.in-Some.cursor) = subst (Stands belongs place rows c.args.row key.word) c.in-Some.is c.requires.its in
    let next : next_of place (Some c.in-Some.cursor) ≡ next_with key.word rows c.args.row = ap (next_of place) (sym c.in-Some.is) ∙ c.requires.at in
    let bits = fields_there belongs place rows c.args.row key.word found here c.in-Some.cursor stands next (sym (c.requires.seen found here) ∙ c.if-present.true) in
    ap (λ n. has_field (bit_and n key.limit.fields) field) (c.fields_at.ensures.bits ∙ bits)
    ∙ key_fields found key looks (at_one IsPlacedRow rows (placed_rows rows (g.met.C.Chunk.whole c.args.chunk.now)) c.args.row found here) field

pub returns-else-present-clause-fields : goal.returns-else-present-clause-fields
returns-else-present-clause-fields g c = λ found here looks.
    absent_fields found c.args.key.now (sym (c.requires.seen found here) ∙ c.if-present.false)
