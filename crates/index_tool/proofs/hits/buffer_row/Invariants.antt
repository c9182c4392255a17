use Rattle.std.proofs.Common.{◌≡◌, Ok, take}
use Rattle.std.specs.List.{flat_map}
use Rattle.doc_types.specs.declared.documents.DocRow.{DocRow}
use Rattle.index_tool.specs.ToolLines.{hit_line}
use Rattle.index_tool.specs.steps.Sides.{BuffersLines}
use Rattle.index_tool.proofs.hits.buffer_row.Given as goal

abbrev pub invariant-hits : goal.invariant-hits
invariant-hits g l = (row : DocRow) → row.doc.id ≡ l.id → BuffersLines {T = Unit {0}} g.H.ToolHost (Ok tt) (flat_map (hit_line l.wanted.schema.now l.wanted.entry.now row) (take l.hit-index l.hits)) (l.initial.line.items, l.initial.host) (l.line.items, l.host)
