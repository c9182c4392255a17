use Rattle.std.proofs.Common.{◌≡◌, ◌∙◌, ◌++◌, ℕ, List, Ok, Err, ap, sym, subst}
use Rattle.std.specs.List.{flat_map, list_any}
use Rattle.std.specs.Prelude.{◌==◌}
use Rattle.doc_types.specs.Chunks.{CursorPlace, hits_ahead, hits_of}
use Rattle.doc_types.specs.declared.documents.DocRow.{DocRow}
use Rattle.index_tool.specs.ToolLines.{hit_line}
use Rattle.index_tool.specs.steps.Sides.{BuffersLines}
use Rattle.index_tool.proofs.HitRows.{IsAmid, IsThere, amid_first, amid_live, amid_stop, amid_wanting, hits_are, is_there, next_below}
use Rattle.index_tool.proofs.hits.buffer_from.Goals as goal

pub rows-init : goal.rows-init
rows-init g c =
    let rows : List DocRow = g.C.Chunk.content c.args.chunk.now in
    let w = c.args.wanted in
    record {
      belongs = c.requires.belongs;
      word = ap (λ (p : CursorPlace). p.word) c.requires.first;
      amid = subst (λ (p : CursorPlace). IsAmid w.schema.now w.word.now w.entry.now rows g.H.ToolHost p.ahead (c.args.line.now.items, c.args.host.now) (c.args.line.now.items, c.args.host.now)) (sym c.requires.first) (amid_first w.schema.now w.word.now w.entry.now rows g.H.ToolHost (c.args.line.now.items, c.args.host.now));
    }

pub id-requires : goal.id-requires
id-requires g c =
    next_below (g.C.Chunk.content c.args.chunk.now) (g.C.Chunk.place c.args.chunk.now c.rows.here) c.in-Some.row (g.met.C.Chunk.places c.args.chunk.now c.rows.here c.rows.invariant.belongs) c.in-Some.ensures.next

pub returns-in-Err-buffer_row : goal.returns-in-Err-buffer_row
returns-in-Err-buffer_row g c =
    let rows : List DocRow = g.C.Chunk.content c.args.chunk.now in
    let w = c.args.wanted in
    let place : CursorPlace = g.C.Chunk.place c.args.chunk.now c.rows.here in
    let its : IsThere rows c.in-Some.row c.id.result = is_there rows c.in-Some.row c.id.result c.id.ensures in
    let hits : c.as_slice-in-Some.result.now ≡ hits_of w.word.now its.its =
    c.as_slice-in-Some.ensures.value ∙ c.in-Ok.ensures.ok ∙ ap (λ (l : List (ℕ × ℕ)). l ++ hits_ahead rows place) c.clear.ensures.items ∙ hits_are rows place w.word.now c.in-Some.row its.its (sym c.in-Some.ensures.next) its.there c.rows.invariant.word in
    amid_stop w.schema.now w.word.now w.entry.now rows (Unit {0}) g.H.ToolHost c.in-Err-buffer_row.stop place.ahead c.in-Some.row its.its (c.args.line.now.items, c.args.host.now) (c.rows.line.items, c.rows.host) (c.buffer_row.new.line.items, c.buffer_row.new.host) (sym c.in-Some.ensures.next)
    (ap (list_any (λ (d : ℕ). d == c.in-Some.row)) (sym c.as_slice.ensures) ∙ sym c.is_dead.ensures ∙ c.if-is_dead.false) its.there
    (subst (λ (l : List (ℕ × ℕ)). BuffersLines {T = Unit {0}} g.H.ToolHost (Err c.in-Err-buffer_row.stop) (flat_map (hit_line w.schema.now w.entry.now its.its) l) (c.rows.line.items, c.rows.host) (c.buffer_row.new.line.items, c.buffer_row.new.host)) hits (c.in-Err-buffer_row.ensures its.its its.named)) c.rows.invariant.amid

pub rows-preserved : goal.rows-preserved
rows-preserved g c =
    let rows : List DocRow = g.C.Chunk.content c.args.chunk.now in
    let w = c.args.wanted in
    let place : CursorPlace = g.C.Chunk.place c.args.chunk.now c.rows.here in
    let its : IsThere rows c.in-Some.row c.id.result = is_there rows c.in-Some.row c.id.result c.id.ensures in
    let hits : c.as_slice-in-Some.result.now ≡ hits_of w.word.now its.its =
    c.as_slice-in-Some.ensures.value ∙ c.in-Ok.ensures.ok ∙ ap (λ (l : List (ℕ × ℕ)). l ++ hits_ahead rows place) c.clear.ensures.items ∙ hits_are rows place w.word.now c.in-Some.row its.its (sym c.in-Some.ensures.next) its.there c.rows.invariant.word in
    record {
      belongs = c.advance-in-Some.ensures.stays;
      word = ap (λ (p : CursorPlace). p.word) c.advance-in-Some.ensures.next ∙ c.rows.invariant.word;
      amid = subst (λ (p : CursorPlace). IsAmid w.schema.now w.word.now w.entry.now rows g.H.ToolHost p.ahead (c.args.line.now.items, c.args.host.now) (c.buffer_row.new.line.items, c.buffer_row.new.host)) (sym c.advance-in-Some.ensures.next)
          (amid_live w.schema.now w.word.now w.entry.now rows g.H.ToolHost (tt {0}) place.ahead c.in-Some.row its.its (c.args.line.now.items, c.args.host.now) (c.rows.line.items, c.rows.host) (c.buffer_row.new.line.items, c.buffer_row.new.host) (sym c.in-Some.ensures.next)
          (ap (list_any (λ (d : ℕ). d == c.in-Some.row)) (sym c.as_slice.ensures) ∙ sym c.is_dead.ensures ∙ c.if-is_dead.false) its.there
          (subst (λ (l : List (ℕ × ℕ)). BuffersLines {T = Unit {0}} g.H.ToolHost (Ok tt) (flat_map (hit_line w.schema.now w.entry.now its.its) l) (c.rows.line.items, c.rows.host) (c.buffer_row.new.line.items, c.buffer_row.new.host)) hits (c.in-Ok-buffer_row.ensures its.its its.named)) c.rows.invariant.amid);
    }

pub returns-in-Err : goal.returns-in-Err
returns-in-Err g c =
    let w = c.args.wanted in
    amid_wanting w.schema.now w.word.now w.entry.now (g.C.Chunk.content c.args.chunk.now) (Unit {0}) g.H.ToolHost (g.C.Chunk.place c.args.chunk.now c.rows.here).ahead (c.args.line.now.items, c.args.host.now) (c.rows.line.items, c.rows.host) c.rows.invariant.amid
