use Rattle.std.proofs.Common.{ℕ, List, ap, length, arith}
use Rattle.std.specs.Arc.{arc_value}
use Rattle.doc_types.specs.Snapshots.{LayerValue, living}
use Rattle.doc_types.proofs.Living.{all_rows}
use Rattle.doc_types.proofs.snapshot.Layer.live_count.Goals as goal

pub overflow_cast-result : goal.overflow_cast-result
overflow_cast-result g c =
    let all = all_rows (record { rows = g.C.Chunk.content (arc_value c.self.inside.chunk); disk = c.self.inside.disk; dead = arc_value c.self.inside.dead }) c.self.invariant in
    let dead = ap (λ (rows : List ℕ). length rows) c.deref-dead.ensures in
    omega (arith, all, dead, c.rows.ensures, c.len.ensures, ap (λ (chunk : g.row.C.Denot). length (g.C.Chunk.content chunk)) c.deref-chunk.ensures)

pub overflow_sub-result : goal.overflow_sub-result
overflow_sub-result g c =
    let all = all_rows (record { rows = g.C.Chunk.content (arc_value c.self.inside.chunk); disk = c.self.inside.disk; dead = arc_value c.self.inside.dead }) c.self.invariant in
    let dead = ap (λ (rows : List ℕ). length rows) c.deref-dead.ensures in
    omega (arith, all, dead, c.rows.ensures, c.len.ensures, ap (λ (chunk : g.row.C.Denot). length (g.C.Chunk.content chunk)) c.deref-chunk.ensures)

pub returns : goal.returns
returns g c =
    let layer : LayerValue = record { rows = g.C.Chunk.content (arc_value c.self.inside.chunk); disk = c.self.inside.disk; dead = arc_value c.self.inside.dead } in
    let all = all_rows layer c.self.invariant in
    let dead = ap (λ (rows : List ℕ). length rows) c.deref-dead.ensures in
    omega (arith, all, dead, c.rows.ensures, c.len.ensures, ap (λ (chunk : g.row.C.Denot). length (g.C.Chunk.content chunk)) c.deref-chunk.ensures, ap (λ (l : LayerValue). length (living l)) c.self.view_is)
