use Rattle.std.proofs.Common.{◌≡◌, ◌++◌, take, drop, length, map, All}
use Rattle.std.specs.List.{flat_map}
use Rattle.chunk_image.specs.Marks.{row_marks}
use Rattle.chunk_image.specs.ChunkImage.{HasRoom, rows_bytes}
use Rattle.image_write.specs.Written.{row_of}
use Rattle.image_write.proofs.columns.put_rows.Given as goal

abbrev pub invariant-loop-row : goal.invariant-loop-row
invariant-loop-row g l = record {
  columns : l.columns.items ++ rows_bytes (length l.marks.items) (map (λ row. row_of (g.R.LendsDoc.lent row) (g.R.LendsDoc.born_at l.number row)) (drop l.row-index l.rows)) ≡ l.fn.columns.items ++ rows_bytes 0 (map (λ row. row_of (g.R.LendsDoc.lent row) (g.R.LendsDoc.born_at l.number row)) l.rows);
  marks : l.marks.items ≡ flat_map row_marks (map (λ row. row_of (g.R.LendsDoc.lent row) (g.R.LendsDoc.born_at l.number row)) (take l.row-index l.rows));
  room : All (λ row. HasRoom (row_of (g.R.LendsDoc.lent row) (g.R.LendsDoc.born_at l.number row))) (take l.row-index l.rows);
}
