use Rattle.std.proofs.Common.{◌≡◌, ℕ, ◌<◌, ◌≤◌, true, false, All, take, IfSome}
use Rattle.std.specs.List.{list_all, list_any}
use Rattle.row_plans.specs.Cursors.{Agree, has_at}
use Rattle.row_plans.specs.Plans.{holds}
use Rattle.row_plans.proofs.bounds.+bounding.Given as goal

abbrev pub invariant-of_all-loop-part : goal.invariant-of_all-loop-part
invariant-of_all-loop-part g l = Agree (g.C.Chunk.belongs l.chunk) (g.C.Chunk.place l.chunk) l.from l.fn.cursors l.cursors × (l.from < 4294967295 → list_all (holds (has_at (g.C.Chunk.place l.chunk) l.fn.cursors l.from)) (take l.part-index l.parts) ≡ true) × All (λ cursor. IfSome cursor (g.C.Chunk.belongs l.chunk)) l.cursors

abbrev pub invariant-of_any-loop-part : goal.invariant-of_any-loop-part
invariant-of_any-loop-part g l = Agree (g.C.Chunk.belongs l.chunk) (g.C.Chunk.place l.chunk) l.from l.fn.cursors l.cursors × (l.from ≤ l.least) × (l.from < 4294967295 → l.from < l.least) × ((row : ℕ) → l.from ≤ row → row < l.least → list_any (holds (has_at (g.C.Chunk.place l.chunk) l.fn.cursors row)) (take l.part-index l.parts) ≡ false) × All (λ cursor. IfSome cursor (g.C.Chunk.belongs l.chunk)) l.cursors
