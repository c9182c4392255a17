use Rattle.std.proofs.Common.{◌≡◌, ◌-◌, ◌≤◌, [], length, take}
use Rattle.srch_base.specs.Moves.{Moves}
use Rattle.serve_line.proofs.writing.write_all.Given as goal

-- a prefix of the bytes was written
abbrev pub invariant-pieces : goal.invariant-pieces
invariant-pieces g l =
    let K = g.K.Link in
    (l.done ≤ length l.bytes) × Moves K l.fn.link l.link (λ before now read written. (read ≡ []) × (written ≡ take l.done l.bytes))

abbrev pub decreases-pieces : goal.decreases-pieces
decreases-pieces g l = length l.bytes - l.done
