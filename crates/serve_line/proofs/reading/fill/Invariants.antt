use Rattle.std.proofs.Common.{◌≡◌, ◌-◌, [], ◌++◌, None, length}
use Rattle.srch_base.specs.Moves.{Moves}
use Rattle.serve_line.proofs.reading.fill.Given as goal

-- what was read since the call began is held
abbrev pub invariant-reads : goal.invariant-reads
invariant-reads g l =
    let K = g.K.Link in
    record {
      good : l.framer.refused ≡ None;
      moved : Moves K l.fn.link l.link (λ before now read written. (written ≡ []) × (l.framer.held ≡ l.fn.framer.held ++ read));
    }

abbrev pub decreases-reads : goal.decreases-reads
decreases-reads g l = 8388612 - length l.framer.held
