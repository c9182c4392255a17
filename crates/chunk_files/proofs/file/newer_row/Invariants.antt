use Rattle.std.specs.Prelude.{nat_lt}
use Rattle.chunk_files.proofs.First.{NonePass}
use Rattle.chunk_files.proofs.file.newer_row.Given as goal

abbrev pub invariant-rows : goal.invariant-rows
invariant-rows l = NonePass (λ row. nat_lt l.through row.born) l.row l.image.image.0.0
