use Rattle.std.proofs.Common.{arith, sym}
use Rattle.chunk_files.proofs.First.{none_found}
use Rattle.std.specs.Prelude.{nat_lt}
use Rattle.chunk_files.proofs.Scanned.{newer_here, newer_later}
use Rattle.doc_types.specs.declared.documents.DocRow.{DocRow}
use Rattle.chunk_files.proofs.file.newer_row.Goals as goal

pub returns-then-born-through : goal.returns-then-born-through
returns-then-born-through c =
    sym (newer_here c.args.through c.args.image.now.image.0.0 c.rows.row c.born.result c.rows.invariant (omega (arith, c.rows-test.true, c.rows-row-end.ensures)) c.born.ensures (omega (arith, c.if-born-through.true)))

pub rows-preserved : goal.rows-preserved
rows-preserved c =
    newer_later c.args.through c.args.image.now.image.0.0 c.rows.row c.born.result c.rows.invariant (omega (arith, c.rows-test.true, c.rows-row-end.ensures)) c.born.ensures (omega (arith, c.if-born-through.false))

pub returns : goal.returns
returns c = sym (none_found (λ (row : DocRow). nat_lt c.args.through row.born) c.rows.row c.args.image.now.image.0.0 c.rows.invariant (omega (arith, c.rows-test.false, c.rows-row-end.ensures)))
