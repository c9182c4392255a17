use Rattle.mysql_wire.specs.Payloads.{eof_fields}
use Rattle.mysql_wire.specs.steps.Layouts.{eof_layout}
use Rattle.mysql_wire.proofs.ScanLaws.{reads}
use Rattle.mysql_wire.proofs.LayoutLaws.{eof_fits}
use Rattle.mysql_wire.proofs.readers.read_eof.Goals as goal

pub returns-clause-reads : goal.returns-clause-reads
returns-clause-reads c = rw c.answer.ensures (reads eof_layout eof_fields eof_fits (λ eof. eof) c.args.payload.now c.eof_in.result c.eof_in.ensures)
