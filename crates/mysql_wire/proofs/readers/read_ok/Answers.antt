use Rattle.mysql_wire.specs.Payloads.{ok_fields}
use Rattle.mysql_wire.specs.steps.Layouts.{ok_layout}
use Rattle.mysql_wire.proofs.ScanLaws.{reads}
use Rattle.mysql_wire.proofs.LayoutLaws.{ok_fits}
use Rattle.mysql_wire.proofs.readers.read_ok.Goals as goal

pub returns-clause-reads : goal.returns-clause-reads
returns-clause-reads c = rw c.answer.ensures (reads ok_layout ok_fields ok_fits (λ ok. ok) c.args.payload.now c.ok_in.result c.ok_in.ensures)
