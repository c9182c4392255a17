use Rattle.mysql_wire.specs.Payloads.{number_fields}
use Rattle.mysql_wire.specs.steps.Layouts.{number_layout}
use Rattle.mysql_wire.proofs.ScanLaws.{reads}
use Rattle.mysql_wire.proofs.LayoutLaws.{number_fits}
use Rattle.mysql_wire.proofs.readers.read_lenenc.Goals as goal

pub returns-clause-reads : goal.returns-clause-reads
returns-clause-reads c = rw c.answer.ensures (reads number_layout number_fields number_fits (λ n. n) c.args.payload.now c.number_in.result c.number_in.ensures)
