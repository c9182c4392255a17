use Rattle.mysql_wire.specs.Payloads.{greeting_fields}
use Rattle.mysql_wire.specs.steps.Layouts.{greeting_layout}
use Rattle.mysql_wire.proofs.ScanLaws.{reads}
use Rattle.mysql_wire.proofs.LayoutLaws.{greeting_fits}
use Rattle.mysql_wire.proofs.readers.read_greeting.Goals as goal

pub returns-clause-reads : goal.returns-clause-reads
returns-clause-reads c = rw c.answer.ensures (reads greeting_layout greeting_fields greeting_fits (λ greeting. greeting) c.args.payload.now c.greeting_in.result c.greeting_in.ensures)
