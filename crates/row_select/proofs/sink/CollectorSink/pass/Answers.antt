use Rattle.row_select.proofs.Lighter.{passed}
use Rattle.row_select.proofs.sink.CollectorSink.pass.Goals as goal

pub returns : goal.returns
returns g c = λ first rows its lighter took. passed first c.args.self.now rows (g.R.FoundRow.as_row c.args._row.now) its c.requires lighter took
