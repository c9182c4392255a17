use Rattle.row_select.proofs.Beyond.{counted}
use Rattle.row_select.proofs.sink.CollectorSink.count.Goals as goal

pub returns : goal.returns
returns c = λ most from first before its needs all long took. counted most from first c.args.self.now before its needs all took
