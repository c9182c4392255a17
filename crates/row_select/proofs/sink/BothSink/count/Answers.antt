use Rattle.std.proofs.Common.{◌++◌, OnOk, Result, Ok, Err}
use Rattle.row_select.proofs.sink.BothSink.count.Goals as goal

both : {T E : Type 0} (P Q : Type 0) (result : Result T E) → P → OnOk result Q → OnOk result (P × Q)
both P Q (Ok value) one other = (one, other)
both P Q (Err error) one other = tt

pub returns : goal.returns
returns g c = λ most from first before its counts all long took.
    both (g.A.Sink.Took first.first (before ++ its) c.count.new.self) (g.B.Sink.Took first.second (before ++ its) c.count-2.new.self) c.count-2.result
    (c.in_ok-count.ensures most from first.first before its counts.0 all long took.0) (c.count-2.ensures most from first.second before its counts.1 all long took.1)
