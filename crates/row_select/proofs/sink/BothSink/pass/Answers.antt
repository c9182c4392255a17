use Rattle.std.proofs.Common.{◌++◌, ◌∷◌, [], OnOk, Result, Ok, Err}
use Rattle.row_select.proofs.sink.BothSink.pass.Goals as goal

both : {T E : Type 0} (P Q : Type 0) (result : Result T E) → P → OnOk result Q → OnOk result (P × Q)
both P Q (Ok value) one other = (one, other)
both P Q (Err error) one other = tt

pub returns : goal.returns
returns g c = λ first rows its lighter took.
    both (g.A.Sink.Took first.first (rows ++ its ∷ []) c.pass.new.self) (g.B.Sink.Took first.second (rows ++ its ∷ []) c.pass-2.new.self) c.pass-2.result
    (c.in_ok-pass.ensures first.first rows its lighter took.0) (c.pass-2.ensures first.second rows its lighter took.1)
