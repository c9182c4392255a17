use Rattle.chunk_store.proofs.Weaker.{crashes_by, both_by, changes_by}
use Rattle.gate_log.proofs.Steps.{gate_torn, gate_whole}
use Rattle.gate_log.proofs.log.GateLog.open_gate.Goals as goal

pub returns-in-Err-clause-stands : goal.returns-in-Err-clause-stands
returns-in-Err-clause-stands g c =
    let log = c.args.self.now in
    (both_by _ _ (λ d x told changes. changes_by log.file d x (λ tears records r stands. gate_torn log records r (d log.file) (x log.file) tears stands) changes) c.in-Err.ensures.written)

pub returns-in-Err-clause-crash : goal.returns-in-Err-clause-crash
returns-in-Err-clause-crash g c =
    let log = c.args.self.now in
    crashes_by _ _ _ (λ d x may changes. changes_by log.file d x (λ tears records r stands. gate_torn log records r (d log.file) (x log.file) tears stands) changes) c.put.ensures.crash

pub returns-in-Ok-clause-crash : goal.returns-in-Ok-clause-crash
returns-in-Ok-clause-crash g c =
    let log = c.args.self.now in
    crashes_by _ _ _ (λ d x may changes. changes_by log.file d x (λ tears records r stands. gate_torn log records r (d log.file) (x log.file) tears stands) changes) c.put.ensures.crash

pub returns-in-Ok-clause-stands : goal.returns-in-Ok-clause-stands
returns-in-Ok-clause-stands g c =
    let log = c.args.self.now in
    let disk = c.args.disk.now in
    both_by _ _ (λ d x told changes. changes_by log.file d x (λ writes records r stands.
    gate_whole log records r (d log.file) (x log.file) (g.met.D.Disk.short disk d log.file (g.met.D.Disk.passes disk d told)) writes stands) changes) c.in-Ok.ensures.written
