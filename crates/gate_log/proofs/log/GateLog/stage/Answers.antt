use Rattle.std.proofs.Common.{List, ℕ, None, subst, arith}
use Rattle.chunk_store.specs.Images.{Writes}
use Rattle.chunk_store.proofs.Weaker.{crashes_by, both_by, changes_by}
use Rattle.gate_log.proofs.Steps.{is_long, stage_torn, stage_whole}
use Rattle.gate_log.proofs.log.GateLog.stage.Goals as goal

pub returns-in-Err-clause-stands : goal.returns-in-Err-clause-stands
returns-in-Err-clause-stands g c =
    let log = c.args.self.now in
    let disk = c.args.disk.now in
    (both_by _ _ (λ d x told changes. changes_by log.file d x (λ tears records stands.
    stage_torn log records _ _ (d log.file) (x log.file) (omega (arith, c.saturating_add.ensures, is_long log records None (d log.file) stands, g.met.D.Disk.short disk d log.file (g.met.D.Disk.passes disk d told))) tears stands) changes) c.in-Err.ensures.written)

pub returns-in-Err-clause-crash : goal.returns-in-Err-clause-crash
returns-in-Err-clause-crash g c =
    let log = c.args.self.now in
    let disk = c.args.disk.now in
    crashes_by _ _ _ (λ d x may changes. changes_by log.file d x (λ tears records stands.
    stage_torn log records _ _ (d log.file) (x log.file) (omega (arith, c.saturating_add.ensures, is_long log records None (d log.file) stands, g.met.D.Disk.short disk d log.file may)) tears stands) changes) c.put.ensures.crash

pub returns-in-Ok-clause-crash : goal.returns-in-Ok-clause-crash
returns-in-Ok-clause-crash g c =
    let log = c.args.self.now in
    let disk = c.args.disk.now in
    crashes_by _ _ _ (λ d x may changes. changes_by log.file d x (λ tears records stands.
    stage_torn log records _ _ (d log.file) (x log.file) (omega (arith, c.saturating_add.ensures, is_long log records None (d log.file) stands, g.met.D.Disk.short disk d log.file may)) tears stands) changes) c.put.ensures.crash

pub returns-in-Ok-clause-stands : goal.returns-in-Ok-clause-stands
returns-in-Ok-clause-stands g c =
    let log = c.args.self.now in
    let disk = c.args.disk.now in
    both_by _ _ (λ d x told changes. changes_by log.file d x (λ writes records stands.
    stage_whole log records _ c.args.staged.now (d log.file) (x log.file) (omega (arith, c.saturating_add.ensures, is_long log records None (d log.file) stands, g.met.D.Disk.short disk d log.file (g.met.D.Disk.passes disk d told)))
    c.as_bytes.ensures.fits c.requires.number c.requires.follows (subst (λ (l : List ℕ). Writes c.saturating_add.result l (d log.file) (x log.file)) c.as_bytes.ensures.bytes writes) stands) changes) c.in-Ok.ensures.written
