use Rattle.std.proofs.Common.{[], None, Option, ℕ, List, subst}
use Rattle.chunk_store.specs.Images.{Both, Changes}
use Rattle.gate_log.specs.Logs.{Stands as LogStands}
use Rattle.gate_log.specs.declared.log.GateLog.{GateLog}
use Rattle.store_keep.proofs.FirstFiles.{both_begin, log_leaves, may_replace, root_leaves_it}
use Rattle.store_keep.proofs.beginning.first_files.Goals as goal

pub replace-requires-clause-stands : goal.replace-requires-clause-stands
replace-requires-clause-stands g c = may_replace _ c.args.root.now (g.D.Disk.told c.args.disk.now) (g.D.Disk.told c.create.new.disk) c.requires.stands c.in-Ok.ensures.stands

pub returns-in-Ok-replace-clause-stands : goal.returns-in-Ok-replace-clause-stands
returns-in-Ok-replace-clause-stands g c =
    let made = subst (λ (log : GateLog). Both (Changes 2 (λ (old new : Option (List ℕ)). LogStands log [] None new)) (g.D.Disk.told c.args.disk.now) (g.D.Disk.told c.create.new.disk)) c.in-Ok.ensures.log c.in-Ok.ensures.stands in
    both_begin g.D.Disk c.args.root.now c.args.bytes.now c.args.disk.now c.create.new.disk c.replace.new.disk made c.in-Ok.ensures.durable (λ x left. g.met.D.Disk.tells c.create.new.disk x left) c.create.ensures.crash c.in-Ok-replace.ensures.stands

pub returns-in-Ok-replace-clause-crash : goal.returns-in-Ok-replace-clause-crash
returns-in-Ok-replace-clause-crash g c =
    let made = subst (λ (log : GateLog). Both (Changes 2 (λ (old new : Option (List ℕ)). LogStands log [] None new)) (g.D.Disk.told c.args.disk.now) (g.D.Disk.told c.create.new.disk)) c.in-Ok.ensures.log c.in-Ok.ensures.stands in
    root_leaves_it g.D.Disk c.args.root.now c.args.bytes.now c.args.disk.now c.create.new.disk c.replace.new.disk made c.in-Ok.ensures.durable (λ x left. g.met.D.Disk.tells c.create.new.disk x left) c.create.ensures.crash c.replace.ensures.crash

pub returns-in-Err-replace-clause-crash : goal.returns-in-Err-replace-clause-crash
returns-in-Err-replace-clause-crash g c =
    let made = subst (λ (log : GateLog). Both (Changes 2 (λ (old new : Option (List ℕ)). LogStands log [] None new)) (g.D.Disk.told c.args.disk.now) (g.D.Disk.told c.create.new.disk)) c.in-Ok.ensures.log c.in-Ok.ensures.stands in
    root_leaves_it g.D.Disk c.args.root.now c.args.bytes.now c.args.disk.now c.create.new.disk c.replace.new.disk made c.in-Ok.ensures.durable (λ x left. g.met.D.Disk.tells c.create.new.disk x left) c.create.ensures.crash c.replace.ensures.crash

pub returns-in-Err-clause-crash : goal.returns-in-Err-clause-crash
returns-in-Err-clause-crash g c = log_leaves g.D.Disk c.args.root.now c.args.bytes.now c.args.disk.now c.create.new.disk c.create.ensures.crash
