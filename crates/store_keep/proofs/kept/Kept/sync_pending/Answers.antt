use Rattle.std.proofs.Common.{sym, ◌∙◌}
use Rattle.store_steps.proofs.Keeping.{gives_now, not_opened, opening_leaves, stands_staged, was_opened}
use Rattle.store_steps.proofs.Leaving.{leaves_still}
use Rattle.store_keep.proofs.Publishing.{step_waits, still_staged}
use Rattle.store_keep.proofs.kept.Kept.sync_pending.Goals as goal

pub open_gate-requires-clause-stands : goal.open_gate-requires-clause-stands
open_gate-requires-clause-stands g c = stands_staged g.D.Disk _ _ _ _ _ _ c.requires.kept (sym c.is_staged.ensures ∙ c.if-is_staged.true)

pub returns-in_err-open_gate-clause-kept : goal.returns-in_err-open_gate-clause-kept
returns-in_err-open_gate-clause-kept g c =
    not_opened g.D.Disk _ _ _ _ _ _ c.requires.kept c.open_gate.new.disk c.open_gate.new.self (sym c.is_staged.ensures ∙ c.if-is_staged.true) c.in_err-open_gate.ensures.err c.in_err-open_gate.ensures.stands c.open_gate.ensures.crash

pub returns-in_err-open_gate-clause-crash : goal.returns-in_err-open_gate-clause-crash
returns-in_err-open_gate-clause-crash g c =
    opening_leaves g.D.Disk _ _ _ _ _ _ c.requires.kept c.open_gate.new.disk (sym c.is_staged.ensures ∙ c.if-is_staged.true) (g.met.D.Disk.only_now c.args.self.now.disk) c.open_gate.ensures.crash

pub returns-in_ok-open_gate-clause-kept : goal.returns-in_ok-open_gate-clause-kept
returns-in_ok-open_gate-clause-kept g c =
    was_opened g.D.Disk _ _ _ _ _ _ c.requires.kept c.open_gate.new.disk c.open_gate.new.self (sym c.is_staged.ensures ∙ c.if-is_staged.true) c.in_ok-open_gate.ensures.ok c.in_ok-open_gate.ensures.stands c.in_ok-open_gate.ensures.durable (g.met.D.Disk.tells c.open_gate.new.disk) c.open_gate.ensures.crash

pub returns-in_ok-open_gate-clause-crash : goal.returns-in_ok-open_gate-clause-crash
returns-in_ok-open_gate-clause-crash g c =
    opening_leaves g.D.Disk _ _ _ _ _ _ c.requires.kept c.open_gate.new.disk (sym c.is_staged.ensures ∙ c.if-is_staged.true) (g.met.D.Disk.only_now c.args.self.now.disk) c.open_gate.ensures.crash

pub returns-else-is_staged-clause-crash : goal.returns-else-is_staged-clause-crash
returns-else-is_staged-clause-crash g c = leaves_still g.D.Disk c.args.self.now.disk (g.met.D.Disk.only_now c.args.self.now.disk) (gives_now g.D.Disk _ _ _ _ _ _ c.requires.kept)

pub returns-in_err-open_gate-clause-waits : goal.returns-in_err-open_gate-clause-waits
returns-in_err-open_gate-clause-waits g c = step_waits g.D.Disk _ _ _ _ _ _ c.requires.kept (sym c.is_staged.ensures ∙ c.if-is_staged.true) c.from_residual.result

pub returns-in_err-open_gate-clause-staged : goal.returns-in_err-open_gate-clause-staged
returns-in_err-open_gate-clause-staged g c = still_staged _ c.open_gate.new.self (sym c.in_err-open_gate.ensures.err) (sym c.is_staged.ensures ∙ c.if-is_staged.true) c.from_residual.result
