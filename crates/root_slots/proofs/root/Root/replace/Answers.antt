use Rattle.root_slots.proofs.Replacements.{crash_first, crash_neither, crash_zeroth, failing_first, failing_neither, failing_zeroth, stands_first, stands_neither, stands_zeroth}
use Rattle.root_slots.proofs.root.Root.replace.Goals as goal

pub returns-in-Ok-clause-stands : goal.returns-in-Ok-clause-stands
returns-in-Ok-clause-stands g c = stands_zeroth g.D.Disk c.args.disk.now c.replace_slot.new.disk c.args.self.now c.args.bytes.now c.in-Zeroth.is c.in-Ok.ensures.stands

pub returns-in-Ok-clause-crash : goal.returns-in-Ok-clause-crash
returns-in-Ok-clause-crash g c = crash_zeroth g.D.Disk c.args.disk.now c.replace_slot.new.disk c.args.self.now c.args.bytes.now c.in-Zeroth.is c.replace_slot.ensures.crash

pub returns-in-Err-clause-crash : goal.returns-in-Err-clause-crash
returns-in-Err-clause-crash g c = crash_zeroth g.D.Disk c.args.disk.now c.replace_slot.new.disk c.args.self.now c.args.bytes.now c.in-Zeroth.is c.replace_slot.ensures.crash

pub returns-in-Err-clause-doubt : goal.returns-in-Err-clause-doubt
returns-in-Err-clause-doubt g c = λ doubt. failing_zeroth g.D.Disk c.args.disk.now c.replace_slot.new.disk c.args.self.now c.args.bytes.now c.in-Zeroth.is c.replace_slot.new.shut doubt (c.in-Err.ensures.doubt doubt)

pub returns-in-Ok-replace_slot-clause-stands : goal.returns-in-Ok-replace_slot-clause-stands
returns-in-Ok-replace_slot-clause-stands g c = stands_first g.D.Disk c.args.disk.now c.replace_slot-in-First.new.disk c.args.self.now c.args.bytes.now c.in-First.is c.in-Ok-replace_slot.ensures.stands

pub returns-in-Ok-replace_slot-clause-crash : goal.returns-in-Ok-replace_slot-clause-crash
returns-in-Ok-replace_slot-clause-crash g c = crash_first g.D.Disk c.args.disk.now c.replace_slot-in-First.new.disk c.args.self.now c.args.bytes.now c.in-First.is c.replace_slot-in-First.ensures.crash

pub returns-in-Err-replace_slot-clause-crash : goal.returns-in-Err-replace_slot-clause-crash
returns-in-Err-replace_slot-clause-crash g c = crash_first g.D.Disk c.args.disk.now c.replace_slot-in-First.new.disk c.args.self.now c.args.bytes.now c.in-First.is c.replace_slot-in-First.ensures.crash

pub returns-in-Err-replace_slot-clause-doubt : goal.returns-in-Err-replace_slot-clause-doubt
returns-in-Err-replace_slot-clause-doubt g c = λ doubt. failing_first g.D.Disk c.args.disk.now c.replace_slot-in-First.new.disk c.args.self.now c.args.bytes.now c.in-First.is c.replace_slot-in-First.new.shut doubt (c.in-Err-replace_slot.ensures.doubt doubt)

pub returns-in-Ok-replace_slot-2-clause-stands : goal.returns-in-Ok-replace_slot-2-clause-stands
returns-in-Ok-replace_slot-2-clause-stands g c = stands_neither g.D.Disk c.args.disk.now c.replace_slot-in-Neither.new.disk c.args.self.now c.args.bytes.now c.in-Neither.is c.in-Ok-replace_slot-2.ensures.stands

pub returns-in-Ok-replace_slot-2-clause-crash : goal.returns-in-Ok-replace_slot-2-clause-crash
returns-in-Ok-replace_slot-2-clause-crash g c = crash_neither g.D.Disk c.args.disk.now c.replace_slot-in-Neither.new.disk c.args.self.now c.args.bytes.now c.in-Neither.is c.replace_slot-in-Neither.ensures.crash

pub returns-in-Err-replace_slot-2-clause-crash : goal.returns-in-Err-replace_slot-2-clause-crash
returns-in-Err-replace_slot-2-clause-crash g c = crash_neither g.D.Disk c.args.disk.now c.replace_slot-in-Neither.new.disk c.args.self.now c.args.bytes.now c.in-Neither.is c.replace_slot-in-Neither.ensures.crash

pub returns-in-Err-replace_slot-2-clause-doubt : goal.returns-in-Err-replace_slot-2-clause-doubt
returns-in-Err-replace_slot-2-clause-doubt g c = λ doubt. failing_neither g.D.Disk c.args.disk.now c.replace_slot-in-Neither.new.disk c.args.self.now c.args.bytes.now c.in-Neither.is c.replace_slot-in-Neither.new.shut doubt (c.in-Err-replace_slot-2.ensures.doubt doubt)
