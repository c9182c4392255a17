use Rattle.std.proofs.Common.{arith, refl, subst}
use Rattle.chunk_store.specs.Calls.{Crashes}
use Rattle.root_slots.specs.Roots.{Failing, Replaces, Replacing, Steps}
use Rattle.root_slots.specs.Slots.{ChangesSlots}
use Rattle.root_slots.specs.declared.state.RootState.{RootState}
use Rattle.store_steps.specs.Doubts.{slot_in}
use Rattle.job_files.proofs.Replacing.{may_replace, not_replaced, replacing_leaves, was_replaced}
use Rattle.job_files.proofs.installing.replace_root.Goals as goal

pub replace-requires-clause-stands : goal.replace-requires-clause-stands
replace-requires-clause-stands g c = may_replace g.D.Disk _ _ _ _ _ c.requires.kept c.requires.rests _ _ _ _ c.requires.job c.len-steps.ensures.good c.requires.written

pub returns-in-Ok-clause-ok : goal.returns-in-Ok-clause-ok
returns-in-Ok-clause-ok g c =
    was_replaced g.D.Disk _ _ _ _ _ c.requires.kept c.requires.rests _ _ _ _ c.requires.job c.len-steps.ensures.good c.requires.written c.replace.new.disk _ (omega (arith, c.requires.files)) c.in-Ok.ensures.ok c.requires.log refl
    (subst (λ (s : RootState). Steps g.D.Disk (ChangesSlots (Replaces c.args.files.now.root s)) c.args.disk.now c.replace.new.disk) c.requires.bytes c.in-Ok.ensures.stands)

pub returns-in-Ok-clause-crash : goal.returns-in-Ok-clause-crash
returns-in-Ok-clause-crash g c =
    replacing_leaves g.D.Disk _ _ _ _ _ c.requires.kept c.requires.rests _ _ _ _ c.requires.job c.len-steps.ensures.good c.requires.written c.replace.new.disk (g.met.D.Disk.only_now c.args.disk.now)
    (subst (λ (s : RootState). Crashes g.D.Disk c.args.disk.now c.replace.new.disk (ChangesSlots (Replacing c.args.files.now.root s))) c.requires.bytes c.replace.ensures.crash)

pub returns-in-Err-clause-err : goal.returns-in-Err-clause-err
returns-in-Err-clause-err g c =
    not_replaced g.D.Disk _ _ _ _ _ c.requires.kept c.requires.rests _ _ _ _ c.requires.job c.len-steps.ensures.good c.requires.written c.replace.new.disk _ (omega arith) (omega (arith, c.requires.files)) refl refl refl
    (subst (λ (s : RootState). Failing g.D.Disk c.args.files.now.root c.replace.new.self (slot_in c.requires.kept.doubt) s c.args.disk.now c.replace.new.disk) c.requires.bytes (c.in-Err.ensures.doubt (slot_in c.requires.kept.doubt)))

pub returns-in-Err-clause-crash : goal.returns-in-Err-clause-crash
returns-in-Err-clause-crash g c =
    replacing_leaves g.D.Disk _ _ _ _ _ c.requires.kept c.requires.rests _ _ _ _ c.requires.job c.len-steps.ensures.good c.requires.written c.replace.new.disk (g.met.D.Disk.only_now c.args.disk.now)
    (subst (λ (s : RootState). Crashes g.D.Disk c.args.disk.now c.replace.new.disk (ChangesSlots (Replacing c.args.files.now.root s))) c.requires.bytes c.replace.ensures.crash)
