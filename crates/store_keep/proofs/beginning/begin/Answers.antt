use Rattle.std.proofs.Common.{refl, subst, ◌∙◌}
use Rattle.chunk_store.specs.Calls.{Crashes}
use Rattle.root_slots.specs.Roots.{Steps}
use Rattle.root_slots.specs.declared.state.RootState.{RootState}
use Rattle.store_keep.specs.steps.Beginnings.{Begins, MayBegin}
use Rattle.store_keep.proofs.Begun.{begun_found, begun_leaves, files_are}
use Rattle.store_keep.proofs.beginning.begin.Goals as goal

pub returns-in-Ok-first_files-clause-finds : goal.returns-in-Ok-first_files-clause-finds
returns-in-Ok-first_files-clause-finds g c =
    begun_found g.D.Disk c.args.schema.now c.args.root c.args.disk.now c.first_files.new.disk _ c.in-Ok.ensures.state c.requires.root (λ x left. g.met.D.Disk.tells c.args.disk.now x left)
    (subst (λ (s : RootState). Steps g.D.Disk (Begins c.args.root s) c.args.disk.now c.first_files.new.disk) c.in-Ok.ensures.bytes c.in-Ok-first_files.ensures.stands) (c.sure.ensures ∙ files_are c.args.schema.now c.args.root _ _ _ c.in-Ok-first_files.ensures.root c.in-Ok.ensures.first c.in-Ok-first_files.ensures.log) c.in-Ok.ensures.snapshot refl refl

pub returns-in-Ok-first_files-clause-leaves : goal.returns-in-Ok-first_files-clause-leaves
returns-in-Ok-first_files-clause-leaves g c =
    begun_leaves g.D.Disk c.args.schema.now c.args.root c.args.disk.now c.first_files.new.disk c.requires.root (λ x left. g.met.D.Disk.tells c.args.disk.now x left)
    (subst (λ (s : RootState). Crashes g.D.Disk c.args.disk.now c.first_files.new.disk (MayBegin c.args.root s)) c.in-Ok.ensures.bytes c.first_files.ensures.crash)

pub returns-in-Err-first_files-clause-leaves : goal.returns-in-Err-first_files-clause-leaves
returns-in-Err-first_files-clause-leaves g c =
    begun_leaves g.D.Disk c.args.schema.now c.args.root c.args.disk.now c.first_files.new.disk c.requires.root (λ x left. g.met.D.Disk.tells c.args.disk.now x left)
    (subst (λ (s : RootState). Crashes g.D.Disk c.args.disk.now c.first_files.new.disk (MayBegin c.args.root s)) c.in-Ok.ensures.bytes c.first_files.ensures.crash)
