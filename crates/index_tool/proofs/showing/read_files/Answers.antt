use Rattle.std.proofs.Common.{◌∙◌, rules, subst}
use Rattle.std.specs.Prelude.{Option}
use Rattle.root_slots.specs.Openings.{Opens}
use Rattle.root_slots.specs.Slots.{slots_of}
use Rattle.root_slots.specs.States.{IsState}
use Rattle.root_slots.specs.declared.state.RootState.{RootState}
use Rattle.index_tool.proofs.Held.{ascending, nothing_read}
use Rattle.index_tool.proofs.showing.read_files.Goals as goal

pub returns-in-Ok-clause-dead : goal.returns-in-Ok-clause-dead
returns-in-Ok-clause-dead g c =
    let keeps : IsState c.in-Ok-default-Some.state = search rules in
    ascending c.args.schema.now c.in-Ok-default-Some.root c.in-Ok-default-Some.state (g.D.Disk.told c.read_directory.new.disk) c.in-Ok.found keeps c.in-Ok.ensures.read

pub returns-in-Ok-default-None-clause-reads : goal.returns-in-Ok-default-None-clause-reads
returns-in-Ok-default-None-clause-reads g c =
    let root = c.in-Ok-default-None._root in
    nothing_read c.args.schema.now root (g.D.Disk.told c.args.disk.now)
    (λ image is. subst (λ (o : Option RootState). Opens root o (slots_of image)) c.in-Ok-default-None.field-0-1-is (c.in-Ok-default-None.ensures.read image (c.read_root.ensures.looks.same ∙ is)))
