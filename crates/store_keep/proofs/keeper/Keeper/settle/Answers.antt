use Rattle.std.proofs.Common.{ap}
use Rattle.step_line.specs.Lines.{entered}
use Rattle.store_steps.specs.declared.files.Files.{Files}
use Rattle.store_keep.proofs.Carrying.{few_still, settles_moves, sound_after}
use Rattle.store_keep.proofs.keeper.Keeper.settle.Goals as goal

pub returns-clause-sound : goal.returns-clause-sound
returns-clause-sound g c =
    let k = c.args.self.now.kept in
    let next = c.settle.new.self in
    let before = g.D.Disk.faults k.disk in
    let now = g.D.Disk.faults next.disk in
    let moves = settles_moves k.line next.line before now next.files.log c.settle.result c.settle.ensures.ends in
    sound_after g.D.Disk g.J.Naming.schema g.J.Naming.base g.J.Naming.opened c.args.self.now next c.args.self.now.strayed c.requires.sound c.settle.ensures.kept moves
    (few_still (entered k.line) (entered next.line) before now k.files next.files (ap (λ (f : Files). f.next_file) c.settle.ensures.files) (ap (λ (f : Files). f.root.number) c.settle.ensures.files) moves.all moves.later)
    (λ some. some)
