use Rattle.std.proofs.Common.{◌∙◌, sym}
use Rattle.store_keep.proofs.Founds.{finds_by}
use Rattle.store_keep.proofs.opening.read_found.Goals as goal

pub read_directory-requires-clause-root : goal.read_directory-requires-clause-root
read_directory-requires-clause-root g c = λ image is. c.requires.root.opens image (sym c.steady_files.ensures.looks.same ∙ is)

pub returns-in-Ok-clause-finds : goal.returns-in-Ok-clause-finds
returns-in-Ok-clause-finds g c =
    finds_by g.D.Disk c.args.schema.now c.args.root c.args.state c.args.disk.now c.steady_files.new.disk c.read_directory.new.disk c.read_directory.result c.requires.state c.requires.root c.steady_files.ensures.looks c.read_directory.ensures.looks
    c.in-Ok.ensures.steady c.read_directory.ensures.read (λ x left. g.met.D.Disk.tells c.read_directory.new.disk x left)
