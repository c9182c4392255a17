use Rattle.chunk_files.proofs.Resting.{finds_file}
use Rattle.chunk_files.proofs.pairs.find.Goals as goal

pub returns-in-Ok-clause-found : goal.returns-in-Ok-clause-found
returns-in-Ok-clause-found g c = finds_file c.in-Ok.found c.args.entry.now.file (g.D.Disk.told c.read_whole.new.disk) c.in-Ok.ensures.found
