use Rattle.std.proofs.Common.{[]}
use Rattle.store_reads.proofs.FilesRead.{older_bad, older_read}
use Rattle.store_reads.proofs.logs.read_older.Goals as goal

pub read_log-requires-clause-loaded : goal.read_log-requires-clause-loaded
read_log-requires-clause-loaded g c = (c.requires.loaded.0, c.args.state.now.through, [], c.requires.loaded.1)

pub returns-in-Ok-clause-read : goal.returns-in-Ok-clause-read
returns-in-Ok-clause-read g c = λ chunks loaded.
    older_read c.args.schema.now chunks c.args.state.now.through c.args.state.now.older _ c.in-Ok.end c.read_log.new.loaded c.if-state-eq0.false (c.in-Ok.ensures.read chunks c.args.state.now.through [] loaded)

pub returns-in-Err-clause-read : goal.returns-in-Err-clause-read
returns-in-Err-clause-read g c = λ chunks loaded.
    older_bad c.args.schema.now chunks c.args.state.now (g.D.Disk.told c.read_log.new.disk) c.in-Err.fault c.read_log.new.loaded c.if-state-eq0.false (c.in-Err.ensures.read chunks c.args.state.now.through [] loaded)
