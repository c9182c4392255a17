use Rattle.store_reads.proofs.FilesRead.{both_read, newer_bad, older_wrong}
use Rattle.store_reads.proofs.logs.read_logs.Goals as goal

pub over-requires : goal.over-requires
over-requires g c = c.requires.sound

pub read_older-requires-clause-loaded : goal.read_older-requires-clause-loaded
read_older-requires-clause-loaded g c = (c.args.chunks.items, c.in-Ok.ensures c.args.schema.now c.requires.chunks)

pub read_log-requires-clause-loaded : goal.read_log-requires-clause-loaded
read_log-requires-clause-loaded g c =
    let read = c.in-Ok-read_older.ensures.read c.args.chunks.items (c.in-Ok.ensures c.args.schema.now c.requires.chunks) in
    (c.args.chunks.items, c.args.state.now.through, read.records, read.loaded)

pub returns-in-Ok-read_log-clause-read : goal.returns-in-Ok-read_log-clause-read
returns-in-Ok-read_log-clause-read g c =
    let chunks = c.args.chunks.items in
    let older = c.in-Ok-read_older.ensures.read chunks (c.in-Ok.ensures c.args.schema.now c.requires.chunks) in
    both_read g.D.Disk c.args.schema.now chunks c.args.state.now c.read_older.new.disk c.read_log.new.disk c.in-Ok-read_older.older_end c.read_older.new.loaded c.read_log.new.loaded c.in-Ok-read_log.end c.read_log.ensures.looks older
    (c.in-Ok-read_log.ensures.read chunks c.args.state.now.through older.records older.loaded)

pub returns-in-Err-read_log-clause-read : goal.returns-in-Err-read_log-clause-read
returns-in-Err-read_log-clause-read g c =
    let chunks = c.args.chunks.items in
    let older = c.in-Ok-read_older.ensures.read chunks (c.in-Ok.ensures c.args.schema.now c.requires.chunks) in
    newer_bad g.D.Disk c.args.schema.now chunks c.args.state.now c.read_older.new.disk c.read_log.new.disk c.in-Ok-read_older.older_end c.read_older.new.loaded c.read_log.new.loaded c.in-Err-read_log.fault c.read_log.ensures.looks older
    (c.in-Err-read_log.ensures.read chunks c.args.state.now.through older.records older.loaded)

pub returns-in-Err-read_older-clause-read : goal.returns-in-Err-read_older-clause-read
returns-in-Err-read_older-clause-read g c =
    older_wrong c.args.schema.now c.args.chunks.items c.args.state.now (g.D.Disk.told c.read_older.new.disk) c.in-Err-read_older.fault c.read_older.new.loaded
    (c.in-Err-read_older.ensures.read c.args.chunks.items (c.in-Ok.ensures c.args.schema.now c.requires.chunks))
