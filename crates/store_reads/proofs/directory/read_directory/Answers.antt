use Rattle.std.proofs.Common.{◌++◌, ◌∙◌, sym}
use Rattle.chunk_store.proofs.WholeFiles.{looks_then}
use Rattle.store_reads.proofs.Bases.{base_sound, base_then, says_base, says_logs}
use Rattle.store_reads.proofs.Chunked.{are_chunks}
use Rattle.store_reads.proofs.Early.{says_early}
use Rattle.store_reads.proofs.Founds.{directory_is}
use Rattle.store_reads.proofs.RootFound.{says_root}
use Rattle.store_reads.proofs.directory.read_directory.Goals as goal

pub read_logs-requires-clause-sound : goal.read_logs-requires-clause-sound
read_logs-requires-clause-sound g c = base_sound c.args.schema.now c.args.state (g.D.Disk.told c.read_base.new.disk) c.in-Ok-read_base.chunks.items c.in-Ok-read_base.ensures.read

pub read_logs-requires-clause-chunks : goal.read_logs-requires-clause-chunks
read_logs-requires-clause-chunks g c = are_chunks c.args.schema.now c.args.state (g.D.Disk.told c.read_base.new.disk) c.in-Ok-read_base.chunks.items c.in-Ok-read_base.ensures.read.read

pub returns-in-Ok-load-clause-read : goal.returns-in-Ok-load-clause-read
returns-in-Ok-load-clause-read g c =
    let chunks = c.in-Ok-read_base.chunks.items in
    let looks = looks_then g.D.Disk c.args.disk.now c.read_base.new.disk c.read_logs.new.disk c.read_base.ensures.looks c.read_logs.ensures.looks in
    let base = base_then g.D.Disk c.args.schema.now c.args.state c.read_base.new.disk c.read_logs.new.disk chunks c.read_logs.ensures.looks c.in-Ok-read_base.ensures.read in
    let read = c.in-Ok-read_logs.ensures.read in
    directory_is c.args.schema.now chunks c.args.root c.args.state (g.D.Disk.told c.read_logs.new.disk) c.in-Ok-read_logs.logs c.in-Ok-load.found c.requires.state c.in-Ok.ensures.checks base (λ image is. c.requires.root image (sym looks.same ∙ is)) read
    (c.in-Ok-load.ensures c.args.schema.now chunks (read.older ++ read.newer) read.loaded)

pub returns-in-Some-clause-read : goal.returns-in-Some-clause-read
returns-in-Some-clause-read g c =
    let chunks = c.in-Ok-read_base.chunks.items in
    let looks = looks_then g.D.Disk c.args.disk.now c.read_base.new.disk c.read_logs.new.disk c.read_base.ensures.looks c.read_logs.ensures.looks in
    let base = base_then g.D.Disk c.args.schema.now c.args.state c.read_base.new.disk c.read_logs.new.disk chunks c.read_logs.ensures.looks c.in-Ok-read_base.ensures.read in
    let early = c.in-Some.ensures in
    says_early c.args.schema.now chunks c.args.root c.args.state (g.D.Disk.told c.read_logs.new.disk) c.in-Ok-read_logs.logs c.in-Some.damage early.0 c.in-Ok.ensures.checks base (λ image is. c.requires.root image (sym looks.same ∙ is)) c.in-Ok-read_logs.ensures.read early.1 early.2 early.3

pub returns-in-Err-read_logs-clause-read : goal.returns-in-Err-read_logs-clause-read
returns-in-Err-read_logs-clause-read g c =
    let chunks = c.in-Ok-read_base.chunks.items in
    let looks = looks_then g.D.Disk c.args.disk.now c.read_base.new.disk c.read_logs.new.disk c.read_base.ensures.looks c.read_logs.ensures.looks in
    let base = base_then g.D.Disk c.args.schema.now c.args.state c.read_base.new.disk c.read_logs.new.disk chunks c.read_logs.ensures.looks c.in-Ok-read_base.ensures.read in
    says_logs c.args.schema.now chunks c.args.root c.args.state (g.D.Disk.told c.read_logs.new.disk) c.in-Err-read_logs.fault (λ image is. c.requires.root image (sym looks.same ∙ is)) c.in-Ok.ensures.checks base c.in-Err-read_logs.ensures.read

pub returns-in-Err-read_base-clause-read : goal.returns-in-Err-read_base-clause-read
returns-in-Err-read_base-clause-read g c =
    says_base c.args.schema.now c.args.root c.args.state (g.D.Disk.told c.read_base.new.disk) c.in-Err-read_base.fault (λ image is. c.requires.root image (sym c.read_base.ensures.looks.same ∙ is)) c.in-Ok.ensures.checks c.in-Err-read_base.ensures.read

pub returns-in-Err-clause-read : goal.returns-in-Err-clause-read
returns-in-Err-clause-read g c = says_root c.args.schema.now c.args.root c.args.state (g.D.Disk.told c.args.disk.now) c.in-Err.fault c.requires.root c.in-Err.ensures.checks
