use Rattle.std.proofs.Common.{◌≤◌, arith, ◌+◌}
use Rattle.std.specs.Option.{option_copied}
use Rattle.job_files.specs.Jobs.{Anything}
use Rattle.store_steps.proofs.Leaving.{leaves_then}
use Rattle.job_files.proofs.Writing.{kept_aside, leaves_aside, log_low, raised}
use Rattle.job_files.proofs.installing.write_files.Goals as goal

pub returns-in-Ok-begin_log-clause-kept : goal.returns-in-Ok-begin_log-clause-kept
returns-in-Ok-begin_log-clause-kept g c =
    let files = c.args.files.now in
    let low : files.next_file ≤ c.log_file-new_log.result = omega (arith, c.log_file-new_log.ensures, log_low files.next_file (option_copied c.args.chunk)) in
    let one = kept_aside g.D.Disk _ _ _ _ _ files c.requires.kept c.put_chunk.new.disk {R = Anything} files.next_file (omega arith) c.put_chunk.ensures.moved c.put_chunk.ensures.crash in
    let two = kept_aside g.D.Disk _ _ _ _ _ files one c.begin_log.new.disk {R = Anything} c.log_file-new_log.result low c.begin_log.ensures.moved c.begin_log.ensures.crash in
    raised g.D.Disk _ _ _ _ _ files (c.log_file-new_log.result + 1) (omega (arith, low)) two

pub returns-in-Ok-begin_log-clause-crash : goal.returns-in-Ok-begin_log-clause-crash
returns-in-Ok-begin_log-clause-crash g c =
    let files = c.args.files.now in
    let low : files.next_file ≤ c.log_file-new_log.result = omega (arith, c.log_file-new_log.ensures, log_low files.next_file (option_copied c.args.chunk)) in
    let one = kept_aside g.D.Disk _ _ _ _ _ files c.requires.kept c.put_chunk.new.disk {R = Anything} files.next_file (omega arith) c.put_chunk.ensures.moved c.put_chunk.ensures.crash in
    leaves_then g.D.Disk _ c.put_chunk.new.disk _
    (leaves_aside g.D.Disk _ _ _ _ files c.requires.kept c.requires.rests c.put_chunk.new.disk {R = Anything} files.next_file (omega arith) (g.met.D.Disk.only_now c.args.disk.now) c.put_chunk.ensures.crash)
    (leaves_aside g.D.Disk _ _ _ _ files one c.requires.rests c.begin_log.new.disk {R = Anything} c.log_file-new_log.result low (g.met.D.Disk.only_now c.put_chunk.new.disk) c.begin_log.ensures.crash) (λ x p. p) (λ x p. p)

pub returns-in-Err-begin_log-clause-kept : goal.returns-in-Err-begin_log-clause-kept
returns-in-Err-begin_log-clause-kept g c =
    let files = c.args.files.now in
    let low : files.next_file ≤ c.log_file-new_log.result = omega (arith, c.log_file-new_log.ensures, log_low files.next_file (option_copied c.args.chunk)) in
    let one = kept_aside g.D.Disk _ _ _ _ _ files c.requires.kept c.put_chunk.new.disk {R = Anything} files.next_file (omega arith) c.put_chunk.ensures.moved c.put_chunk.ensures.crash in
    let two = kept_aside g.D.Disk _ _ _ _ _ files one c.begin_log.new.disk {R = Anything} c.log_file-new_log.result low c.begin_log.ensures.moved c.begin_log.ensures.crash in
    raised g.D.Disk _ _ _ _ _ files (c.log_file-new_log.result + 1) (omega (arith, low)) two

pub returns-in-Err-begin_log-clause-crash : goal.returns-in-Err-begin_log-clause-crash
returns-in-Err-begin_log-clause-crash g c =
    let files = c.args.files.now in
    let low : files.next_file ≤ c.log_file-new_log.result = omega (arith, c.log_file-new_log.ensures, log_low files.next_file (option_copied c.args.chunk)) in
    let one = kept_aside g.D.Disk _ _ _ _ _ files c.requires.kept c.put_chunk.new.disk {R = Anything} files.next_file (omega arith) c.put_chunk.ensures.moved c.put_chunk.ensures.crash in
    leaves_then g.D.Disk _ c.put_chunk.new.disk _
    (leaves_aside g.D.Disk _ _ _ _ files c.requires.kept c.requires.rests c.put_chunk.new.disk {R = Anything} files.next_file (omega arith) (g.met.D.Disk.only_now c.args.disk.now) c.put_chunk.ensures.crash)
    (leaves_aside g.D.Disk _ _ _ _ files one c.requires.rests c.begin_log.new.disk {R = Anything} c.log_file-new_log.result low (g.met.D.Disk.only_now c.put_chunk.new.disk) c.begin_log.ensures.crash) (λ x p. p) (λ x p. p)

pub returns-in-Err-clause-kept : goal.returns-in-Err-clause-kept
returns-in-Err-clause-kept g c =
    let files = c.args.files.now in
    let low : files.next_file ≤ c.log_file-new_log.result = omega (arith, c.log_file-new_log.ensures, log_low files.next_file (option_copied c.args.chunk)) in
    raised g.D.Disk _ _ _ _ _ files (c.log_file-new_log.result + 1) (omega (arith, low)) (kept_aside g.D.Disk _ _ _ _ _ files c.requires.kept c.put_chunk.new.disk {R = Anything} files.next_file (omega arith) c.put_chunk.ensures.moved c.put_chunk.ensures.crash)

pub returns-in-Err-clause-crash : goal.returns-in-Err-clause-crash
returns-in-Err-clause-crash g c =
    let files = c.args.files.now in
    leaves_aside g.D.Disk _ _ _ _ files c.requires.kept c.requires.rests c.put_chunk.new.disk {R = Anything} files.next_file (omega arith) (g.met.D.Disk.only_now c.args.disk.now) c.put_chunk.ensures.crash
