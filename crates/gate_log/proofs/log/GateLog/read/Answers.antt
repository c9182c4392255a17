use Rattle.std.proofs.Common.{◌∙◌, sym, ap, Some}
use Rattle.gate_log.proofs.Standing.{bytes_cause, missing_by, reads_file, finds_some, finds_none}
use Rattle.gate_log.proofs.log.GateLog.read.Goals as goal

pub returns-in-Ok-Some-clause-found : goal.returns-in-Ok-Some-clause-found
returns-in-Ok-Some-clause-found g c = λ image is.
    let bytes = finds_some c.in-Ok-Some.field-0 c.in-Ok-Some.bytes (image c.args.file) c.in-Ok-Some.field-0-is (c.in-Ok-Some.ensures.found image is) ∙ ap Some (sym c.as_slice.ensures.value) in
    reads_file c.args.file c.log_of.result c.as_slice.result.now (image c.args.file) bytes c.log_of.ensures.reads

pub returns-in-Ok-None-clause-found : goal.returns-in-Ok-None-clause-found
returns-in-Ok-None-clause-found g c = λ image is. missing_by (image c.args.file) (finds_none c.in-Ok-None.field-0 (image c.args.file) c.in-Ok-None.field-0-is (c.in-Ok-None.ensures.found image is))

pub returns-in-Ok-Some-clause-cause : goal.returns-in-Ok-Some-clause-cause
returns-in-Ok-Some-clause-cause g c = bytes_cause _ _ c.log_of.result c.in-Ok-Some.ensures.cause c.log_of.ensures.bytes
