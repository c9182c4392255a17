use Rattle.std.proofs.Common.{◌∙◌, sym, arith}
use Rattle.root_slots.proofs.Standing.{bytes_cause, read_by}
use Rattle.root_slots.proofs.root.Root.read.Goals as goal

pub returns-in-Ok-read_whole-clause-found : goal.returns-in-Ok-read_whole-clause-found
returns-in-Ok-read_whole-clause-found g c = λ image is.
    read_by c.root_of.result c.bytes_in.result.now c.bytes_in-in-Ok-read_whole.result.now c.in-Ok.zeroth c.in-Ok-read_whole.first (image 0) (image 1) c.bytes_in.ensures c.bytes_in-in-Ok-read_whole.ensures
    (c.in-Ok.ensures.found image (sym c.in-Ok-read_whole.ensures.looks.same ∙ is)) (c.in-Ok-read_whole.ensures.found image is) c.root_of.ensures.reads

pub returns-in-Ok-read_whole-clause-cause : goal.returns-in-Ok-read_whole-clause-cause
returns-in-Ok-read_whole-clause-cause g c = bytes_cause _ _ c.root_of.result (omega (arith, c.in-Ok.ensures.cause, c.in-Ok-read_whole.ensures.cause)) c.root_of.ensures.bytes
