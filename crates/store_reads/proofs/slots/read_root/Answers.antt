use Rattle.std.proofs.Common.{Err, subst}
use Rattle.root_slots.specs.Openings.{ReadsRoot}
use Rattle.root_slots.specs.Slots.{slots_of}
use Rattle.root_slots.specs.declared.fault.RootFault.{RootFault}
use Rattle.store_reads.proofs.RootFound.{bad_slot}
use Rattle.store_reads.proofs.slots.read_root.Goals as goal

pub returns-in-Err-BadRoot-clause-read : goal.returns-in-Err-BadRoot-clause-read
returns-in-Err-BadRoot-clause-read g c = λ image is. bad_slot image c.bad_root.result c.in-Err-BadRoot.slot c.in-Err-BadRoot.place c.in-Err-BadRoot.kind c.bad_root.ensures (subst (λ (f : RootFault). ReadsRoot (Err f) (slots_of image)) c.in-Err-BadRoot.field-0-is (c.in-Err-BadRoot.ensures.found image is))
