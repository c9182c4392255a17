use Rattle.bit_lists.specs.BitLists.{bits_of}
use Rattle.image_marks.proofs.FieldReading.{FieldsGone}
use Rattle.image_marks.proofs.fields.read_fields.Given as goal

abbrev pub invariant-fields : goal.invariant-fields
invariant-fields l = FieldsGone l.bytes l.at l.place l.counter l.row l.fn.starts.items (bits_of l.fn.cover.taken) l.starts.items (bits_of l.cover.taken) l.fn.cover.least l.cover.least
