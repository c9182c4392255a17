use Rattle.bit_lists.specs.BitLists.{bits_of}
use Rattle.image_marks.proofs.SpanReading.{SpansGone}
use Rattle.image_marks.proofs.spans.read_spans.Given as goal

abbrev pub invariant-spans : goal.invariant-spans
invariant-spans l = SpansGone l.own (bits_of l.taken) l.bytes l.first l.place l.before l.counter
