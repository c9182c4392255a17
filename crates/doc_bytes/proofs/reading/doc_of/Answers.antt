use Rattle.std.proofs.Common.{arith}
use Rattle.doc_bytes.proofs.Docs.{ascending}
use Rattle.doc_bytes.proofs.reading.doc_of.Goals as goal

pub spans_of-requires : goal.spans_of-requires
spans_of-requires c =
    rw c.deref.ensures.value (ascending c.len.result c.len-2.result c.args.bytes.now c.in_ok-id.id c.in_ok-id.rest.now c.in_ok-values.values.items c.in_ok-values.rest.now c.in_ok-words.words.items c.in_ok-words.rest.now
    (λ i. omega (arith, c.type_inv.bytes i)) c.in_ok-id.ensures c.in_ok-values.ensures c.in_ok-words.ensures)
