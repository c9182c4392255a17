use Rattle.doc_bytes.proofs.Lengths.{payload_size}
use Rattle.doc_bytes.proofs.laws.a_payload_is_as_long_as_is_counted.Goals as goal

pub returns : goal.returns
returns c = payload_size
