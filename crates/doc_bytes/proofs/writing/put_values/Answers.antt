-- What stood before stays in front of a part that isn't whole.
use Rattle.std.proofs.Common.{rules, take, vec_len}
use Rattle.std.specs.List.{flat_map}
use Rattle.doc_bytes.specs.Payload.{value_bytes}
use Rattle.doc_bytes.proofs.Joining.{front_stays}
use Rattle.doc_bytes.proofs.writing.put_values.Goals as goal

pub returns-in_err-put_value-clause-front : goal.returns-in_err-put_value-clause-front
returns-in_err-put_value-clause-front c =
    front_stays c.args.out.now.items (flat_map value_bytes (take c.loop-value.value-index c.args.values.now)) c.loop-value.out.items c.put_value.new.out.items (vec_len c.args.out.now) (vec_len c.loop-value.out) (search rules) c.loop-value.invariant c.put_value.ensures.front
