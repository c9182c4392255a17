-- What stood before stays in front of a part that isn't whole.
use Rattle.std.proofs.Common.{rules, take, vec_len}
use Rattle.std.specs.List.{flat_map}
use Rattle.doc_bytes.specs.Payload.{field_bytes}
use Rattle.doc_bytes.proofs.Joining.{front_stays}
use Rattle.doc_bytes.proofs.writing.put_fields.Goals as goal

pub returns-in_err-put_field-clause-front : goal.returns-in_err-put_field-clause-front
returns-in_err-put_field-clause-front c =
    front_stays c.args.out.now.items (flat_map field_bytes (take c.loop-field.field-index c.args.fields.now)) c.loop-field.out.items c.put_field.new.out.items (vec_len c.args.out.now) (vec_len c.loop-field.out) (search rules) c.loop-field.invariant c.put_field.ensures.front
