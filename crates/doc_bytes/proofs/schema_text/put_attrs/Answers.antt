-- What stood before stays in front of a part that isn't whole.
use Rattle.std.proofs.Common.{rules, take, vec_len}
use Rattle.std.specs.List.{flat_map}
use Rattle.doc_bytes.specs.SchemaText.{attr_line}
use Rattle.doc_bytes.proofs.Joining.{front_stays}
use Rattle.doc_bytes.proofs.schema_text.put_attrs.Goals as goal

pub returns-in_err-put_line-clause-front : goal.returns-in_err-put_line-clause-front
returns-in_err-put_line-clause-front c =
    front_stays c.args.out.now.items (flat_map attr_line (take c.loop-name.name-index c.args.attrs.now)) c.loop-name.out.items c.put_line.new.out.items (vec_len c.args.out.now) (vec_len c.loop-name.out) (search rules) c.loop-name.invariant c.put_line.ensures.front
