-- What stood before stays in front of a part that isn't whole.
use Rattle.std.proofs.Common.{rules, vec_len}
use Rattle.doc_bytes.proofs.Joining.{front_stays}
use Rattle.doc_bytes.proofs.schema_text.write_schema.Goals as goal

pub returns-in_err-put_line-clause-front : goal.returns-in_err-put_line-clause-front
returns-in_err-put_line-clause-front c =
    front_stays c.args.out.now.items _ c.loop-name.out.items c.put_line.new.out.items (vec_len c.args.out.now) (vec_len c.loop-name.out) (search rules) c.loop-name.invariant c.put_line.ensures.front

pub returns-clause-front : goal.returns-clause-front
returns-clause-front c =
    front_stays c.args.out.now.items _ c.loop-name.out.items c.put_attrs.new.out.items (vec_len c.args.out.now) (vec_len c.loop-name.out) (search rules) c.loop-name.invariant c.put_attrs.ensures.front
