-- What stood before stays in front of a part that isn't whole.
use Rattle.std.proofs.Common.{rules, take, vec_len}
use Rattle.std.specs.List.{flat_map}
use Rattle.doc_bytes.specs.Payload.{op_bytes}
use Rattle.doc_bytes.proofs.Joining.{front_stays}
use Rattle.doc_bytes.proofs.writing.put_ops.Goals as goal

pub returns-in_err-put_op-clause-front : goal.returns-in_err-put_op-clause-front
returns-in_err-put_op-clause-front c =
    front_stays c.args.out.now.items (flat_map op_bytes (take c.loop-op.op-index c.args.ops.now)) c.loop-op.out.items c.put_op.new.out.items (vec_len c.args.out.now) (vec_len c.loop-op.out) (search rules) c.loop-op.invariant c.put_op.ensures.front
