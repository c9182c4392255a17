use Rattle.std.specs.Int.{w16, w32, to_le_bytes}
use Rattle.doc_bytes.proofs.Joining.{four}
use Rattle.doc_bytes.proofs.writing.put_span.Goals as goal

pub returns-clause-ok : goal.returns-clause-ok
returns-clause-ok c =
    four c.put_u32-2.result c.args.out.now.items c.put_u16.new.out.items c.put_u16-2.new.out.items c.put_u32.new.out.items c.put_u32-2.new.out.items
    (to_le_bytes w16 c.args.field) (to_le_bytes w16 c.args.span.now.zone) (to_le_bytes w32 c.args.span.now.first) (to_le_bytes w32 c.args.span.now.last)
    c.in_ok-put_u16.ensures.ok c.in_ok-put_u16-2.ensures.ok c.in_ok-put_u32.ensures.ok c.put_u32-2.ensures.ok
