use Rattle.std.proofs.Common.{sym, subst, ◌++◌}
use Rattle.ql_write.specs.steps.Writing.{Appends, head_pieces, groups_pieces, tail_pieces}
use Rattle.ql_write.proofs.Writings.{then_appends, select_parts}
use Rattle.ql_write.proofs.written_select.SelectWritten.put.Goals as goal

pub returns : goal.returns
returns c =
    let s = c.args.self.now in
    let old = c.args.out.now.items in
    subst (λ ps. Appends ps old c.put_tail.result c.put_tail.new.out.items) (sym (select_parts s))
    (then_appends (head_pieces s) (groups_pieces s ++ tail_pieces s) old c.put_head.new.out.items c.put_tail.new.out.items c.put_tail.result c.in_ok-put_head.ensures
    (then_appends (groups_pieces s) (tail_pieces s) c.put_head.new.out.items c.put_groups.new.out.items c.put_tail.new.out.items c.put_tail.result c.in_ok-put_groups.ensures c.put_tail.ensures))
