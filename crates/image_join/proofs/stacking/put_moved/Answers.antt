use Rattle.std.proofs.Common.{◌+◌, ◌-◌, length, take, drop, arith}
use Rattle.image_join.proofs.Stacked.{first_there, moved_there, others, rest_there}
use Rattle.image_join.proofs.stacking.put_moved.Goals as goal

pub returns-clause-list : goal.returns-clause-list
returns-clause-list c = λ e es is low.
    let list = c.args.list.now in
    let ahead = c.number_at-ahead.result.0 in
    let behind = c.number_at-ahead.result.1 in
    let at = c.number_at-ahead.ensures (e.0 + 1) (others e es) (first_there list e es c.args.by is low) in
    moved_there c.args.by c.args.least (c.args.by - c.args.least + ahead) e es c.args.out.now.items c.put_number.new.out.items c.extend_from_slice.new.self.items (take (length list - behind) (drop behind list))
    (omega (arith, at.0, c.requires.least)) (rest_there list e es behind is at.1) c.in_ok-put_number.ensures.ok c.in_ok-extend_from_slice.ensures.items

pub returns-clause-behind : goal.returns-clause-behind
returns-clause-behind c = λ e es is low.
    let at = c.number_at-ahead.ensures (e.0 + 1) (others e es) (first_there c.args.list.now e es c.args.by is low) in
    omega (arith, at.0)
