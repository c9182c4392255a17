use Rattle.std.proofs.Common.{rules, ◌≡◌, ◌++◌, ◌-◌}
use Rattle.std.specs.Prelude.{OnOk}
use Rattle.posting_codec.specs.Numbers.{number}
use Rattle.image_write.proofs.Marked.{four_listed}
use Rattle.image_write.proofs.marks.put_span.Goals as goal

pub returns : goal.returns
returns c =
    let span = c.args.span.now in
    let field : c.put_number.new.out.items ≡ c.args.out.now.items ++ number c.args.field = search rules in
    let zone : c.put_number-2.new.out.items ≡ c.put_number.new.out.items ++ number span.zone = search rules in
    let first : c.put_number-3.new.out.items ≡ c.put_number-2.new.out.items ++ number span.first = search rules in
    let last : OnOk c.put_number-4.result (c.put_number-4.new.out.items ≡ c.put_number-3.new.out.items ++ number (span.last - span.first)) = search rules in
    four_listed c.put_number-4.result c.args.out.now.items c.put_number.new.out.items c.put_number-2.new.out.items c.put_number-3.new.out.items c.put_number-4.new.out.items
    (number c.args.field) (number span.zone) (number span.first) (number (span.last - span.first)) field zone first last
