use Rattle.std.proofs.Common.{◌≡◌, ℕ, ◌<◌, ◌+◌, List, ◌++◌, Ok, map, take, length, get_or, ap, sym, ◌∙◌, arith}
use Rattle.std.proofs.lemmas.Option.{get_or_from_slice_get}
use Rattle.mysql_wire.specs.declared.rows.Column.{Column}
use Rattle.mysql_wire.specs.Packets.{packets_from}
use Rattle.mysql_wire.specs.Rows.{column_payload}
use Rattle.reply_rows.specs.steps.Appending.{Appends}
use Rattle.reply_rows.proofs.Numbering.{Appends-more, front}
use Rattle.reply_rows.proofs.writing.write_columns.Goals as goal

pub columns-preserved : goal.columns-preserved
columns-preserved g c =
    let columns : List Column = (g.T.Table.set c.args.table.now).columns in
    let below : c.columns.at < length columns = omega arith in
    let here : get_or columns c.columns.at c.column.result.now ≡ c.column.result.now = get_or_from_slice_get columns c.columns.at c.column.result.now c.column.result.now c.column.ensures in
    let is : c.as_slice.result.now ≡ column_payload (get_or columns c.columns.at c.column.result.now) =
    c.as_slice.ensures.value ∙ c.in_ok-put_column.ensures.ok ∙ ap (λ (l : List ℕ). l ++ column_payload c.column.result.now) c.clear.ensures.items ∙ sym (ap column_payload here) in
    let all : Appends {E = Unit {0}} (Ok c.in-Ok.after) c.args.seq (map column_payload (take (c.columns.at + 1) columns)) c.args.out.now.items c.write_payload.new.out.items =
    Appends-more column_payload columns c.columns.at c.column.result.now c.as_slice.result.now c.args.seq c.columns.next c.in-Ok.after c.args.out.now.items c.columns.out.items c.write_payload.new.out.items
    (omega (arith, c.ranges.seq.fits)) below is c.columns.invariant.next c.columns.invariant.written c.in-Ok.ensures.appends in
    record { next = all.0; written = all.1; capacity = omega arith }

pub returns-in-Err-clause-appends : goal.returns-in-Err-clause-appends
returns-in-Err-clause-appends g c =
    front c.args.out.now.items c.columns.out.items c.write_payload.new.out.items (packets_from c.args.seq (map column_payload (take c.columns.at (g.T.Table.set c.args.table.now).columns))) c.columns.invariant.written c.in-Err.ensures.appends
