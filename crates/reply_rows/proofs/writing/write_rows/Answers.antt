use Rattle.std.proofs.Common.{◌≡◌, ℕ, ◌<◌, ◌+◌, List, [], ◌++◌, Ok, map, take, length, get_or, ap, ◌∙◌, arith}
use Rattle.mysql_wire.specs.declared.rows.Cell.{Cell}
use Rattle.mysql_wire.specs.Packets.{packets_from}
use Rattle.mysql_wire.specs.Rows.{row_payload}
use Rattle.reply_rows.specs.steps.Appending.{Appends}
use Rattle.reply_rows.proofs.Numbering.{Appends-more, front}
use Rattle.reply_rows.proofs.writing.write_rows.Goals as goal

pub rows-preserved : goal.rows-preserved
rows-preserved g c =
    let rows : List (List Cell) = (g.T.Table.set c.args.table.now).rows in
    let below : c.rows.at < length rows = omega arith in
    let is : c.as_slice.result.now ≡ row_payload (get_or rows c.rows.at []) =
    c.as_slice.ensures.value ∙ c.in_ok-put_row.ensures ∙ ap (λ (l : List ℕ). l ++ row_payload (get_or rows c.rows.at [])) c.clear.ensures.items in
    let all : Appends {E = Unit {0}} (Ok c.in-Ok.after) c.args.seq (map row_payload (take (c.rows.at + 1) rows)) c.args.out.now.items c.write_payload.new.out.items =
    Appends-more row_payload rows c.rows.at [] c.as_slice.result.now c.args.seq c.rows.next c.in-Ok.after c.args.out.now.items c.rows.out.items c.write_payload.new.out.items
    (omega (arith, c.ranges.seq.fits)) below is c.rows.invariant.next c.rows.invariant.written c.in-Ok.ensures.appends in
    record { next = all.0; written = all.1; capacity = omega arith }

pub returns-in-Err-clause-appends : goal.returns-in-Err-clause-appends
returns-in-Err-clause-appends g c =
    front c.args.out.now.items c.rows.out.items c.write_payload.new.out.items (packets_from c.args.seq (map row_payload (take c.rows.at (g.T.Table.set c.args.table.now).rows))) c.rows.invariant.written c.in-Err.ensures.appends
