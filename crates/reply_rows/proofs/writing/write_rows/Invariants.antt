use Rattle.std.proofs.Common.{◌≡◌, ◌++◌, ◌≤◌, map, take, vec_capacity}
use Rattle.mysql_wire.specs.Rows.{row_payload}
use Rattle.mysql_wire.specs.Packets.{packets_from, sequence_after}
use Rattle.reply_rows.proofs.writing.write_rows.Given as goal

abbrev pub invariant-rows : goal.invariant-rows
invariant-rows g l = record {
  next : l.next ≡ sequence_after l.seq (map row_payload (take l.at (g.T.Table.set l.table).rows));
  written : l.out.items ≡ l.initial.out.items ++ packets_from l.seq (map row_payload (take l.at (g.T.Table.set l.table).rows));
  capacity : vec_capacity l.initial.out ≤ vec_capacity l.out;
}
