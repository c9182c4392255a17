use Rattle.std.proofs.Common.{◌≡◌, ◌++◌, ◌≤◌, map, take, vec_capacity}
use Rattle.mysql_wire.specs.Rows.{column_payload}
use Rattle.mysql_wire.specs.Packets.{packets_from, sequence_after}
use Rattle.reply_rows.proofs.writing.write_columns.Given as goal

abbrev pub invariant-columns : goal.invariant-columns
invariant-columns g l = record {
  next : l.next ≡ sequence_after l.seq (map column_payload (take l.at (g.T.Table.set l.table).columns));
  written : l.out.items ≡ l.initial.out.items ++ packets_from l.seq (map column_payload (take l.at (g.T.Table.set l.table).columns));
  capacity : vec_capacity l.initial.out ≤ vec_capacity l.out;
}
