use Rattle.std.proofs.Common.{◌≡◌, None, take, drop}
use Rattle.std.specs.List.{AllZip}
use Rattle.std.specs.Prelude.{All}
use Rattle.doc_types.specs.Transactions.{IsOpOf}
use Rattle.ql_insert.specs.Insertions.{Inserts, rows_fault}
use Rattle.ql_insert.proofs.documents.insertions.Given as goal

abbrev pub invariant-rows : goal.invariant-rows
invariant-rows l = record {
  inserts : AllZip (Inserts l.conf l.targets) (take l.row-index l.rows) l.ops.items;
  of : All (IsOpOf l.conf.schema) l.ops.items;
  good : rows_fault l.conf.schema l.targets (drop l.row-index l.rows) ≡ None;
}
