use Rattle.std.proofs.Common.{◌≡◌, None, take, drop}
use Rattle.ql_insert.specs.Insertions.{Fills, blank, values_fault}
use Rattle.ql_insert.specs.steps.Documents.{IsShaped}
use Rattle.ql_insert.proofs.documents.document.Given as goal

abbrev pub invariant-values : goal.invariant-values
invariant-values l = record {
  fills : Fills l.conf (take l.place l.targets) (take l.place l.row) (blank l.conf.schema) l.draft;
  shaped : IsShaped l.conf.schema l.draft;
  good : values_fault l.conf.schema (drop l.place l.targets) (drop l.place l.row) ≡ None;
}
