use Rattle.std.proofs.Common.{◌≡◌}
use Rattle.std.proofs.Math.ListN.{replicate}
use Rattle.ql_insert.specs.Insertions.{no_tokens}
use Rattle.ql_insert.proofs.documents.Draft.blank.Given as goal

abbrev pub invariant-fields : goal.invariant-fields
invariant-fields l = l.fields.items ≡ replicate l.counter no_tokens
