use Rattle.std.proofs.Common.{◌≡◌, ◌<◌, ◌^◌, take, length}
use Rattle.std.specs.Prelude.{sum_by}
use Rattle.ql_insert.proofs.documents.has_few_spans.Given as goal

abbrev pub invariant-fields : goal.invariant-fields
invariant-fields l = (l.spans ≡ sum_by (λ tokens. length tokens.spans) (take l.field-index l.fields)) × (l.spans < 2 ^ 32)
