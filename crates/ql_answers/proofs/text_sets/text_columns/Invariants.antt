use Rattle.std.proofs.Common.{◌≡◌, take, map}
use Rattle.ql_answers.specs.Replies.{text_column}
use Rattle.ql_answers.proofs.text_sets.text_columns.Given as goal

abbrev pub invariant-names : goal.invariant-names
invariant-names l = l.columns.items ≡ map (λ name. text_column name.now) (take l.name-index l.names)
