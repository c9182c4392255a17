-- The lists of places that rows may open: for each row one for each keyword whose word it has.
use Rattle.std.specs.Prelude.{ℕ, List, drop, sum_by}
use Rattle.doc_types.specs.declared.documents.DocRow.{DocRow}
use Rattle.query_tree.specs.declared.key.Key.{Key}
use Rattle.query_tree.specs.TreeKeys.{query_keys}
use Rattle.word_rows.specs.Keywords.{present_in}
use Rattle.op_eval.specs.Streams.{Stream}

-- those of the rows from this one on
abbrev pub due : List DocRow → List Key → ℕ → ℕ
due rows keys from = sum_by (λ row. present_in row keys) (drop from rows)

-- those of the rows that a stream still has before it
abbrev pub owed : Stream → ℕ
owed stream = due stream.rows (query_keys stream.query) stream.at
