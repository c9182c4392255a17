use Rattle.std.proofs.Common.{◌≡◌, Some, true, slice_get, subst}
use Rattle.std.specs.Prelude.{IfSome}
use Rattle.query_tree.specs.TreeKeys.{query_keys}
use Rattle.word_rows.specs.Keywords.{present_in}
use Rattle.op_eval.specs.Matching.{matches}
use Rattle.op_eval.specs.Streams.{Stream}
use Rattle.op_eval.proofs.streams.Matches.sure_words.Goals as goal

pub returns-clause-sure : goal.returns-clause-sure
returns-clause-sure g c = λ doc.
    subst (λ (old : Stream). slice_get old.rows old.at ≡ Some doc → IfSome c.row_words.result (λ words. (matches old.query doc ≡ true) × (words ≡ present_in doc (query_keys old.query)))) c.self.view_is
    (c.row_words.ensures.sure doc)
