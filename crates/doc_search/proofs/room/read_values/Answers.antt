use Rattle.std.proofs.Common.{List, ap}
use Rattle.std.proofs.lemmas.Result.{on_ok_weaker}
use Rattle.doc_types.specs.declared.schema.Value.{Value}
use Rattle.doc_search.specs.Rankings.{weigh}
use Rattle.doc_search.proofs.room.read_values.Goals as goal

pub returns-then-looks_at_values : goal.returns-then-looks_at_values
returns-then-looks_at_values g c = λ doc here.
    on_ok_weaker c.copy_values.result
    (λ same hits weights. ap (λ (values : List Value). weigh c.args.asked.now.ranker hits weights values) same)
    (c.copy_values.ensures doc here)
