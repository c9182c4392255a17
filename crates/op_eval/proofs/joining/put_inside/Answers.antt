use Rattle.std.proofs.Common.{◌++◌, ◌∙◌, ap}
use Rattle.op_eval.proofs.Appending.{inside_alike}
use Rattle.op_eval.proofs.joining.put_inside.Goals as goal

pub returns-clause-hits : goal.returns-clause-hits
returns-clause-hits c =
    c.in_ok-extend_from_slice.ensures.items
    ∙ ap (λ list. c.args.out.now.hits.items ++ list) (c.deref.ensures.value ∙ c.inside-kept.ensures ∙ inside_alike c.over-cover.result c.args.occs.items c.over-cover.ensures c.args.hits.items)
