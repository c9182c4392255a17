use Rattle.std.proofs.Common.{◌∙◌, Some, ap, sym}
use Rattle.doc_search.specs.Rankings.{weigh}
use Rattle.doc_search.specs.steps.Lacking.{sought}
use Rattle.doc_search.proofs.Weighing.{sought_plain}
use Rattle.doc_search.proofs.ranking.Ranking.weigh_by_fields.Goals as goal

pub returns-in-Plain : goal.returns-in-Plain
returns-in-Plain c = λ hits alone.
    ap Some (c.weight_of_fields.ensures hits alone.query alone.word alone.some alone.ranked alone.one alone.are)
    ∙ ap (λ its. weigh its hits c.args.weights.now.list c.args.values.now) (sym (ap (sought c.args.lacking) c.in-Plain.is ∙ sought_plain c.args.lacking c.in-Plain.ranker))
