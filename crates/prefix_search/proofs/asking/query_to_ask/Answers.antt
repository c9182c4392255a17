use Rattle.std.proofs.Common.{◌∙◌, rules, sym}
use Rattle.std.proofs.lemmas.Bool.{not-true}
use Rattle.doc_types.specs.Snapshots.{all_living}
use Rattle.prefix_search.proofs.Plain.{asked_itself}
use Rattle.prefix_search.proofs.asking.query_to_ask.Goals as goal

pub returns-then-not-has_prefix : goal.returns-then-not-has_prefix
returns-then-not-has_prefix g c =
    asked_itself c.args.query.now (all_living c.args.snapshot.now.layers) (sym c.in_ok-has_prefix.ensures ∙ search (rules, not-true))
