use Rattle.prefix_terms.proofs.Plain.{query_some}
use Rattle.prefix_terms.proofs.rewriting.rewrite.Goals as goal

pub returns-in_ok-root-in-Some : goal.returns-in_ok-root-in-Some
returns-in_ok-root-in-Some c = query_some c.args.expansion.now.keys c.args.query.now c.in-Some.root c.in_ok-root-in-Some.root c.in-Some.is c.in_ok-root-in-Some.ensures
