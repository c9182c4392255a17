use Rattle.eval_vectors.proofs.HeldRows.{all_below}
use Rattle.eval_vectors.proofs.documents.goes_on.Goals as goal

pub returns-in-Some : goal.returns-in-Some
returns-in-Some c = all_below c.args.rows.now c.args.id c.in-Some.row.now c.requires c.in-Some.ensures.value
