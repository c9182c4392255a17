use Rattle.doc_vectors.specs.steps.Plain.{plain}
use Rattle.doc_vectors.proofs.PlainSchema.{is_schema}
use Rattle.doc_vectors.proofs.over_layers.commit_layers.Goals as goal

pub commit-requires-clause-of : goal.commit-requires-clause-of
commit-requires-clause-of c = (plain, is_schema, c.requires)
