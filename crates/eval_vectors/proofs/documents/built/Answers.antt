use Rattle.eval_vectors.proofs.HeldRows.{content}
use Rattle.eval_vectors.proofs.documents.built.Goals as goal

pub build-requires : goal.build-requires
build-requires c = content c.args.index.now.schema c.args.rows.items c.requires.index.schema c.requires.rows
