use Rattle.doc_vectors.specs.steps.Columns.{the_schema, one_schema, wide_schema}
use Rattle.doc_vectors.proofs.TheSchema.{the_shape, one_shape, wide_shape, by_test}
use Rattle.doc_vectors.proofs.documents.has_schema.Goals as goal

pub returns-in-1 : goal.returns-in-1
returns-in-1 c = λ test. (one_schema, by_test one_schema 1 0 c.args.count c.args.attrs one_shape c.in-1.is test)

pub returns-in-3 : goal.returns-in-3
returns-in-3 c = λ test. (the_schema, by_test the_schema 3 2 c.args.count c.args.attrs the_shape c.in-3.is test)

pub returns-in-32 : goal.returns-in-32
returns-in-32 c = λ test. (wide_schema, by_test wide_schema 32 0 c.args.count c.args.attrs wide_shape c.in-32.is test)
