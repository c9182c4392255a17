use Rattle.std.proofs.Common.{◌∙◌, sym}
use Rattle.layout_vectors.proofs.Columns.{last_columns}
use Rattle.layout_vectors.proofs.payloads.schema_of.Goals as goal

pub returns-in-Some : goal.returns-in-Some
returns-in-Some c = last_columns c.args.conf.indexes c.pop.new.self.items c.in-Some.index c.requires.schemas (sym c.into_vec.ensures ∙ c.in-Some.ensures.items)
