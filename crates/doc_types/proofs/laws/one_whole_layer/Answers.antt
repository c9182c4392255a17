use Rattle.std.proofs.Common.{ap}
use Rattle.doc_types.specs.Rows.{rows_of}
use Rattle.doc_types.proofs.Living.{whole_layer}
use Rattle.doc_types.proofs.laws.one_whole_layer.Goals as goal

pub returns : goal.returns
returns g c = rw c.requires.1.0 (ap rows_of (whole_layer g.layer c.requires.1.1))
