use Rattle.self_test.proofs.Begun.{new_holds_nothing}
use Rattle.self_test.proofs.engine.run_over_engine.Goals as goal

pub open_index-requires-clause-nothing : goal.open_index-requires-clause-nothing
open_index-requires-clause-nothing g c = new_holds_nothing c.new-disk.result c.new-disk.ensures.files
