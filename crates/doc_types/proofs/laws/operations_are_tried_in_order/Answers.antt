use Rattle.doc_types.proofs.Changes.{tried_insert, tried_put, tried_kill, tried_clear, killed_twice}
use Rattle.doc_types.proofs.laws.operations_are_tried_in_order.Goals as goal

pub returns : goal.returns
returns c = record { insert = tried_insert; put = tried_put; kill = tried_kill; clear = tried_clear; killed_twice = killed_twice }
