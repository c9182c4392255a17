use Rattle.query_tree.specs.TreeKeys.{node_keys}
use Rattle.word_rows.specs.Slots.{number_among}
use Rattle.row_flags.proofs.Counted.{buried}
use Rattle.row_flags.proofs.counting.flag_living.Goals as goal

pub returns-clause-flags : goal.returns-clause-flags
returns-clause-flags g c = λ told.
    buried c.args.root.now c.args.dead.now (g.C.Chunk.content c.args.chunk.now) c.args.from c.flag.new.into c.bury.new.flags
    (c.in_ok-flag.ensures.flags (number_among (node_keys c.args.root.now)) c.if-not-branch.false) c.bury.ensures.long c.bury.ensures.each
