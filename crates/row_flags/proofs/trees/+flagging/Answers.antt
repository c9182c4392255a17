use Rattle.std.specs.Prelude.{◌||◌}
use Rattle.row_flags.specs.steps.Flags.{AreFlags, all_pass, node_matches}
use Rattle.row_flags.proofs.NodeFlags.{and_flags, maybe_flags, or_flags, told_then, word_flags}
use Rattle.row_flags.proofs.trees.+flagging.Goals as goal

pub flag-returns-in-Word-clause-flags : goal.flag-returns-in-Word-clause-flags
flag-returns-in-Word-clause-flags g t c = λ number told.
    word_flags number c.args.node.now c.in-Word.key (g.C.Chunk.content c.args.chunk.now) c.args.from c.flag_key.new.into c.in-Word.is (c.flag_key.ensures.flags told)

pub flag-returns-in-And-clause-flags : goal.flag-returns-in-And-clause-flags
flag-returns-in-And-clause-flags g t c = λ number.
    let rows = g.C.Chunk.content c.args.chunk.now in
    told_then (AreFlags (all_pass number c.as_slice.result.now) rows c.args.from c.flag_all.new.into) (AreFlags (node_matches number c.args.node.now) rows c.args.from c.flag_all.new.into) c.flag_all.result
    (and_flags number c.args.node.now c.in-And.items c.as_slice.result.now rows c.args.from c.flag_all.new.into c.in-And.is c.as_slice.ensures)
    (c.flag_all.ensures.flags number)

pub flag-returns-in-Or-clause-flags : goal.flag-returns-in-Or-clause-flags
flag-returns-in-Or-clause-flags g t c = λ number.
    let rows = g.C.Chunk.content c.args.chunk.now in
    told_then (AreFlags (λ row. node_matches number c.get.result.now row || node_matches number c.get-in-Or.result.now row) rows c.args.from c.flag_either.new.into) (AreFlags (node_matches number c.args.node.now) rows c.args.from c.flag_either.new.into) c.flag_either.result
    (or_flags number c.args.node.now c.in-Or.a c.in-Or.b c.get.result.now c.get-in-Or.result.now rows c.args.from c.flag_either.new.into c.in-Or.is c.get.ensures c.get-in-Or.ensures)
    (c.flag_either.ensures.flags number)

pub flag-returns-in-Maybe-clause-flags : goal.flag-returns-in-Maybe-clause-flags
flag-returns-in-Maybe-clause-flags g t c = λ number.
    let rows = g.C.Chunk.content c.args.chunk.now in
    told_then (AreFlags (node_matches number c.get-in-Maybe.result.now) rows c.args.from c.flag.new.into) (AreFlags (node_matches number c.args.node.now) rows c.args.from c.flag.new.into) c.flag.result
    (maybe_flags number c.args.node.now c.in-Maybe.a c.in-Maybe.field-1 c.get-in-Maybe.result.now rows c.args.from c.flag.new.into c.in-Maybe.is c.get-in-Maybe.ensures)
    (c.flag.ensures.flags number)
