use Rattle.std.proofs.Common.{sym, ◌∙◌, arith}
use Rattle.prefix_terms.proofs.Runs.{lower_half, upper_half}
use Rattle.prefix_terms.proofs.parts.front.Goals as goal

pub halves-preserved-then-stands_before : goal.halves-preserved-then-stands_before
halves-preserved-then-stands_before g c =
    upper_half _ _ _ _ _ _ _ (g.met.C.Chunk.all_words c.args.chunk.now).ascend c.halves.invariant c.word_at.ensures (omega arith) (omega arith) (sym c.stands_before.ensures ∙ c.if-stands_before.true)

pub halves-preserved : goal.halves-preserved
halves-preserved g c =
    lower_half _ _ _ _ _ _ _ (g.met.C.Chunk.all_words c.args.chunk.now).ascend c.halves.invariant c.word_at.ensures (omega arith) (omega arith) (sym c.stands_before.ensures ∙ c.if-stands_before.false)
