use Rattle.std.proofs.Common.{◌∙◌, sym, arith}
use Rattle.std.specs.Arc.{arc_value}
use Rattle.prefix_terms.proofs.Runs.{run_at, run_long, run_past}
use Rattle.prefix_terms.proofs.parts.Part.word.Goals as goal

pub returns-then-number-self-clause-word : goal.returns-then-number-self-clause-word
returns-then-number-self-clause-word g c =
    let its = rw c.deref.ensures at c.word_at.ensures in
    rw (← c.self.view_is) (sym (run_at (g.C.Chunk.words_of (arc_value c.self.inside.chunk)) c.self.inside.first c.self.inside.count c.args.number c.self.invariant.within (omega arith) ∙ its))

pub returns-then-number-self-clause-few : goal.returns-then-number-self-clause-few
returns-then-number-self-clause-few g c =
    let long = run_long (g.C.Chunk.words_of (arc_value c.self.inside.chunk)) c.self.inside.first c.self.inside.count c.self.invariant.within in
    rw (← c.self.view_is) (omega (arith, long, c.self.invariant.within, c.self.invariant.few))

pub returns-else-number-self-clause-word : goal.returns-else-number-self-clause-word
returns-else-number-self-clause-word g c =
    rw (← c.self.view_is) (sym (run_past (g.C.Chunk.words_of (arc_value c.self.inside.chunk)) c.self.inside.first c.self.inside.count c.args.number c.self.invariant.within (omega arith)))

pub returns-else-number-self-clause-few : goal.returns-else-number-self-clause-few
returns-else-number-self-clause-few g c =
    let long = run_long (g.C.Chunk.words_of (arc_value c.self.inside.chunk)) c.self.inside.first c.self.inside.count c.self.invariant.within in
    rw (← c.self.view_is) (omega (arith, long, c.self.invariant.within, c.self.invariant.few))
