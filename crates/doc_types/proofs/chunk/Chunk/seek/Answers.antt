use Rattle.std.proofs.Common.{rules, tests, ◌∙◌, sym}
use Rattle.doc_types.proofs.Seeking.{at_front}
use Rattle.doc_types.proofs.chunk.Chunk.seek.Goals as goal

pub returns-then-next-row-clause-place : goal.returns-then-next-row-clause-place
returns-then-next-row-clause-place g c =
    sym (at_front c.args.row c.in-Some.next _ (sym c.in-Some.ensures.next) (search (rules, tests))) ∙ c.loop-next.invariant.place
