use Rattle.std.proofs.Common.{rules, tests, arith}
use Rattle.doc_types.proofs.PlainPlaces.{goes_on, at_its_end}
use Rattle.doc_types.proofs.plain_chunk.PlainChunkChunk.advance.Goals as goal

pub returns-then-cursor-clause-next : goal.returns-then-cursor-clause-next
returns-then-cursor-clause-next c = at_its_end _ _ c.args.cursor.now c.args.self.now.indexed (search rules) (search (rules, tests))

pub overflow_add-cursor : goal.overflow_add-cursor
overflow_add-cursor c =
    let its = goes_on _ _ _ c.args.cursor.now c.entry_at-entry.result.now c.args.self.now.indexed c.as_slice.ensures c.entry_at-entry.ensures.entry c.entry_at-entry.ensures.here (search (rules, tests)) in
    omega (arith, its.few)

pub returns-clause-stays : goal.returns-clause-stays
returns-clause-stays c =
    let its = goes_on _ _ _ c.args.cursor.now c.entry_at-entry.result.now c.args.self.now.indexed c.as_slice.ensures c.entry_at-entry.ensures.entry c.entry_at-entry.ensures.here (search (rules, tests)) in
    its.stands c.row_at-cursor.result (search rules)

pub returns-clause-next : goal.returns-clause-next
returns-clause-next c =
    let its = goes_on _ _ _ c.args.cursor.now c.entry_at-entry.result.now c.args.self.now.indexed c.as_slice.ensures c.entry_at-entry.ensures.entry c.entry_at-entry.ensures.here (search (rules, tests)) in
    its.place c.row_at-cursor.result

pub returns-clause-ended : goal.returns-clause-ended
returns-clause-ended c =
    let its = goes_on _ _ _ c.args.cursor.now c.entry_at-entry.result.now c.args.self.now.indexed c.as_slice.ensures c.entry_at-entry.ensures.entry c.entry_at-entry.ensures.here (search (rules, tests)) in
    λ none. absurd (its.left none)
