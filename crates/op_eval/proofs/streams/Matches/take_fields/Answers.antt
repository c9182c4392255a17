use Rattle.std.proofs.Common.{◌<◌, ◌≤◌, ◌+◌, length, refl, sym, subst, arith}
use Rattle.op_eval.specs.Debts.{owed}
use Rattle.op_eval.specs.Streams.{Stream}
use Rattle.op_eval.proofs.Debt.{take_owes}
use Rattle.op_eval.proofs.NextMatches.{behind}
use Rattle.op_eval.proofs.Searches.{few}
use Rattle.op_eval.proofs.streams.Matches.take_fields.Goals as goal

pub overflow_add-self : goal.overflow_add-self
overflow_add-self g c =
    let within = subst (λ (it : Stream). it.at < length it.rows) (sym c.self.view_is) c.requires.within in
    let limit = few (g.C.Chunk.content c.self.inside.chunk.now) (g.met.C.Chunk.whole c.self.inside.chunk.now) in
    omega (arith, limit, within)

pub invariant_of-self : goal.invariant_of-self
invariant_of-self g c =
    behind (g.C.Chunk.belongs c.self.inside.chunk.now) (g.C.Chunk.place c.self.inside.chunk.now) (g.C.Chunk.content c.self.inside.chunk.now) c.self.inside.query.now c.self.inside.from c.self.inside.dead.now c.self.inside.gone c.row_fields-fields.new.search
    (subst (λ (it : Stream). it.at < length it.rows) (sym c.self.view_is) c.requires.within) c.self.invariant.few c.self.invariant.ascend c.self.invariant.behind c.row_fields-fields.ensures.stands

pub returns-clause-debt : goal.returns-clause-debt
returns-clause-debt g c =
    let view : Stream = record { query = c.self.inside.query.now; rows = g.C.Chunk.content c.self.inside.chunk.now; dead = c.self.inside.dead.now; at = c.self.inside.from } in
    subst (λ (old : Stream). c.row_fields-fields.new.steps + owed (record view { at = view.at + 1 }) ≤ c.args.steps.now + owed old) c.self.view_is
    (take_owes view c.args.steps.now c.row_fields-fields.new.steps (subst (λ (it : Stream). it.at < length it.rows) (sym c.self.view_is) c.requires.within) c.row_fields-fields.ensures.count (record view { at = view.at + 1 }) refl)
