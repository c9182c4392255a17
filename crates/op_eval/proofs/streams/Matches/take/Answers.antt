use Rattle.std.proofs.Common.{◌<◌, ◌≤◌, ◌+◌, length, refl, sym, subst, arith}
use Rattle.op_eval.specs.Debts.{owed}
use Rattle.op_eval.specs.Streams.{Stream}
use Rattle.op_eval.proofs.Debt.{fail_owes, on_err, take_owes}
use Rattle.op_eval.proofs.NextMatches.{behind}
use Rattle.op_eval.proofs.Searches.{few}
use Rattle.op_eval.proofs.streams.Matches.take.Goals as goal

pub overflow_add-self : goal.overflow_add-self
overflow_add-self g c =
    let within = subst (λ (it : Stream). it.at < length it.rows) (sym c.self.view_is) c.requires in
    let limit = few (g.C.Chunk.content c.self.inside.chunk.now) (g.met.C.Chunk.whole c.self.inside.chunk.now) in
    omega (arith, limit, within)

pub invariant_of-self-then-told : goal.invariant_of-self-then-told
invariant_of-self-then-told g c =
    behind (g.C.Chunk.belongs c.self.inside.chunk.now) (g.C.Chunk.place c.self.inside.chunk.now) (g.C.Chunk.content c.self.inside.chunk.now) c.self.inside.query.now c.self.inside.from c.self.inside.dead.now c.self.inside.gone c.find_row.new.search
    (subst (λ (it : Stream). it.at < length it.rows) (sym c.self.view_is) c.requires) c.self.invariant.few c.self.invariant.ascend c.self.invariant.behind c.find_row.ensures.stands

pub invariant_of-self-else-told : goal.invariant_of-self-else-told
invariant_of-self-else-told g c =
    behind (g.C.Chunk.belongs c.self.inside.chunk.now) (g.C.Chunk.place c.self.inside.chunk.now) (g.C.Chunk.content c.self.inside.chunk.now) c.self.inside.query.now c.self.inside.from c.self.inside.dead.now c.self.inside.gone c.find_row.new.search
    (subst (λ (it : Stream). it.at < length it.rows) (sym c.self.view_is) c.requires) c.self.invariant.few c.self.invariant.ascend c.self.invariant.behind c.find_row.ensures.stands

pub returns-then-told-clause-debt : goal.returns-then-told-clause-debt
returns-then-told-clause-debt g c =
    let view : Stream = record { query = c.self.inside.query.now; rows = g.C.Chunk.content c.self.inside.chunk.now; dead = c.self.inside.dead.now; at = c.self.inside.from } in
    subst (λ (old : Stream). c.find_row.new.steps + owed (record view { at = view.at + 1 }) ≤ c.args.steps.now + owed old) c.self.view_is
    (take_owes view c.args.steps.now c.find_row.new.steps (subst (λ (it : Stream). it.at < length it.rows) (sym c.self.view_is) c.requires) c.find_row.ensures.count (record view { at = view.at + 1 }) refl)

pub returns-else-told-clause-debt : goal.returns-else-told-clause-debt
returns-else-told-clause-debt g c =
    let view : Stream = record { query = c.self.inside.query.now; rows = g.C.Chunk.content c.self.inside.chunk.now; dead = c.self.inside.dead.now; at = c.self.inside.from } in
    subst (λ (old : Stream). c.find_row.new.steps + owed (record view { at = view.at + 1 }) ≤ c.args.steps.now + owed old) c.self.view_is
    (take_owes view c.args.steps.now c.find_row.new.steps (subst (λ (it : Stream). it.at < length it.rows) (sym c.self.view_is) c.requires) c.find_row.ensures.count (record view { at = view.at + 1 }) refl)

pub returns-in_err-told-clause-failed : goal.returns-in_err-told-clause-failed
returns-in_err-told-clause-failed g c =
    let view : Stream = record { query = c.self.inside.query.now; rows = g.C.Chunk.content c.self.inside.chunk.now; dead = c.self.inside.dead.now; at = c.self.inside.from } in
    on_err (c.find_row.new.steps ≤ c.args.steps.now + owed c.args.self.now) c.from_residual.result
    (subst (λ (old : Stream). c.find_row.new.steps ≤ c.args.steps.now + owed old) c.self.view_is
    (fail_owes view c.args.steps.now c.find_row.new.steps (subst (λ (it : Stream). it.at < length it.rows) (sym c.self.view_is) c.requires) c.find_row.ensures.count))
