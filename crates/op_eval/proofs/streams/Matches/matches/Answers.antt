use Rattle.std.proofs.Common.{◌<◌, ◌≤◌, ◌+◌, length, refl, sym, subst, arith}
use Rattle.op_eval.specs.Debts.{owed}
use Rattle.op_eval.specs.Streams.{Stream}
use Rattle.op_eval.proofs.Debt.{fail_owes, on_err, take_owes}
use Rattle.op_eval.proofs.NextMatches.{behind}
use Rattle.op_eval.proofs.Searches.{few}
use Rattle.op_eval.proofs.streams.Matches.matches.Goals as goal

pub overflow_add-self : goal.overflow_add-self
overflow_add-self g c =
    let within = subst (λ (it : Stream). it.at < length it.rows) (sym c.self.view_is) c.requires in
    let limit = few (g.C.Chunk.content c.self.inside.chunk.now) (g.met.C.Chunk.whole c.self.inside.chunk.now) in
    omega (arith, limit, within)

pub invariant_of-self-2 : goal.invariant_of-self-2
invariant_of-self-2 g c =
    behind (g.C.Chunk.belongs c.self.inside.chunk.now) (g.C.Chunk.place c.self.inside.chunk.now) (g.C.Chunk.content c.self.inside.chunk.now) c.self.inside.query.now c.self.inside.from c.self.inside.dead.now c.self.inside.gone c.row_matches.new.search
    (subst (λ (it : Stream). it.at < length it.rows) (sym c.self.view_is) c.requires) c.self.invariant.few c.self.invariant.ascend c.self.invariant.behind c.row_matches.ensures.stands

pub returns-clause-debt : goal.returns-clause-debt
returns-clause-debt g c =
    let view : Stream = record { query = c.self.inside.query.now; rows = g.C.Chunk.content c.self.inside.chunk.now; dead = c.self.inside.dead.now; at = c.self.inside.from } in
    subst (λ (old : Stream). c.row_matches.new.steps + owed (record view { at = view.at + 1 }) ≤ c.args.steps.now + owed old) c.self.view_is
    (take_owes view c.args.steps.now c.row_matches.new.steps (subst (λ (it : Stream). it.at < length it.rows) (sym c.self.view_is) c.requires) c.row_matches.ensures.count (record view { at = view.at + 1 }) refl)

pub returns-in_err-told-clause-failed : goal.returns-in_err-told-clause-failed
returns-in_err-told-clause-failed g c =
    let view : Stream = record { query = c.self.inside.query.now; rows = g.C.Chunk.content c.self.inside.chunk.now; dead = c.self.inside.dead.now; at = c.self.inside.from } in
    on_err (c.row_matches.new.steps ≤ c.args.steps.now + owed c.args.self.now) c.from_residual.result
    (subst (λ (old : Stream). c.row_matches.new.steps ≤ c.args.steps.now + owed old) c.self.view_is
    (fail_owes view c.args.steps.now c.row_matches.new.steps (subst (λ (it : Stream). it.at < length it.rows) (sym c.self.view_is) c.requires) c.row_matches.ensures.count))
