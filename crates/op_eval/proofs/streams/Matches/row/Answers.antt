use Rattle.std.proofs.Common.{ℕ, Some, refl, sym, subst, arith}
use Rattle.row_plans.specs.Living.{HasGone}
use Rattle.query_tree.specs.TreeKeys.{query_keys}
use Rattle.op_eval.specs.Streams.{GoesTo, Stream}
use Rattle.op_eval.specs.steps.Streaming.{StandsAt}
use Rattle.op_eval.proofs.Debt.{due_end, row_owes}
use Rattle.op_eval.proofs.streams.Matches.row.Goals as goal

pub invariant_of-self : goal.invariant_of-self
invariant_of-self g c =
    let first = c.in-Some.ensures.first c.self.inside.query.now c.self.invariant.stands in
    record {
      within = omega (arith, first.within);
      few = c.self.invariant.few;
      ascend = c.self.invariant.ascend;
      behind = c.in-Some.ensures.gone;
      stands = c.in-Some.ensures.stands c.self.inside.query.now c.self.invariant.stands;
    }

pub invariant_of-self-in-None : goal.invariant_of-self-in-None
invariant_of-self-in-None g c = record {
  within = omega (arith, c.rows-self-inside.ensures);
  few = c.self.invariant.few;
  ascend = c.self.invariant.ascend;
  behind = subst (HasGone c.self.inside.dead.now c.first_open-next.new.gone) (sym c.rows-self-inside.ensures) c.in-None.ensures.gone;
  stands =
      subst (λ (n : ℕ). StandsAt (g.C.Chunk.belongs c.self.inside.chunk.now) (g.C.Chunk.place c.self.inside.chunk.now) (g.C.Chunk.content c.self.inside.chunk.now) n c.self.inside.query.now c.first_open-next.new.search)
      (sym c.rows-self-inside.ensures)
      (c.in-None.ensures.stands c.self.inside.query.now c.self.invariant.stands);
}

pub returns-in-Some-clause-goes : goal.returns-in-Some-clause-goes
returns-in-Some-clause-goes g c =
    let first = c.in-Some.ensures.first c.self.inside.query.now c.self.invariant.stands in
    let new : Stream = record { query = c.self.inside.query.now; rows = g.C.Chunk.content c.self.inside.chunk.now; dead = c.self.inside.dead.now; at = c.in-Some.row } in
    subst (λ (old : Stream). GoesTo old c.in-Some.row new) c.self.view_is
    (record { stands = refl; on = first.on; within = first.within; living = first.living; kept = first.passed })

pub returns-in-Some-clause-debt : goal.returns-in-Some-clause-debt
returns-in-Some-clause-debt g c =
    let first = c.in-Some.ensures.first c.self.inside.query.now c.self.invariant.stands in
    let new : Stream = record { query = c.self.inside.query.now; rows = g.C.Chunk.content c.self.inside.chunk.now; dead = c.self.inside.dead.now; at = c.in-Some.row } in
    row_owes c.args.self.now new (Some c.in-Some.row)
    (subst (λ (old : Stream). GoesTo old c.in-Some.row new) c.self.view_is
    (record { stands = refl; on = first.on; within = first.within; living = first.living; kept = first.passed }))

pub returns-in-None-clause-debt : goal.returns-in-None-clause-debt
returns-in-None-clause-debt g c =
    let rows = g.C.Chunk.content c.self.inside.chunk.now in
    let none = due_end (query_keys c.self.inside.query.now) rows c.rows-self-inside.result (omega (arith, c.rows-self-inside.ensures)) in
    omega (arith, none)
