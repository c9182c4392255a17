use Rattle.std.proofs.Common.{◌≡◌, ℕ, ◌+◌, arith, length, subst}
use Rattle.doc_types.specs.Snapshots.{living}
use Rattle.doc_search.specs.steps.Lacking.{LacksSome}
use Rattle.doc_search.specs.steps.Windows.{Carries}
use Rattle.doc_search.proofs.ManyRows.{stopped_as}
use Rattle.doc_search.proofs.windows.collect_told.Goals as goal

pub told-preserved : goal.told-preserved
told-preserved g c = record {
  within = c.in_ok-index.ensures.on.1;
  before = c.in_ok-index.ensures.on.2;
  stands = c.in_ok-index.ensures.stands;
  carries = λ layer start way. c.in_ok-index.ensures.carries layer start (c.told.invariant.carries layer start way);
}

pub returns-in_err-index-clause-lacks : goal.returns-in_err-index-clause-lacks
returns-in_err-index-clause-lacks g c = λ layer start nothing way.
    stopped_as (Unit {0}) ℕ (LacksSome c.args.asked.now (living layer)) c.in_err-index.field-0.0 c.from_residual.result c.from_residual.ensures.1
    (c.in_err-index.ensures.lacks layer start nothing (c.told.invariant.carries layer start way))

pub returns-clause-carries : goal.returns-clause-carries
returns-clause-carries g c =
    let end : c.told.index ≡ length c.args.told.now = omega (arith, c.told.invariant.within, c.told-test.false) in
    subst (λ (n : ℕ). Carries g.S.Sink.Took c.args.asked.now (g.C.Chunk.content c.args.chunk.now) c.args.dead.now c.args.from (c.args.from + n) c.args.sink.now c.told.sink) end c.told.invariant.carries
