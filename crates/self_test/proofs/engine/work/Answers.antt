use Rattle.std.proofs.Common.{◌≡◌, ap, length, sym, subst, ◌∙◌}
use Rattle.engine_tables.specs.Tokens.{SitsAt, TokensValue}
use Rattle.engine_tables.specs.Workers.{WorkerValue}
use Rattle.self_test.specs.Documents.{documents_from}
use Rattle.self_test.proofs.Seats.{still_sits}
use Rattle.self_test.proofs.Engines.{found_by, works_by}
use Rattle.self_test.proofs.engine.work.Goals as goal

pub run-found-requires : goal.run-found-requires
run-found-requires g c = record { one = ap (λ (w : WorkerValue). length w.confs) c.over-tables.ensures ∙ c.requires.one }

pub returns-clause-sits : goal.returns-clause-sits
returns-clause-sits g c =
    let begun : SitsAt c.args.engines.now c.over-tables.result.tokens = subst (λ (w : WorkerValue). SitsAt c.args.engines.now w.tokens) (sym c.over-tables.ensures) c.requires.sits in
    subst (λ (t : TokensValue). SitsAt c.args.engines.now t) (sym c.into_tokens.ensures)
    (still_sits g.J.Naming.schema g.J.Naming.base c.args.engines.now c.over-tables.result c.run-found.new.tables begun c.run-found.ensures.leads)

pub returns-clause-finds : goal.returns-clause-finds
returns-clause-finds g c =
    found_by g.J.Naming.schema g.J.Naming.base c.args.engines.now.confs (documents_from c.args.number c.args.docs) c.run-found.result c.args.tokens c.into_tokens.result c.over-tables.result c.run-found.new.tables
    c.over-tables.ensures (c.run-found.ensures.confs ∙ ap (λ (w : WorkerValue). w.confs) c.over-tables.ensures) (sym c.into_tokens.ensures) c.run-found.ensures.comes

pub returns-clause-works : goal.returns-clause-works
returns-clause-works g c =
    works_by g.J.Naming.schema g.J.Naming.base c.args.engines.now.confs c.args.tokens c.into_tokens.result c.over-tables.result c.run-found.new.tables
    c.over-tables.ensures (c.run-found.ensures.confs ∙ ap (λ (w : WorkerValue). w.confs) c.over-tables.ensures) (sym c.into_tokens.ensures) c.run-found.ensures.leads
