use Rattle.std.proofs.Common.{◌≡◌, Some, sym, ap, subst, ◌∙◌}
use Rattle.engine_tables.specs.Tokens.{SitsAt, TokensValue}
use Rattle.line_workers.proofs.Places.{some_is}
use Rattle.line_workers.proofs.Worked.{worked_so}
use Rattle.line_workers.proofs.working.work.Goals as goal

pub returns : goal.returns
returns g c =
    let had : TokensValue = c.in-Some.tokens in
    let is : c.args.seat.now.tokens ≡ Some had = cc in
    let can : c.requires.can.had ≡ had = some_is c.requires.can.had had (sym c.requires.can.is ∙ is) in
    worked_so g.E.Door g.E.Line.Link g.J.Naming.schema g.J.Naming.base c.args.engines.now c.args.sessions c.args.seat.now
    (record { door = c.serve_lines-seat.new.door; tokens = Some c.into_tokens.result; end = c.serve_lines-seat.result })
    had c.over-tables.result c.serve_lines-seat.new.tables c.workers-workers.result c.worker-worker.result c.serve_lines-seat.ensures.0 is
    (subst (λ (t : TokensValue). SitsAt c.args.engines.now t) can c.requires.can.sits)
    (ap Some c.into_tokens.ensures) c.over-tables.ensures c.workers-workers.ensures c.worker-worker.ensures c.serve_lines-seat.ensures.1
