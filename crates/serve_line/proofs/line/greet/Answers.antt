use Rattle.std.proofs.Common.{[], ◌∙◌}
use Rattle.srch_base.specs.Moves.{meters_of}
use Rattle.srch_base.specs.steps.Moving.{Moves-weaker}
use Rattle.serve_line.specs.Line.{Opened, Greeted}
use Rattle.serve_line.specs.steps.Serving.{Goes, Sends}
use Rattle.serve_line.proofs.Turning.{greeted}
use Rattle.serve_line.proofs.line.greet.Goals as goal

pub returns : goal.returns
returns g c =
    let K = g.K.Link in
    let m = meters_of K in
    Moves-weaker K c.args.link.now c.send.new.link (Sends c.send.result c.bytes.result.now)
    (λ before now read written. Goes g.A.Answerer.machine before now c.send.result (Opened c.args.connection c.args.answerer.now) [] read written [] (Greeted c.args.answerer.now) [])
    c.send.ensures
    (λ r w p. greeted g.A.Answerer.machine c.args.connection c.args.answerer.now (m c.args.link.now) (m c.send.new.link) c.send.result r w c.bytes.result.now (c.bytes.ensures.value ∙ c.greeting.ensures) p)
