use Rattle.std.proofs.Common.{sym, ◌∙◌, arith}
use Rattle.gate_log.proofs.Spelled.{whole, joined}
use Rattle.gate_log.proofs.frame.read_frame.Goals as goal

pub returns-clause-found : goal.returns-clause-found
returns-clause-found c =
    let b = c.in_ok-behind.ensures.lookup in
    let p = c.in_ok-payload.ensures.lookup in
    let r = c.in_ok-rest.ensures.lookup in
    whole c.args.bytes.now c.in_ok-payload.payload.now c.in_ok-rest.rest.now c.in_ok-size.field-0 c.in_ok-number.number (λ i. omega (arith, c.type_inv.bytes i)) (sym c.u32_at.ensures ∙ c.in_ok-size.was) (sym c.u64_at.ensures ∙ c.in_ok-number.was)
    (joined c.args.bytes.now c.in_ok-behind.behind.now c.in_ok-payload.payload.now c.in_ok-rest.rest.now c.in_ok-size.field-0 b.0.0 b.0.2 p.0.2 r.0.2 p.0.1) (omega (arith, p.0.3))
