use Rattle.std.proofs.Common.{◌≡◌, ◌<◌, true, inr, sym, ap, ◌∙◌, subst, arith}
use Rattle.query_pieces.specs.QueryBytes.{byte}
use Rattle.query_pieces.specs.steps.Names.{begins_of}
use Rattle.query_pieces.proofs.ByteRuns.{begun_run}
use Rattle.query_pieces.proofs.operators.read_name.Goals as goal

pub returns-then-begins-clause-ends : goal.returns-then-begins-clause-ends
returns-then-begins-clause-ends c =
    let begins : begins_of c.args.kind (byte c.args.text.now c.args.at) ≡ true = ap (begins_of c.args.kind) (sym c.byte_at.ensures.is) ∙ sym c.begins.ensures ∙ c.if-begins.true in
    let run = begun_run c.args.kind c.args.text.now c.args.at begins in
    let ahead : c.args.at < c.after_name-to.result = subst (λ n. c.args.at < n) (sym c.after_name-to.ensures.is) run.1 in
    record { after = ahead; within = c.after_name-to.ensures.within (omega (arith, run.0)); seam = inr (c.after_name-to.ensures.last ahead) }
