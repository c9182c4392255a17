use Rattle.query_pieces.proofs.ByteRuns.{ends_relaxed}
use Rattle.query_pieces.proofs.operators.read_at_sign.Goals as goal

pub returns-then-relaxes-clause-ends : goal.returns-then-relaxes-clause-ends
returns-then-relaxes-clause-ends c =
    let (start, within, is) = c.relaxes.ensures.within c.if-relaxes.true in ends_relaxed c.args.text.now c.args.at start within is
