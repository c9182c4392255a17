use Rattle.std.proofs.Common.{◌≡◌, ℕ, ◌∙◌, sym, subst}
use Rattle.step_history.specs.History.{IsGood}
use Rattle.job_chunks.specs.Chunks.{IsNewChunk}
use Rattle.job_states.specs.States.{HasSeen}
use Rattle.snap_share.proofs.JobAnswers.{reshape_answers_so}
use Rattle.snap_share.proofs.held.Held.reshape.Goals as goal

pub install-result-requires-clause-seen : goal.install-result-requires-clause-seen
install-result-requires-clause-seen g c =
    let of = sym c.index.ensures ∙ c.if-index-self.false ∙ c.self.invariant.0 in
    subst (λ (i : ℕ). HasSeen (g.J.Naming.base i) c.args.token.now.seen c.args.new.from) of c.requires.seen

pub install-result-requires-clause-chunk : goal.install-result-requires-clause-chunk
install-result-requires-clause-chunk g c =
    let of = sym c.index.ensures ∙ c.if-index-self.false ∙ c.self.invariant.0 in
    subst (λ (i : ℕ). IsNewChunk (g.J.Naming.schema i) c.args.new) of c.requires.chunk

pub returns : goal.returns
returns g c =
    let keeper = c.self.inside.keeper in
    let made = c.install-result in
    let of : c.args.token.now.index ≡ keeper.kept.line.index = sym c.index.ensures ∙ c.if-index-self.false ∙ c.self.invariant.0 in
    let good = subst (λ (i : ℕ). IsGood (g.J.Naming.schema i) (g.J.Naming.base i) made.new.token.seen) (made.ensures.token.index ∙ of) c.len-after.ensures.good in
    let said = reshape_answers_so g.J.Naming.schema g.J.Naming.base keeper.kept.line keeper.kept.files c.args.token.now c.args.new (g.D.Disk.faults keeper.kept.disk) made.result made.new.self.kept.line made.new.self.kept.files made.new.token (g.D.Disk.faults made.new.self.kept.disk)
    of made.ensures.ends good in
    record { answers = said.0; shares = said.1 }
