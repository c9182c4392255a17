use Rattle.std.proofs.Common.{◌≡◌, ℕ, ◌∙◌, sym, subst}
use Rattle.step_history.specs.History.{IsGood}
use Rattle.snap_share.proofs.Sharing.{answers_so}
use Rattle.snap_share.proofs.held.Held.commit.Goals as goal

pub returns : goal.returns
returns g c =
    let keeper = c.self.inside.keeper in
    let made = c.commit-result in
    let of : c.args.token.now.index ≡ keeper.kept.line.index = sym c.index.ensures ∙ c.if-index-self.false ∙ c.self.invariant.0 in
    let good = subst (λ (i : ℕ). IsGood (g.J.Naming.schema i) (g.J.Naming.base i) made.new.token.seen) (made.ensures.token.index ∙ of) c.len-after.ensures.good in
    let said = answers_so g.J.Naming.schema g.J.Naming.base keeper.kept.line c.args.token.now c.args.worker c.args.txn.now.ops (g.D.Disk.faults keeper.kept.disk) made.result made.new.self.kept.line made.new.self.kept.files.log made.new.token (g.D.Disk.faults made.new.self.kept.disk)
    of c.requires.own.0 made.ensures.ends good in
    record { answers = said.0; shares = said.1 }
