use Rattle.std.proofs.Common.{ℕ, Option, length, length-set, slice_set, ap, sym, subst, ◌∙◌}
use Rattle.std.specs.Option.{option_or}
use Rattle.commit_outcomes.specs.declared.strayed.Strayed.{Strayed}
use Rattle.job_chunks.specs.Chunks.{IsNewChunk}
use Rattle.snap_share.specs.Answers.{seen_by}
use Rattle.engine_tables.specs.Tokens.{TokensValue}
use Rattle.engine_tables.proofs.Jobs.{ends_by, had_seen, job_fails, reshapes_so}
use Rattle.engine_tables.proofs.Using.{in_order_told, used_in_order, with_token}
use Rattle.engine_tables.proofs.tokens.Tokens.end_job.Goals as goal

pub reshape-answer-requires-clause-seen : goal.reshape-answer-requires-clause-seen
reshape-answer-requires-clause-seen g c =
    let view : TokensValue = record { worker = c.self.inside.worker; list = c.self.inside.list.items; told = c.self.inside.told.items } in
    had_seen g.J.Naming.schema g.J.Naming.base view c.args.self.now c.self.inside.list.len c.args.place c.args.engine.now.index c.index_mut-token.result.now c.args.new
    c.self.view_is c.self.inside.list.ok.0 c.self.invariant c.requires.at.0 c.index_mut-token.ensures.value c.requires.at.1 c.requires.seen

pub reshape-answer-requires-clause-chunk : goal.reshape-answer-requires-clause-chunk
reshape-answer-requires-clause-chunk g c = subst (λ (i : ℕ). IsNewChunk (g.J.Naming.schema i) c.args.new) (sym c.requires.at.1) c.requires.chunk

pub invariant_of-self : goal.invariant_of-self
invariant_of-self g c =
    let view : TokensValue = record { worker = c.self.inside.worker; list = c.self.inside.list.items; told = c.self.inside.told.items } in
    let by = ends_by g.J.Naming.schema g.J.Naming.base view c.args.self.now c.self.inside.list.len c.args.place c.args.engine.now.index c.index_mut-token.result.now c.reshape-answer.new.token c.args.new c.reshape-answer.result
    c.self.view_is c.self.inside.list.ok.0 c.self.invariant c.requires.at.0 c.index_mut-token.ensures.value c.requires.at.1 c.reshape-answer.ensures.answers c.reshape-answer.ensures.shares c.requires.seen in
    used_in_order view c.args.self.now c.args.place c.index_mut-token.result.now c.reshape-answer.new.token by.used

pub returns-in_err-outcome-clause-failed : goal.returns-in_err-outcome-clause-failed
returns-in_err-outcome-clause-failed g c =
    let view : TokensValue = record { worker = c.self.inside.worker; list = c.self.inside.list.items; told = c.self.inside.told.items } in
    let by = ends_by g.J.Naming.schema g.J.Naming.base view c.args.self.now c.self.inside.list.len c.args.place c.args.engine.now.index c.index_mut-token.result.now c.reshape-answer.new.token c.args.new c.reshape-answer.result
    c.self.view_is c.self.inside.list.ok.0 c.self.invariant c.requires.at.0 c.index_mut-token.ensures.value c.requires.at.1 c.reshape-answer.ensures.answers c.reshape-answer.ensures.shares c.requires.seen in
    job_fails g.J.Naming.schema g.J.Naming.base view c.args.self.now c.args.place c.index_mut-token.result.now c.reshape-answer.new.token c.args.new c.reshape-answer.result c.requires.seen.0 by c.requires.room
    c.from_residual.result c.in_err-outcome.field-0.0 (sym c.job_outcome_of.ensures ∙ c.in_err-outcome.was)

pub invariant_of-self-2 : goal.invariant_of-self-2
invariant_of-self-2 g c =
    let view : TokensValue = record { worker = c.self.inside.worker; list = c.self.inside.list.items; told = c.self.inside.told.items } in
    let by = ends_by g.J.Naming.schema g.J.Naming.base view c.args.self.now c.self.inside.list.len c.args.place c.args.engine.now.index c.index_mut-token.result.now c.reshape-answer.new.token c.args.new c.reshape-answer.result
    c.self.view_is c.self.inside.list.ok.0 c.self.invariant c.requires.at.0 c.index_mut-token.ensures.value c.requires.at.1 c.reshape-answer.ensures.answers c.reshape-answer.ensures.shares c.requires.seen in
    in_order_told (with_token view c.args.place c.reshape-answer.new.token) c.keep_first.new.told.items (used_in_order view c.args.self.now c.args.place c.index_mut-token.result.now c.reshape-answer.new.token by.used)
    (ap length c.keep_first.ensures.2 ∙ length-set c.self.inside.told.items c.args.place (option_or c.keep_first.ensures.0 c.numbers_of_job.result))

pub returns-clause-ends : goal.returns-clause-ends
returns-clause-ends g c =
    let view : TokensValue = record { worker = c.self.inside.worker; list = c.self.inside.list.items; told = c.self.inside.told.items } in
    let by = ends_by g.J.Naming.schema g.J.Naming.base view c.args.self.now c.self.inside.list.len c.args.place c.args.engine.now.index c.index_mut-token.result.now c.reshape-answer.new.token c.args.new c.reshape-answer.result
    c.self.view_is c.self.inside.list.ok.0 c.self.invariant c.requires.at.0 c.index_mut-token.ensures.value c.requires.at.1 c.reshape-answer.ensures.answers c.reshape-answer.ensures.shares c.requires.seen in (
      c.requires.seen.0,
      seen_by c.reshape-answer.new.token,
      c.requires.seen.1,
      reshapes_so g.J.Naming.schema g.J.Naming.base view c.args.self.now c.args.place c.index_mut-token.result.now c.reshape-answer.new.token c.args.new c.reshape-answer.result c.requires.seen.0 by c.requires.room
          c.in_ok-outcome.outcome (sym c.job_outcome_of.ensures ∙ c.in_ok-outcome.was) c.len-seen.ensures.good
          c.keep_first.ensures.0 c.keep_first.ensures.1 c.keep_first.new.told.items
          (c.keep_first.ensures.2 ∙ ap (λ (numbers : Option Strayed). slice_set c.self.inside.told.items c.args.place (option_or c.keep_first.ensures.0 numbers)) c.numbers_of_job.ensures),
    )
