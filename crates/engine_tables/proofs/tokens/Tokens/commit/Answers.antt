use Rattle.std.proofs.Common.{ℕ, Option, length, length-set, slice_set, ap, sym, subst, ◌∙◌}
use Rattle.std.specs.Option.{option_or}
use Rattle.commit_outcomes.specs.declared.strayed.Strayed.{Strayed}
use Rattle.snap_share.specs.Answers.{Answers}
use Rattle.engine_tables.specs.Tokens.{TokensValue}
use Rattle.engine_tables.proofs.Telling.{commits_so, fails_with, stays_own}
use Rattle.engine_tables.proofs.Using.{in_order_told, is_used, used_in_order, with_token}
use Rattle.engine_tables.proofs.tokens.Tokens.commit.Goals as goal

pub invariant_of-self : goal.invariant_of-self
invariant_of-self g c =
    let view : TokensValue = record { worker = c.self.inside.worker; list = c.self.inside.list.items; told = c.self.inside.told.items } in
    let says = subst (λ (i : ℕ). Answers (g.J.Naming.schema i) (g.J.Naming.base i) c.index_mut-token.result.now c.args.txn.now.ops c.commit-answer.result c.commit-answer.new.token) c.requires.at.1 c.commit-answer.ensures.answers in
    let own = stays_own (g.J.Naming.schema c.args.place) (g.J.Naming.base c.args.place) c.index_mut-token.result.now c.args.txn.now.ops c.commit-answer.new.token c.commit-answer.result says in
    let used = is_used view c.args.self.now c.self.inside.list.len c.args.place c.index_mut-token.result.now c.commit-answer.new.token c.self.view_is c.self.inside.list.ok.0 c.self.invariant c.requires.at.0 c.index_mut-token.ensures.value own.0 own.1 in
    used_in_order view c.args.self.now c.args.place c.index_mut-token.result.now c.commit-answer.new.token used

pub returns-in_err-outcome-clause-failed : goal.returns-in_err-outcome-clause-failed
returns-in_err-outcome-clause-failed g c =
    let view : TokensValue = record { worker = c.self.inside.worker; list = c.self.inside.list.items; told = c.self.inside.told.items } in
    let says = subst (λ (i : ℕ). Answers (g.J.Naming.schema i) (g.J.Naming.base i) c.index_mut-token.result.now c.args.txn.now.ops c.commit-answer.result c.commit-answer.new.token) c.requires.at.1 c.commit-answer.ensures.answers in
    let own = stays_own (g.J.Naming.schema c.args.place) (g.J.Naming.base c.args.place) c.index_mut-token.result.now c.args.txn.now.ops c.commit-answer.new.token c.commit-answer.result says in
    let used = is_used view c.args.self.now c.self.inside.list.len c.args.place c.index_mut-token.result.now c.commit-answer.new.token c.self.view_is c.self.inside.list.ok.0 c.self.invariant c.requires.at.0 c.index_mut-token.ensures.value own.0 own.1 in
    fails_with g.J.Naming.schema g.J.Naming.base view c.args.self.now c.args.place c.index_mut-token.result.now c.commit-answer.new.token c.args.txn.now.ops c.commit-answer.result used says c.commit-answer.ensures.shares c.from_residual.result c.in_err-outcome.field-0.0 (sym c.outcome_of.ensures ∙ c.in_err-outcome.was)

pub invariant_of-self-2 : goal.invariant_of-self-2
invariant_of-self-2 g c =
    let view : TokensValue = record { worker = c.self.inside.worker; list = c.self.inside.list.items; told = c.self.inside.told.items } in
    let says = subst (λ (i : ℕ). Answers (g.J.Naming.schema i) (g.J.Naming.base i) c.index_mut-token.result.now c.args.txn.now.ops c.commit-answer.result c.commit-answer.new.token) c.requires.at.1 c.commit-answer.ensures.answers in
    let own = stays_own (g.J.Naming.schema c.args.place) (g.J.Naming.base c.args.place) c.index_mut-token.result.now c.args.txn.now.ops c.commit-answer.new.token c.commit-answer.result says in
    let used = is_used view c.args.self.now c.self.inside.list.len c.args.place c.index_mut-token.result.now c.commit-answer.new.token c.self.view_is c.self.inside.list.ok.0 c.self.invariant c.requires.at.0 c.index_mut-token.ensures.value own.0 own.1 in
    in_order_told (with_token view c.args.place c.commit-answer.new.token) c.keep_first.new.told.items (used_in_order view c.args.self.now c.args.place c.index_mut-token.result.now c.commit-answer.new.token used)
    (ap length c.keep_first.ensures.2 ∙ length-set c.self.inside.told.items c.args.place (option_or c.keep_first.ensures.0 c.numbers_of.result))

pub returns-clause-commits : goal.returns-clause-commits
returns-clause-commits g c =
    let view : TokensValue = record { worker = c.self.inside.worker; list = c.self.inside.list.items; told = c.self.inside.told.items } in
    let says = subst (λ (i : ℕ). Answers (g.J.Naming.schema i) (g.J.Naming.base i) c.index_mut-token.result.now c.args.txn.now.ops c.commit-answer.result c.commit-answer.new.token) c.requires.at.1 c.commit-answer.ensures.answers in
    let own = stays_own (g.J.Naming.schema c.args.place) (g.J.Naming.base c.args.place) c.index_mut-token.result.now c.args.txn.now.ops c.commit-answer.new.token c.commit-answer.result says in
    let used = is_used view c.args.self.now c.self.inside.list.len c.args.place c.index_mut-token.result.now c.commit-answer.new.token c.self.view_is c.self.inside.list.ok.0 c.self.invariant c.requires.at.0 c.index_mut-token.ensures.value own.0 own.1 in
    commits_so g.J.Naming.schema g.J.Naming.base view c.args.self.now c.args.place c.index_mut-token.result.now c.commit-answer.new.token c.args.txn.now.ops c.commit-answer.result used says c.commit-answer.ensures.shares c.in_ok-outcome.outcome (sym c.outcome_of.ensures ∙ c.in_ok-outcome.was) c.len-seen.ensures.good
    c.keep_first.ensures.0 c.keep_first.ensures.1 c.keep_first.new.told.items
    (c.keep_first.ensures.2 ∙ ap (λ (numbers : Option Strayed). slice_set c.self.inside.told.items c.args.place (option_or c.keep_first.ensures.0 numbers)) c.numbers_of.ensures)
