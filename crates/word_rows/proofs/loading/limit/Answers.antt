use Rattle.std.proofs.Common.{◌++◌, subst, sym, ap, ◌∙◌}
use Rattle.std.specs.List.{filter}
use Rattle.word_rows.specs.steps.Loading.{Covers, is_allowed}
use Rattle.word_rows.proofs.Allowed.{limited}
use Rattle.word_rows.proofs.loading.limit.Goals as goal

pub returns-clause-limited : goal.returns-clause-limited
returns-clause-limited c = λ found placed told ends free all.
    let lasts = c.args.lasts.now in
    let covers : Covers c.args.key.now.limit.zones c.args.spans.now c.in_ok-cover.cover = subst (λ zones. Covers zones c.args.spans.now c.in_ok-cover.cover) c.as_slice.ensures c.in_ok-cover.ensures in
    ap (λ kept. kept.items) c.replace.ensures.after ∙ c.in_ok-put_allowed.ensures
    ∙ ap (λ places. places ++ filter (is_allowed lasts c.args.key.now c.in_ok-cover.cover) c.deref.result.now) c.take_places-kept.ensures
    ∙ ap (filter (is_allowed lasts c.args.key.now c.in_ok-cover.cover)) (c.deref.ensures.value ∙ all)
    ∙ limited found c.args.key.now c.args.spans.now lasts c.in_ok-cover.cover covers told ends placed

pub returns-then-term-clause-limited : goal.returns-then-term-clause-limited
returns-then-term-clause-limited c = λ found placed told ends free all. all ∙ sym (free c.if-term.true)
