use Rattle.std.proofs.Common.{◌≡◌, ap, ◌∙◌, take, arith}
use Rattle.std.specs.List.{list_any}
use Rattle.std.proofs.lemmas.List.{take_all}
use Rattle.occ_lists.specs.Places.{holds}
use Rattle.word_rows.specs.steps.Loading.{listed_in}
use Rattle.word_rows.proofs.Allowed.{listed_cover}
use Rattle.word_rows.proofs.loading.cover_of.Goals as goal

pub returns : goal.returns
returns c = record {
  holds = λ place.
      let all : take c.loop-span.span-index c.args.spans.now ≡ c.args.spans.now = take_all c.loop-span.span-index c.args.spans.now (omega arith) in
      c.over.ensures place
      ∙ ap (list_any (λ o. holds o place)) (c.loop-span.invariant ∙ ap (listed_in c.args.zones.now) all)
      ∙ listed_cover c.args.zones.now c.args.spans.now place;
}
