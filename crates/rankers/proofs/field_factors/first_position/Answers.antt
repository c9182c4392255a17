use Rattle.std.proofs.Common.{◌≤◌, arith, ap, ◌∙◌, None, length}
use Rattle.std.specs.Prelude.{fold}
use Rattle.std.proofs.lemmas.List.{take_all}
use Rattle.rankers.specs.steps.FieldValue.{with_hit}
use Rattle.rankers.proofs.FirstHits.{first_is}
use Rattle.rankers.proofs.field_factors.first_position.Goals as goal

pub returns : goal.returns
returns c =
    let all : length c.args.hits.now ≤ c.loop-hit.hit-index = omega arith in
    c.unwrap_or.ensures ∙ first_is c.args.field c.loop-hit.least c.args.hits.now (c.loop-hit.invariant ∙ ap (λ u. fold (with_hit c.args.field) None u) (take_all c.loop-hit.hit-index c.args.hits.now all))
