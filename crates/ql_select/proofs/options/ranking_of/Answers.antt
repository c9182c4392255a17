use Rattle.std.proofs.Common.{◌≡◌, ◌∙◌, ℕ, List, Option, Some, ap, subst, sym}
use Rattle.ql_tree.specs.declared.select.OptionValue.{OptionValue}
use Rattle.ql_tree.specs.declared.select.OptionValue.TheVariants as values
use Rattle.ql_select.specs.Options.{last_value, ranker_option}
use Rattle.ql_select.specs.steps.Rankings.{RankingOr}
use Rattle.ql_select.proofs.options.ranking_of.Goals as goal

pub returns-in-Some-Call : goal.returns-in-Some-Call
returns-in-Some-Call c =
    let at = c.in-Some-Call in
    let is : Some at.field-0.now ≡ last_value c.args.options.now ranker_option = at.ensures in
    let one : at.field-0.now ≡ values.Call at.field-0-0 at.text = at.field-0-is in
    let two : c.as_bytes.result.now ≡ at.text = c.as_bytes.ensures in
    let same : Some (values.Call at.field-0-0 c.as_bytes.result.now) ≡ last_value c.args.options.now ranker_option =
    ap (λ (text : List ℕ). Some (values.Call at.field-0-0 text)) two ∙ ap Some (sym one) ∙ is in
    subst (λ (value : Option OptionValue). RankingOr c.args.schema.now value c.ranking_by.result) same (c.ranking_by.ensures at.field-0-0)
