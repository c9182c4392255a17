use Rattle.std.proofs.Common.{◌≡◌, ap, sym, ◌∙◌, arith, true}
use Rattle.std.specs.List.{list_all}
use Rattle.std.proofs.lemmas.Bool.{true≢false}
use Rattle.query_tree.specs.TreeKeys.{node_keys}
use Rattle.row_plans.specs.Plans.{holds}
use Rattle.row_plans.proofs.HowFar.{holds_all}
use Rattle.op_eval.specs.steps.Planned.{has_key}
use Rattle.op_eval.proofs.Serving.{serves_root}
use Rattle.op_eval.proofs.planning.plan_of.Goals as goal

pub returns-then-counts-gt-MOST_KEYWORDS : goal.returns-then-counts-gt-MOST_KEYWORDS
returns-then-counts-gt-MOST_KEYWORDS c = λ row number apart e spans.
    let has = has_key row (node_keys c.args.root.now) in
    let each : holds has _ ≡ true = holds_all has c.from_vec.result ∙ ap (list_all (holds has)) (c.from_vec.ensures ∙ c.new.ensures.items) in
    absurd (true≢false (sym each ∙ e))

pub returns : goal.returns
returns c = serves_root c.in_ok-rated.rated.plan c.args.root.now (c.in_ok-rated.ensures.plan (omega (arith, c.requires)))
