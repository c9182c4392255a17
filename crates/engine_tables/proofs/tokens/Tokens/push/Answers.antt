use Rattle.std.proofs.Common.{◌++◌, ◌∷◌, [], Option, None, List, length, ap, sym, ◌∙◌}
use Rattle.commit_outcomes.specs.declared.strayed.Strayed.{Strayed}
use Rattle.step_tokens.specs.Tokens.{TokenValue}
use Rattle.engine_tables.specs.Tokens.{TokensValue}
use Rattle.engine_tables.proofs.Looking.{in_order_more}
use Rattle.engine_tables.proofs.tokens.Tokens.push.Goals as goal

pub invariant_of-self-2 : goal.invariant_of-self-2
invariant_of-self-2 g c =
    in_order_more c.self.inside.worker c.self.inside.list.items c.push_reserved.new.self.items c.self.inside.told.items c.push_reserved-2.new.self.items c.args.token None c.self.invariant
    (c.requires.next ∙ ap (λ (t : TokensValue). length t.list) (sym c.self.view_is))
    (c.requires.own ∙ ap (λ (t : TokensValue). t.worker) (sym c.self.view_is))
    (c.push_reserved.ensures.items ∙ ap (λ (l : List TokenValue). l ++ c.args.token ∷ []) c.reserve.ensures.items)
    (c.push_reserved-2.ensures.items ∙ ap (λ (l : List (Option Strayed)). l ++ None ∷ []) c.reserve-2.ensures.items)
