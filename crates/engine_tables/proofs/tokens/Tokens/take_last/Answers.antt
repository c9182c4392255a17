use Rattle.std.proofs.Common.{◌≡◌, ◌-◌, List, Option, Some, length, slice_get, take, ap, sym, ◌∙◌}
use Rattle.std.specs.Option.{option_to_list}
use Rattle.commit_outcomes.specs.declared.strayed.Strayed.{Strayed}
use Rattle.step_tokens.specs.Tokens.{TokenValue}
use Rattle.engine_tables.specs.Tokens.{TokensValue, told_of}
use Rattle.engine_tables.specs.steps.Lasts.{last_told, last_token, shortened}
use Rattle.engine_tables.proofs.Looking.{front_is, in_order_front, last_is, last_own, told_is}
use Rattle.engine_tables.proofs.tokens.Tokens.take_last.Goals as goal

pub invariant_of-self : goal.invariant_of-self
invariant_of-self g c =
    in_order_front c.self.inside.worker c.self.inside.list.items c.take_last.new.self.items c.take_last.result c.self.inside.told.items c.take_last-told.new.self.items c.take_last-told.result c.take_last.ensures.items c.take_last-told.ensures.items c.self.invariant

pub returns-clause-last : goal.returns-clause-last
returns-clause-last g c = ap last_token (sym c.self.view_is) ∙ ap option_to_list (last_is c.self.inside.list.items c.take_last.new.self.items c.take_last.result c.take_last.ensures.items)

pub returns-clause-told : goal.returns-clause-told
returns-clause-told g c =
    let last : slice_get c.self.inside.told.items (length c.self.inside.told.items - 1) ≡ Some c.take_last-told.result = last_is c.self.inside.told.items c.take_last-told.new.self.items c.take_last-told.result c.take_last-told.ensures.items in
    ap last_told (sym c.self.view_is)
    ∙ ap (λ n. told_of (slice_get c.self.inside.told.items (n - 1))) (sym c.self.invariant.alike)
    ∙ ap told_of last
    ∙ told_is c.take_last-told.result

pub returns-clause-index : goal.returns-clause-index
returns-clause-index g c =
    let view : TokensValue = record { worker = c.self.inside.worker; list = c.self.inside.list.items; told = c.self.inside.told.items } in
    let own = last_own view c.take_last.new.self.items c.take_last.result c.self.invariant c.take_last.ensures.items in
    own.0 ∙ ap (λ (t : TokensValue). length t.list) c.self.view_is

pub returns-clause-worker : goal.returns-clause-worker
returns-clause-worker g c =
    let view : TokensValue = record { worker = c.self.inside.worker; list = c.self.inside.list.items; told = c.self.inside.told.items } in
    let own = last_own view c.take_last.new.self.items c.take_last.result c.self.invariant c.take_last.ensures.items in
    own.1 ∙ ap (λ (t : TokensValue). t.worker) c.self.view_is

pub returns-clause-left : goal.returns-clause-left
returns-clause-left g c =
    ap (λ (l : List TokenValue). record { worker = c.self.inside.worker; list = l; told = c.take_last-told.new.self.items }) (front_is c.self.inside.list.items c.take_last.new.self.items c.take_last.result c.take_last.ensures.items)
    ∙ ap (λ (l : List (Option Strayed)). record { worker = c.self.inside.worker; list = take (length c.self.inside.list.items - 1) c.self.inside.list.items; told = l })
    (front_is c.self.inside.told.items c.take_last-told.new.self.items c.take_last-told.result c.take_last-told.ensures.items)
    ∙ ap (λ n. record { worker = c.self.inside.worker; list = take (length c.self.inside.list.items - 1) c.self.inside.list.items; told = take (n - 1) c.self.inside.told.items }) c.self.invariant.alike
    ∙ ap shortened c.self.view_is
