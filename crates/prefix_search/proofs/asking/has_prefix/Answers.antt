use Rattle.std.proofs.Common.{◌∙◌, List, ap, sym}
use Rattle.std.specs.Borrow.{Bor}
use Rattle.std.specs.List.{list_any}
use Rattle.occ_lists.proofs.Members.{any_map}
use Rattle.query_tree.specs.declared.key.Key.{Key}
use Rattle.prefix_search.proofs.asking.has_prefix.Goals as goal

pub returns : goal.returns
returns c =
    c.any_prefix.ensures ∙ ap (list_any (λ (key : Bor Key). key.now.prefix)) c.deref.ensures.value
    ∙ sym (any_map (λ (key : Key). key.prefix) (λ (key : Bor Key). key.now) c.in_ok-keys.keys.items) ∙ ap (list_any (λ (key : Key). key.prefix)) c.in_ok-keys.ensures
