use Rattle.std.proofs.Common.{List, length, map, subst, ap, ◌∙◌, arith}
use Rattle.std.specs.Borrow.{Bor}
use Rattle.std.proofs.lemmas.List.{length-map}
use Rattle.doc_types.specs.Snapshots.{all_living}
use Rattle.query_tree.specs.declared.key.Key.{Key}
use Rattle.prefix_terms.specs.Prefixes.{AreExpanded}
use Rattle.prefix_terms.proofs.expanding.list_all.Goals as goal

-- the keywords behind references
abbrev behind : List (Bor Key) → List Key
behind keys = map (λ (key : Bor Key). key.now) keys

pub list_keys-requires-clause-keys : goal.list_keys-requires-clause-keys
list_keys-requires-clause-keys g c =
    let size = length-map c.in_ok-keys.keys.items (λ (key : Bor Key). key.now) in
    let same = ap (λ (keys : List Key). length keys) c.in_ok-keys.ensures in
    let own = ap (λ (keys : List (Bor Key)). length keys) c.deref.ensures.value in
    omega (arith, size, same, own, c.requires.keys)

pub returns : goal.returns
returns g c =
    let its = c.in_ok-listed.ensures in
    (its.0, subst (λ (own : List Key). AreExpanded (all_living c.args.layers.now) own its.0) (ap behind c.deref.ensures.value ∙ c.in_ok-keys.ensures) its.1, its.2)
