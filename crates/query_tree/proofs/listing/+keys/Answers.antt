use Rattle.std.proofs.Common.{◌≡◌, List, ◌++◌, map, OnOk, sym, ap, ◌∙◌, subst}
use Rattle.std.specs.Borrow.{Bor}
use Rattle.std.specs.List.{flat_map}
use Rattle.std.proofs.lemmas.List.{append_assoc, map_push}
use Rattle.query_tree.specs.declared.key.Key.{Key}
use Rattle.query_tree.specs.declared.query.Item.{Item}
use Rattle.query_tree.specs.declared.query.Node.{Node}
use Rattle.query_tree.specs.TreeKeys.{node_keys}
use Rattle.query_tree.proofs.NodeKeys.{keys_word, keys_quoted, keys_and, keys_span}
use Rattle.query_tree.proofs.JoinedKeys.{keys_joint}
use Rattle.query_tree.proofs.listing.+keys.Goals as goal

-- the keywords behind references
abbrev behind : List (Bor Key) → List Key
behind keys = map (λ (key : Bor Key). key.now) keys

pub put_keys-returns-in_ok-push-in-Word : goal.put_keys-returns-in_ok-push-in-Word
put_keys-returns-in_ok-push-in-Word t c =
    ap behind c.in_ok-push-in-Word.ensures.items
    ∙ map_push (λ (key : Bor Key). key.now) c.args.keys.now.items _
    ∙ ap (λ (keys : List Key). behind c.args.keys.now.items ++ keys) (sym (ap node_keys c.in-Word.is ∙ keys_word _))

pub put_keys-returns-in-Quoted : goal.put_keys-returns-in-Quoted
put_keys-returns-in-Quoted t c =
    subst (λ (keys : List Key). OnOk c.put_listed.result (behind c.put_listed.new.keys.items ≡ behind c.args.keys.now.items ++ keys)) (c.as_slice.ensures ∙ sym (ap node_keys c.in-Quoted.is ∙ keys_quoted _ _)) c.put_listed.ensures

pub put_keys-returns-in-And : goal.put_keys-returns-in-And
put_keys-returns-in-And t c =
    subst (λ (keys : List Key). OnOk c.put_items.result (behind c.put_items.new.keys.items ≡ behind c.args.keys.now.items ++ keys))
    (ap (flat_map (λ (item : Item). node_keys item.node)) c.as_slice-in-And.ensures ∙ sym (ap node_keys c.in-And.is ∙ keys_and _)) c.put_items.ensures

pub put_keys-returns-in-ZoneSpan : goal.put_keys-returns-in-ZoneSpan
put_keys-returns-in-ZoneSpan t c =
    subst (λ (keys : List Key). OnOk c.put_keys.result (behind c.put_keys.new.keys.items ≡ behind c.args.keys.now.items ++ keys))
    (ap node_keys c.get.ensures ∙ sym (ap node_keys c.in-ZoneSpan.is ∙ keys_span _ _)) c.put_keys.ensures

pub put_keys-returns-in_ok-put_keys-in-Or : goal.put_keys-returns-in_ok-put_keys-in-Or
put_keys-returns-in_ok-put_keys-in-Or t c =
    let first = c.get-in-Or.result.now in
    let second = c.get-in-Or-2.result.now in
    let old = behind c.args.keys.now.items in
    subst (λ (keys : List Key). OnOk c.put_keys-in-Or-2.result (behind c.put_keys-in-Or-2.new.keys.items ≡ keys))
    (ap (λ (keys : List Key). keys ++ node_keys second) c.in_ok-put_keys-in-Or.ensures
    ∙ append_assoc old (node_keys first) (node_keys second)
    ∙ ap (λ (keys : List Key). old ++ keys) (ap (λ (n : Node). node_keys n ++ node_keys second) c.get-in-Or.ensures ∙ ap (λ (n : Node). node_keys c.in-Or.a ++ node_keys n) c.get-in-Or-2.ensures ∙ sym (keys_joint c.args.node.now _ _ c.in-Or.is)))
    c.put_keys-in-Or-2.ensures
