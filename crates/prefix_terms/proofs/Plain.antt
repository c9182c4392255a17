-- A query without prefixes has no keyword that is one.
use Rattle.std.proofs.Common.{◌≡◌, ℕ, ◌+◌, ◌<◌, List, [], ◌∷◌, ◌++◌, false, Option, Some, None, length, map, refl, sym, subst, arith, All, length-append}
use Rattle.std.specs.List.{flat_map}
use Rattle.std.proofs.lemmas.List.{get_or-append-add, get_or_append_left}
use Rattle.std.proofs.lemmas.List.Elements.{All-append, All-cons, All-map, All-nil}
use Rattle.query_tree.specs.declared.key.Key.{Key}
use Rattle.query_tree.specs.declared.query.Item.{Item}
use Rattle.query_tree.specs.declared.query.Node.{Node}
use Rattle.query_tree.specs.declared.query.Query.{Query}
use Rattle.query_tree.specs.TreeKeys.{node_keys}
use Rattle.query_tree.proofs.NodeKeys.{keys_and, keys_before, keys_maybe, keys_near, keys_or, keys_paragraph, keys_quoted, keys_sentence, keys_span, keys_word}
use Rattle.prefix_terms.specs.Prefixes.{AreRewritten, IsChoice, IsQueryFor, IsRewritten, IsRootRewritten, Lists, asked, list_of, more_items, no_items, of_and, of_before, of_halves, of_maybe, of_near, of_one, of_or, of_paragraph, of_prefix, of_quoted, of_sentence, of_span, of_word, whole, with_word}

abbrev ArePlain : List Key → Type 0
ArePlain keys = All (λ key. key.prefix ≡ false) keys

all_left : (xs ys : List Key) → ArePlain (xs ++ ys) → ArePlain xs
all_left xs ys all k d low =
    let within : k < length (xs ++ ys) = let size = length-append xs ys in omega (arith, size, low) in
    subst (λ (key : Key). key.prefix ≡ false) (get_or_append_left xs ys d k low) (all k d within)

all_right : (xs ys : List Key) → ArePlain (xs ++ ys) → ArePlain ys
all_right xs ys all k d low =
    let within : length xs + k < length (xs ++ ys) = let size = length-append xs ys in omega (arith, size, low) in
    subst (λ (key : Key). key.prefix ≡ false) (get_or-append-add xs ys k d) (all (length xs + k) d within)

both : (xs ys : List Key) → ArePlain xs → ArePlain ys → ArePlain (xs ++ ys)
both xs ys one two = All-append (λ (key : Key). key.prefix ≡ false) xs ys one two

lone : (key : Key) → key.prefix ≡ false → ArePlain (key ∷ [])
lone key is = All-cons (λ (key : Key). key.prefix ≡ false) key [] is (All-nil (λ (key : Key). key.prefix ≡ false))

choice_plain : {keys : List Key} {node : Node} → IsChoice keys node → ArePlain keys → ArePlain (node_keys node)
choice_plain (of_one key) all = subst ArePlain (sym (keys_word key)) all
choice_plain (of_halves first second a b low high one two) all =
    subst ArePlain (sym (keys_or a b)) (both (node_keys a) (node_keys b) (choice_plain one (all_left first second all)) (choice_plain two (all_right first second all)))

words_plain : (key : Key) (words : List (List ℕ)) → ArePlain (map (with_word key) words)
words_plain key words = All-map (λ (key : Key). key.prefix ≡ false) (with_word key) words (λ k d low. refl)

mutual
  pub node_plain : (lists : Lists) {node made : Node} → IsRewritten lists node made → ArePlain (node_keys made)
  node_plain lists (of_word key is) = subst ArePlain (sym (keys_word key)) (lone key is)
  node_plain lists (of_prefix key choice is its) = choice_plain its (words_plain key (asked (list_of key.query lists)))
  node_plain lists (of_quoted keys how) = subst ArePlain (sym (keys_quoted (map whole keys) how)) (All-map (λ (key : Key). key.prefix ≡ false) whole keys (λ k d low. refl))
  node_plain lists (of_and items others are) = subst ArePlain (sym (keys_and others)) (items_plain lists are)
  node_plain lists (of_or a b c d one two) = subst ArePlain (sym (keys_or c d)) (both (node_keys c) (node_keys d) (node_plain lists one) (node_plain lists two))
  node_plain lists (of_maybe a b c d one two) = subst ArePlain (sym (keys_maybe c d)) (both (node_keys c) (node_keys d) (node_plain lists one) (node_plain lists two))
  node_plain lists (of_before a b c d one two) = subst ArePlain (sym (keys_before c d)) (both (node_keys c) (node_keys d) (node_plain lists one) (node_plain lists two))
  node_plain lists (of_near n a b c d one two) = subst ArePlain (sym (keys_near n c d)) (both (node_keys c) (node_keys d) (node_plain lists one) (node_plain lists two))
  node_plain lists (of_sentence a b c d one two) = subst ArePlain (sym (keys_sentence c d)) (both (node_keys c) (node_keys d) (node_plain lists one) (node_plain lists two))
  node_plain lists (of_paragraph a b c d one two) = subst ArePlain (sym (keys_paragraph c d)) (both (node_keys c) (node_keys d) (node_plain lists one) (node_plain lists two))
  node_plain lists (of_span zones a c one) = subst ArePlain (sym (keys_span zones c)) (node_plain lists one)

  items_plain : (lists : Lists) {items others : List Item} → AreRewritten lists items others → ArePlain (flat_map (λ (item : Item). node_keys item.node) others)
  items_plain lists no_items = All-nil (λ (key : Key). key.prefix ≡ false)
  items_plain lists (more_items item other items others same one rest) = both (node_keys other.node) (flat_map (λ (item : Item). node_keys item.node) others) (node_plain lists one) (items_plain lists rest)

-- the query that is asked
pub query_some : (lists : Lists) (query : Query) (root made : Node) → query.root ≡ Some root → IsRewritten lists root made → IsQueryFor query lists (record { root = Some made; keywords = query.keywords })
query_some lists query root made is one = record {
  root = subst (λ (own : Option Node). IsRootRewritten lists own (Some made)) (sym is) one;
  keywords = refl;
  plain = node_plain lists one;
}

pub query_none : (lists : Lists) (query : Query) → query.root ≡ None → IsQueryFor query lists (record { root = None; keywords = query.keywords })
query_none lists query is = record {
  root = subst (λ (own : Option Node). IsRootRewritten lists own None) (sym is) tt;
  keywords = refl;
  plain = All-nil (λ (key : Key). key.prefix ≡ false);
}
