-- The hits that a node finds are of its keywords, and stand at their places.
use Rattle.std.proofs.Common.{◌≡◌, refl, sym, subst, ◌∙◌, ℕ, zero, Bool, true, false, cond, List, [], ◌∷◌, ◌++◌, map, get_or, Some, None, Option, arith}
use Rattle.std.specs.Prelude.{All, Any, Contains, not}
use Rattle.std.specs.List.{filter, flat_map, list_all}
use Rattle.std.proofs.lemmas.List.Elements.{All-nil, All-cons, All-append, All-map, All-filter, All-weaker, All-contains, All-contains_itself, Contains-append_left, Contains-append_right}
use Rattle.std.proofs.lemmas.Map.Views.{list_any-from_Contains, Contains-from_any}
use Rattle.doc_types.specs.declared.documents.DocRow.{DocRow}
use Rattle.doc_types.specs.declared.hits.Hit.{Hit}
use Rattle.query_tree.specs.declared.key.Key.{Key}
use Rattle.query_tree.specs.declared.key.How.{How}
use Rattle.query_tree.specs.declared.key.How.TheVariants as hows
use Rattle.query_tree.specs.declared.query.Item.{Item}
use Rattle.query_tree.specs.declared.query.Node.{Node}
use Rattle.query_tree.specs.declared.query.Node.TheVariants as nodes
use Rattle.query_tree.specs.declared.query.Node.TheOpen.{Node-F}
use Rattle.query_tree.specs.declared.query.Node.TheVariants.{rolls-Word, rolls-Quoted, rolls-And, rolls-Or, rolls-Maybe, rolls-Before, rolls-Near, rolls-Sentence, rolls-Paragraph, rolls-ZoneSpan}
use Rattle.query_tree.specs.declared.query.Node.TheViews.{roll-Node}
use Rattle.query_tree.specs.declared.query.Node.TheFolds.{map-Node, ind-Node}
use Rattle.query_tree.specs.declared.query.Query.{Query}
use Rattle.query_tree.specs.TreeKeys.{node_keys, query_keys}
use Rattle.query_tree.proofs.NodeKeys.{keys_word, keys_quoted, keys_and, keys_or, keys_maybe, keys_before, keys_near, keys_sentence, keys_paragraph, keys_span}
use Rattle.occ_lists.specs.declared.occ.Occ.{Occ}
use Rattle.occ_lists.specs.OccLists.{SameMembers}
use Rattle.occ_lists.specs.Joined.{before, near, together}
use Rattle.occ_lists.specs.Places.{within_all}
use Rattle.word_rows.specs.Keywords.{key_places, places_within, sentence_ends, paragraph_ends, Spans}
use Rattle.op_eval.specs.Finding.{Found, Part, hits_at, made, quoted, all_of, either, perhaps, joined, any_of, nothing, is_inside, passes, spans_in, node_finds}
use Rattle.op_eval.specs.Matching.{number_in, query_finds}
use Rattle.op_eval.specs.Hits.{AreHits}
use Rattle.op_eval.specs.Numbered.{IsHitOf}
use Rattle.op_eval.proofs.HitOrder.{is_same, is_same_equal, is_same_equiv}
use Rattle.word_rows.proofs.Lists.{all_flat_map}
use Rattle.op_eval.proofs.Nodes.{part_within, finds_word, finds_quoted, finds_and, finds_or, finds_maybe, finds_before, finds_near, finds_sentence, finds_paragraph, finds_span}

-- ---- what holds of each hit of what is joined
module _ (P : Hit → Type 0) where
  made_hits : (occs : List Occ) (hits : List Hit) → All P hits → All P (made occs hits).hits
  made_hits occs hits all = All-filter (is_inside occs) P hits all

  guard_hits : (t : Bool) (found : Found) → All P found.hits → All P (cond t found nothing).hits
  guard_hits true found all = all
  guard_hits false found all = All-nil P

  quoted_hits : (number : List ℕ → ℕ) (places : Key → List (ℕ × ℕ)) (keys : List Key) (how : How) (hits : List Hit) → All P hits → All P (quoted number places keys how hits).hits
  quoted_hits number places keys hows.Phrase hits all = made_hits _ hits all
  quoted_hits number places keys (hows.Within n) hits all = made_hits _ hits all
  quoted_hits number places keys (hows.AtLeast k) hits all = guard_hits _ _ all
  quoted_hits number places keys (hows.Share digits decimals) hits all = guard_hits _ _ all

  either_hits : (a b : Found) → All P a.hits → All P b.hits → All P (either a b).hits
  either_hits a b first second = All-append P a.hits b.hits first second

  perhaps_hits : (a b : Found) → All P a.hits → All P b.hits → All P (perhaps a b).hits
  perhaps_hits a b first second = guard_hits a.matches (either a b) (either_hits a b first second)

  joined_hits : (join : List Occ → List Occ → List Occ) (a b : Found) → All P a.hits → All P b.hits → All P (joined join a b).hits
  joined_hits join a b first second = made_hits (join a.occurrences b.occurrences) (a.hits ++ b.hits) (All-append P a.hits b.hits first second)

  all_of_hits : (parts : List Part) → All (λ part. All P part.found.hits) parts → All P (all_of parts).hits
  all_of_hits parts each =
      guard_hits (list_all passes parts) _
      (all_flat_map P (λ (part : Part). part.found.hits) (filter (λ (part : Part). not part.negated) parts) (All-filter (λ (part : Part). not part.negated) (λ (part : Part). All P part.found.hits) parts each))

  any_of_hits : (founds : List Found) → All (λ found. All P found.hits) founds → All P (any_of founds).hits
  any_of_hits founds each = all_flat_map P (λ (found : Found). found.hits) founds each

-- ---- the tree
module _ (row : DocRow) (number : List ℕ → ℕ) where
  -- the hit is of one of these keywords
  abbrev pub IsOf : List Key → Hit → Type 0
  IsOf keys hit = (key : Key) × Contains keys key × (hit.query ≡ key.query) × (hit.word ≡ number key.word) × Contains (key_places row key) (hit.field, hit.position)

  abbrev AreOf : List Key → List Hit → Type 0
  AreOf keys hits = All (IsOf keys) hits

  -- all of these keywords are among those
  abbrev AreAmong : List Key → List Key → Type 0
  AreAmong keys more = (key : Key) → Contains keys key → Contains more key

  -- what a node finds is of its keywords
  abbrev pub IsKeyed : Node → Type 0
  IsKeyed node = (spans : Spans) → AreOf (node_keys node) (node_finds row number node spans).hits

  of_more : (keys more : List Key) (hits : List Hit) → AreAmong keys more → AreOf keys hits → AreOf more hits
  of_more keys more hits among all =
      All-weaker (IsOf keys) (IsOf more) (λ hit of. (of.0, among of.0 of.1, of.2, of.3, of.4)) hits all

  of_key : (keys : List Key) (key : Key) (spans : Spans) → Contains keys key → AreOf keys (hits_at number key (places_within row spans key))
  of_key keys key spans member =
      All-map (IsOf keys) (λ (p : ℕ × ℕ). record { query = key.query; word = number key.word; field = p.0; position = p.1 }) (places_within row spans key)
      (All-weaker (Contains (key_places row key)) (λ (p : ℕ × ℕ). IsOf keys (record { query = key.query; word = number key.word; field = p.0; position = p.1 }))
      (λ p has. (key, member, refl, refl, has)) (places_within row spans key)
      (All-filter (within_all spans) (Contains (key_places row key)) (key_places row key) (All-contains_itself (key_places row key))))

  of_keys : (keys : List Key) (spans : Spans) → AreOf keys (flat_map (λ (key : Key). hits_at number key (places_within row spans key)) keys)
  of_keys keys spans =
      all_flat_map (IsOf keys) (λ (key : Key). hits_at number key (places_within row spans key)) keys
      (All-weaker (Contains keys) (λ key. AreOf keys (hits_at number key (places_within row spans key))) (λ key member. of_key keys key spans member) keys (All-contains_itself keys))

  keyed_word : (key : Key) → IsKeyed (nodes.Word key)
  keyed_word key spans =
      subst (λ found. AreOf (node_keys (nodes.Word key)) found.hits) (sym (finds_word row number key spans))
      (subst (λ keys. AreOf keys (hits_at number key (places_within row spans key))) (sym (keys_word key)) (of_key (key ∷ []) key spans (zero, omega arith, refl)))

  keyed_quoted : (keys : List Key) (how : How) → IsKeyed (nodes.Quoted keys how)
  keyed_quoted keys how spans =
      subst (λ found. AreOf (node_keys (nodes.Quoted keys how)) found.hits) (sym (finds_quoted row number keys how spans))
      (quoted_hits (IsOf (node_keys (nodes.Quoted keys how))) number (places_within row spans) keys how _
      (subst (λ ks. AreOf ks (flat_map (λ (key : Key). hits_at number key (places_within row spans key)) keys)) (sym (keys_quoted keys how)) (of_keys keys spans)))

  parts_keyed : (spans : Spans) (keys : List Key) (items : List ((i : Item) × IsKeyed i.node)) → AreAmong (flat_map (λ (i : Item). node_keys i.node) (map (λ e. e.0) items)) keys
      → All (λ (part : Part). AreOf keys part.found.hits) (map (part_within row number spans) (map (λ e. e.0) items))
  parts_keyed spans keys [] among = All-nil (λ (part : Part). AreOf keys part.found.hits)
  parts_keyed spans keys (item ∷ items) among =
      let later = flat_map (λ (i : Item). node_keys i.node) (map (λ (e : (i : Item) × IsKeyed i.node). e.0) items) in
      All-cons (λ (part : Part). AreOf keys part.found.hits) (part_within row number spans item.0) (map (part_within row number spans) (map (λ e. e.0) items))
      (of_more (node_keys item.0.node) keys (node_finds row number item.0.node spans).hits (λ key member. among key (Contains-append_left (node_keys item.0.node) later key member)) (item.1 spans))
      (parts_keyed spans keys items (λ key member. among key (Contains-append_right (node_keys item.0.node) later key member)))

  keyed_and : (items : List ((i : Item) × IsKeyed i.node)) → IsKeyed (nodes.And (map (λ e. e.0) items))
  keyed_and items spans =
      let its = map (λ (e : (i : Item) × IsKeyed i.node). e.0) items in
      subst (λ found. AreOf (node_keys (nodes.And its)) found.hits) (sym (finds_and row number its spans))
      (all_of_hits (IsOf (node_keys (nodes.And its))) (map (part_within row number spans) its)
      (parts_keyed spans (node_keys (nodes.And its)) items (λ key member. subst (λ keys. Contains keys key) (sym (keys_and its)) member)))

  -- a node over two others, which finds what they find, joined
  keyed_two : (node a b : Node) (join : Found → Found → Found) → ((P : Hit → Type 0) (x y : Found) → All P x.hits → All P y.hits → All P (join x y).hits)
      → node_keys node ≡ node_keys a ++ node_keys b
      → ((spans : Spans) → node_finds row number node spans ≡ join (node_finds row number a spans) (node_finds row number b spans))
      → IsKeyed a → IsKeyed b → IsKeyed node
  keyed_two node a b join joins keys finds keyed_a keyed_b spans =
      let first = node_finds row number a spans in
      let second = node_finds row number b spans in
      subst (λ found. AreOf (node_keys node) found.hits) (sym (finds spans))
      (subst (λ ks. AreOf ks (join first second).hits) (sym keys)
      (joins (IsOf (node_keys a ++ node_keys b)) first second
      (of_more (node_keys a) (node_keys a ++ node_keys b) first.hits (λ key member. Contains-append_left (node_keys a) (node_keys b) key member) (keyed_a spans))
      (of_more (node_keys b) (node_keys a ++ node_keys b) second.hits (λ key member. Contains-append_right (node_keys a) (node_keys b) key member) (keyed_b spans))))

  keyed_joined : (node a b : Node) (join : List Occ → List Occ → List Occ) → node_keys node ≡ node_keys a ++ node_keys b
      → ((spans : Spans) → node_finds row number node spans ≡ joined join (node_finds row number a spans) (node_finds row number b spans))
      → IsKeyed a → IsKeyed b → IsKeyed node
  keyed_joined node a b join = keyed_two node a b (joined join) (λ P x y. joined_hits P join x y)

  keyed_span : (zones : List ℕ) (a : Node) → IsKeyed a → IsKeyed (nodes.ZoneSpan zones a)
  keyed_span zones a keyed spans =
      subst (λ found. AreOf (node_keys (nodes.ZoneSpan zones a)) found.hits) (sym (finds_span row number zones a spans))
      (subst (λ ks. AreOf ks (any_of (map (λ span. node_finds row number a (spans ++ span ∷ [])) (spans_in row zones))).hits) (sym (keys_span zones a))
      (any_of_hits (IsOf (node_keys a)) (map (λ span. node_finds row number a (spans ++ span ∷ [])) (spans_in row zones))
      (All-map (λ (found : Found). AreOf (node_keys a) found.hits) (λ span. node_finds row number a (spans ++ span ∷ [])) (spans_in row zones) (λ k d within. keyed (spans ++ get_or (spans_in row zones) k d ∷ [])))))

  layer_keyed : (y : Node-F ((n : Node) × IsKeyed n) ((i : Item) × IsKeyed i.node)) → IsKeyed (roll-Node (map-Node _ _ _ _ (λ e. e.0) (λ e. e.0) y))
  layer_keyed (Node-F.Word key) = subst IsKeyed (sym (rolls-Word key)) (keyed_word key)
  layer_keyed (Node-F.Quoted keys how) = subst IsKeyed (sym (rolls-Quoted keys how)) (keyed_quoted keys how)
  layer_keyed (Node-F.And items) = subst IsKeyed (sym (rolls-And _)) (keyed_and items)
  layer_keyed (Node-F.Or a b) = subst IsKeyed (sym (rolls-Or a.0 b.0)) (keyed_two _ a.0 b.0 either either_hits (keys_or a.0 b.0) (finds_or row number a.0 b.0) a.1 b.1)
  layer_keyed (Node-F.Maybe a b) = subst IsKeyed (sym (rolls-Maybe a.0 b.0)) (keyed_two _ a.0 b.0 perhaps perhaps_hits (keys_maybe a.0 b.0) (finds_maybe row number a.0 b.0) a.1 b.1)
  layer_keyed (Node-F.Before a b) = subst IsKeyed (sym (rolls-Before a.0 b.0)) (keyed_joined _ a.0 b.0 before (keys_before a.0 b.0) (finds_before row number a.0 b.0) a.1 b.1)
  layer_keyed (Node-F.Near n a b) = subst IsKeyed (sym (rolls-Near n a.0 b.0)) (keyed_joined _ a.0 b.0 (near n) (keys_near n a.0 b.0) (finds_near row number n a.0 b.0) a.1 b.1)
  layer_keyed (Node-F.Sentence a b) = subst IsKeyed (sym (rolls-Sentence a.0 b.0)) (keyed_joined _ a.0 b.0 (together (sentence_ends row)) (keys_sentence a.0 b.0) (finds_sentence row number a.0 b.0) a.1 b.1)
  layer_keyed (Node-F.Paragraph a b) = subst IsKeyed (sym (rolls-Paragraph a.0 b.0)) (keyed_joined _ a.0 b.0 (together (paragraph_ends row)) (keys_paragraph a.0 b.0) (finds_paragraph row number a.0 b.0) a.1 b.1)
  layer_keyed (Node-F.ZoneSpan zones a) = subst IsKeyed (sym (rolls-ZoneSpan zones a.0)) (keyed_span zones a.0 a.1)

  keyed : (node : Node) → IsKeyed node
  keyed = ind-Node IsKeyed (λ i. IsKeyed i.node) (λ x y is. subst (λ z. IsKeyed (roll-Node z)) is (layer_keyed y)) (λ x y is. subst (λ z. IsKeyed z.node) is y.node.1)

-- ---- queries
-- the hit is of some keyword of the query
abbrev pub IsKeyHit : Query → DocRow → Hit → Type 0
IsKeyHit query row hit = Any (IsHitOf query row hit) (query_keys query)

root_keyed : (root : Option Node) (keywords : ℕ) (row : DocRow) → All (IsKeyHit (record { root = root; keywords = keywords }) row) (query_finds (record { root = root; keywords = keywords }) row).hits
root_keyed None keywords row = All-nil (IsKeyHit (record { root = None; keywords = keywords }) row)
root_keyed (Some node) keywords row =
    let query : Query = record { root = Some node; keywords = keywords } in
    All-weaker (IsOf row (number_in query) (node_keys node)) (IsKeyHit query row)
    (λ hit of. (of.1.0, of.0, of.1.1, of.1.2, record { position = of.2; word = of.3; place = of.4 }))
    (query_finds query row).hits (keyed row (number_in query) node [])

-- what holds of each member holds of each member of a list with the same ones
same_hits : (P : Hit → Type 0) (hits found : List Hit) → SameMembers hits found → All P found → All P hits
same_hits P hits found same all =
    All-weaker (Contains hits) P
    (λ hit member. All-contains P found hit all (Contains-from_any is_same_equal hit found (sym (same (is_same hit)) ∙ list_any-from_Contains is_same_equiv hit hits member)))
    hits (All-contains_itself hits)

pub hits_keyed : (query : Query) (row : DocRow) (hits : List Hit) → AreHits query row hits → All (IsKeyHit query row) hits
hits_keyed query row hits are = same_hits (IsKeyHit query row) hits (query_finds query row).hits are.all (root_keyed query.root query.keywords row)
