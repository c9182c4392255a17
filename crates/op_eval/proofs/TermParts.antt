-- The parts of a row's terms that are those of a node's parts, for any relation between keywords and terms.
use Rattle.std.proofs.Common.{arith, ◌≡◌, ◌≤◌, ◌<◌, ◌+◌, ℕ, List, [], ◌∷◌, ◌++◌, length, get_or, drop, sym, ap, ◌∙◌, subst, length-append}
use Rattle.std.specs.List.{AllZip, flat_map}
use Rattle.std.proofs.lemmas.List.{drop_more}
use Rattle.std.proofs.lemmas.Slice.Zip.{AllZip-long}
use Rattle.query_tree.specs.declared.key.Key.{Key}
use Rattle.query_tree.specs.declared.query.Item.{Item}
use Rattle.query_tree.specs.declared.query.Node.{Node}
use Rattle.query_tree.specs.declared.query.Node.TheVariants as nodes
use Rattle.query_tree.specs.TreeKeys.{node_keys}
use Rattle.query_tree.proofs.NodeKeys.{keys_and, keys_span}
use Rattle.occ_lists.specs.declared.term.Term.{Term}
use Rattle.query_tree.proofs.JoinedKeys.{IsJoint, keys_joint}

-- ---- lists

module _ {A B : Type 0} (R : A → B → Type 0) where
  zip_split : (ks ls : List A) (us vs : List B) → length us ≡ length ks → AllZip R (ks ++ ls) (us ++ vs) → AllZip R ks us × AllZip R ls vs
  zip_split [] ls [] vs e z = (tt, z)
  zip_split [] ls (u ∷ us) vs e z = absurd (omega (arith, e))
  zip_split (k ∷ ks) ls [] vs e z = absurd (omega (arith, e))
  zip_split (k ∷ ks) ls (u ∷ us) vs e z = let parts = zip_split ks ls us vs (omega (arith, e)) z.1 in ((z.0, parts.0), parts.1)

  -- a list that was parted after those of the first keys
  pub zip_first : (ks ls : List A) (ts us vs : List B) → AllZip R (ks ++ ls) ts → ts ≡ us ++ vs → (length ks ≤ length ts → length us ≡ length ks) → AllZip R ks us × AllZip R ls vs
  zip_first ks ls ts us vs z e own =
      zip_split ks ls us vs (own (omega (arith, AllZip-long R (ks ++ ls) ts z, length-append ks ls))) (subst (λ (t : List B). AllZip R (ks ++ ls) t) e z)

  -- a list that was parted before those of the last keys
  pub zip_last : (ks ls : List A) (ts us vs : List B) → AllZip R (ks ++ ls) ts → ts ≡ us ++ vs → (length ls ≤ length ts → length vs ≡ length ls) → AllZip R ks us × AllZip R ls vs
  zip_last ks ls ts us vs z e own =
      let all : length ts ≡ length ks + length ls = AllZip-long R (ks ++ ls) ts z ∙ length-append ks ls in
      let last : length vs ≡ length ls = own (omega arith) in
      zip_split ks ls us vs (omega (arith, ap length e, length-append us vs)) (subst (λ (t : List B). AllZip R (ks ++ ls) t) e z)

-- ---- nodes

-- the keywords of the items of an AND
abbrev pub items_keys : List Item → List Key
items_keys items = flat_map (λ (item : Item). node_keys item.node) items

module _ (R : Key → Term → Type 0) where
  -- a node that joins two, which are read behind references
  pub joint_parts : (node a b first second : Node) (terms left right : List Term) → IsJoint node a b → first ≡ a → second ≡ b → AllZip R (node_keys node) terms
      → terms ≡ left ++ right → (length (node_keys second) ≤ length terms → length right ≡ length (node_keys second)) → AllZip R (node_keys first) left × AllZip R (node_keys second) right
  joint_parts node a b first second terms left right joint is_a is_b z whole own =
      zip_last R (node_keys first) (node_keys second) terms left right
      (subst (λ (keys : List Key). AllZip R keys terms) (keys_joint node a b joint ∙ ap (λ (n : Node). node_keys n ++ node_keys b) (sym is_a) ∙ ap (λ (n : Node). node_keys first ++ node_keys n) (sym is_b)) z)
      whole own

  -- the items of an AND
  pub and_parts : (node : Node) (items : List Item) (terms : List Term) → node ≡ nodes.And items → AllZip R (node_keys node) terms → AllZip R (items_keys items) terms
  and_parts node items terms e z = subst (λ (keys : List Key). AllZip R keys terms) (ap node_keys e ∙ keys_and items) z

  -- the node under a ZONESPAN
  pub span_parts : (node : Node) (zones : List ℕ) (a inner : Node) (terms : List Term) → node ≡ nodes.ZoneSpan zones a → inner ≡ a → AllZip R (node_keys node) terms → AllZip R (node_keys inner) terms
  span_parts node zones a inner terms e is z = subst (λ (keys : List Key). AllZip R keys terms) (ap node_keys e ∙ keys_span zones a ∙ ap node_keys (sym is)) z

  -- the next of the items of an AND
  pub item_parts : (items : List Item) (at : ℕ) (d : Item) (rest own later : List Term) → at < length items → AllZip R (items_keys (drop at items)) rest
      → rest ≡ own ++ later → (length (node_keys (get_or items at d).node) ≤ length rest → length own ≡ length (node_keys (get_or items at d).node))
      → AllZip R (node_keys (get_or items at d).node) own × AllZip R (items_keys (drop (at + 1) items)) later
  item_parts items at d rest own later within z whole long =
      zip_first R (node_keys (get_or items at d).node) (items_keys (drop (at + 1) items)) rest own later
      (subst (λ (left : List Item). AllZip R (items_keys left) rest) (drop_more items at d within) z)
      whole long
