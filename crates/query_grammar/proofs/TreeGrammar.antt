-- Parts of the grammar, made of their own parts: a join with another one after it, an AND of one section, an expression.
use Rattle.std.proofs.Common.{◌≡◌, ℕ, List, [], ◌∷◌, ◌++◌, Bool, true, false, Option, Some, None, inl, inr, refl, sym, ◌∙◌, ap, subst, append_assoc}
use Rattle.std.specs.Prelude.{◌≢◌}
use Rattle.std.proofs.lemmas.List.{append-nil}
use Rattle.token_grammar.specs.Values.{◌then◌, AreInRow}
use Rattle.token_grammar.proofs.Lists.{row_last}
use Rattle.query_marks.specs.declared.mark.Mark.{Mark}
use Rattle.query_tree.specs.declared.query.Item.{Item}
use Rattle.query_tree.specs.declared.query.Node.{Node}
use Rattle.query_tree.specs.declared.query.Node.TheVariants as nodes
use Rattle.query_grammar.specs.Grammar.{Is, IsLeaf, IsJoin, IsChoice, chosen, IsAlt, IsItem, Section, IsLimit, last_of, IsSection, node_of, items_of, all_items, IsAnd, has_item, IsOpenAnd, IsOrder, ordered, IsAndNode, IsExpr}
use Rattle.query_grammar.specs.Grammar as grammar

-- ---- one more on the right

chosen_last : (first : Node) (rest : List (Bool × Node)) (next : Bool × Node) → chosen (chosen first rest) (next ∷ []) ≡ chosen first (rest ++ next ∷ [])
chosen_last first [] next = refl
chosen_last first ((true, node) ∷ rest) next = chosen_last (nodes.Or first node) rest next
chosen_last first ((false, node) ∷ rest) next = chosen_last (nodes.Maybe first node) rest next

ordered_last : (first : Node) (rest : List (Option ℕ × Node)) (next : Option ℕ × Node) → ordered (ordered first rest) (next ∷ []) ≡ ordered first (rest ++ next ∷ [])
ordered_last first [] next = refl
ordered_last first ((None, node) ∷ rest) next = ordered_last (nodes.Before first node) rest next
ordered_last first ((Some n, node) ∷ rest) next = ordered_last (nodes.Near n first node) rest next

pub joined_last : (join : Node → Node → Node) (first : Node) (rest : List Node) (next : Node) → join (grammar.joined join first rest) next ≡ grammar.joined join first (rest ++ next ∷ [])
joined_last join first [] next = refl
joined_last join first (node ∷ rest) next = joined_last join (join first node) rest next

pub row_more : {A : Type 0} {P : List Mark → Type 0} (Q : A → List Mark → Type 0) (rest : List A) (next : A) (u : List Mark) → ((P then AreInRow Q rest) then Q next) u → (P then AreInRow Q (rest ++ next ∷ [])) u
row_more Q rest next u (v, w, e, (x, y, is, first, row), h) = (x, y ++ w, e ∙ ap (λ z. z ++ w) is ∙ append_assoc x y w, first, row_last Q rest next y w row h)

pub then_none : {A : Type 0} {P : List Mark → Type 0} (Q : A → List Mark → Type 0) (u : List Mark) → P u → (P then AreInRow Q []) u
then_none Q u h = (u, [], sym (append-nil u), h, refl)

pub not_none : {A : Type 0} (list : List A) (x : A) → (list ++ x ∷ []) ≢ []
not_none [] x e = cc
not_none (y ∷ list) x e = cc

-- an element of a list of one
only_one : (x y : Section) (a b : List Section) → x ∷ [] ≡ a ++ y ∷ b → x ≡ y
only_one x y [] b e = cc
only_one x y (z ∷ []) b e = cc
only_one x y (z ∷ z' ∷ a) b e = cc

has_still : (span : Option (List ℕ)) (items : List Item) → has_item items ≡ true → has_item (items_of span items ++ []) ≡ true
has_still None items h = ap has_item (append-nil (items_of None items)) ∙ h
has_still (Some zones) items h = refl

-- one section with an item that isn't negated
one_open : (section : Section) → has_item section.items ≡ true → IsOpenAnd (section ∷ [])
one_open section h =
    (has_still section.span section.items h, λ other zones a b e span. subst (λ (x : Section). has_item x.items ≡ true) (only_one section other a b e) h)

-- an item that isn't negated
abbrev pub item_of : Node → Item
item_of node = record { negated = false; node = node }

item_some : (node : Node) → (item_of node ∷ []) ≢ []
item_some node e = cc

module _ (G : Node → List Mark → Type 0) where
  pub alt_one : (node : Node) (u : List Mark) → IsJoin G node u → IsAlt G node u
  alt_one node u h = (node, [], refl, then_none (IsChoice G) u h)

  pub alt_more : (node : Node) (next : Bool × Node) (u : List Mark) → (IsAlt G node then IsChoice G next) u → IsAlt G (chosen node (next ∷ [])) u
  alt_more node next u (x, y, e, (first, rest, is, h), last) =
      (first, rest ++ next ∷ [], ap (λ z. chosen z (next ∷ [])) is ∙ chosen_last first rest next, row_more (IsChoice G) rest next u (x, y, e, h, last))

  abbrev pub IsOrdered : Option ℕ × Node → List Mark → Type 0
  IsOrdered next = IsOrder next.0 then IsAndNode IsOpenAnd G next.1

  pub expr_one : (node : Node) (u : List Mark) → IsAndNode IsOpenAnd G node u → IsExpr IsOpenAnd G node u
  expr_one node u h = (node, [], refl, then_none IsOrdered u h)

  pub expr_more : (node : Node) (next : Option ℕ × Node) (u : List Mark) → (IsExpr IsOpenAnd G node then IsOrdered next) u → IsExpr IsOpenAnd G (ordered node (next ∷ [])) u
  expr_more node next u (x, y, e, (first, rest, is, h), last) =
      (first, rest ++ next ∷ [], ap (λ z. ordered z (next ∷ [])) is ∙ ordered_last first rest next, row_more IsOrdered rest next u (x, y, e, h, last))

  -- an AND of one section
  pub and_one : (limits : List (Option (List ℕ))) (items : List Item) → items ≢ [] → has_item items ≡ true → (u : List Mark) → (AreInRow IsLimit limits then AreInRow (IsItem G) items) u → IsAndNode IsOpenAnd G (node_of (items_of (last_of None limits) items)) u
  and_one limits items some has u h =
      let section : Section = record { span = last_of None limits; items = items } in
      let is : IsSection G true section u = (limits, inl refl, refl, some, h) in
      (section ∷ [], one_open section has, ap node_of (sym (append-nil (items_of (last_of None limits) items))), then_none (IsSection G false) u is)

  one_item : (node : Node) (u : List Mark) → IsAlt G node u → AreInRow (IsItem G) (item_of node ∷ []) u
  one_item node u h = (u, [], sym (append-nil u), inr (refl, h), refl)

  pub and_alt : (node : Node) (u : List Mark) → IsAlt G node u → IsAndNode IsOpenAnd G node u
  and_alt node u h = and_one [] (item_of node ∷ []) (item_some node) refl u ([], u, refl, refl, one_item node u h)

  pub expr_alt : (node : Node) (u : List Mark) → IsAlt G node u → IsExpr IsOpenAnd G node u
  expr_alt node u h = expr_one node u (and_alt node u h)

  -- one item under limits
  pub expr_limited : (limits : List (Option (List ℕ))) (node : Node) (u : List Mark) → (AreInRow IsLimit limits then IsJoin G node) u → IsExpr IsOpenAnd G (node_of (items_of (last_of None limits) (item_of node ∷ []))) u
  expr_limited limits node u (x, y, is, row, h) =
      expr_one (node_of (items_of (last_of None limits) (item_of node ∷ []))) u (and_one limits (item_of node ∷ []) (item_some node) refl u (x, y, is, row, one_item node y (alt_one node y h)))

  -- items without limits
  pub expr_items : (items : List Item) → items ≢ [] → has_item items ≡ true → (u : List Mark) → AreInRow (IsItem G) items u → IsExpr IsOpenAnd G (node_of items) u
  expr_items items some has u h = expr_one (node_of items) u (and_one [] items some has u ([], u, refl, refl, h))
