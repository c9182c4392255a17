-- The nodes of lists with one part more, and that each part of the grammar has a mark.
use Rattle.std.proofs.Common.{arith, ◌≡◌, ◌≢◌, ◌<◌, ◌≤◌, ℕ, zero, suc, List, [], ◌∷◌, ◌++◌, length, Bool, true, false, Option, Some, None, inl, inr, refl, sym, ◌∙◌, ap, append_assoc, append-nil, slice_index_or}
use Rattle.std.specs.Prelude.{MatchBool, not}
use Rattle.token_grammar.specs.Values.{AreInRow}
use Rattle.query_marks.specs.declared.mark.Mark.{Mark}
use Rattle.query_tree.specs.declared.query.Item.{Item}
use Rattle.query_tree.specs.declared.query.Node.{Node}
use Rattle.query_tree.specs.declared.query.Node.TheVariants as nodes
use Rattle.query_grammar.specs.Grammar.{IsLeaf, IsJoin, IsGroup, IsItem, Section, IsLimit, chosen, last_of, node_of, items_of, all_items, ordered}
use Rattle.query_grammar.specs.QueryFaults.{Any}
use Rattle.query_read.specs.steps.Parts.{IsGiven}

-- what one choice more makes of a node
abbrev pub choose_node : Node → Bool × Node → Node
choose_node node (true, next) = nodes.Or node next
choose_node node (false, next) = nodes.Maybe node next

pub chosen_last : (first : Node) (rest : List (Bool × Node)) (x : Bool × Node) → chosen first (rest ++ x ∷ []) ≡ choose_node (chosen first rest) x
chosen_last first [] (true, x) = refl
chosen_last first [] (false, x) = refl
chosen_last first ((true, y) ∷ rest) x = chosen_last (nodes.Or first y) rest x
chosen_last first ((false, y) ∷ rest) x = chosen_last (nodes.Maybe first y) rest x

-- what one AND more makes of a node
abbrev pub order_node : Node → Option ℕ × Node → Node
order_node node (None, next) = nodes.Before node next
order_node node (Some n, next) = nodes.Near n node next

pub ordered_last : (first : Node) (rest : List (Option ℕ × Node)) (x : Option ℕ × Node) → ordered first (rest ++ x ∷ []) ≡ order_node (ordered first rest) x
ordered_last first [] (None, x) = refl
ordered_last first [] (Some n, x) = refl
ordered_last first ((None, y) ∷ rest) x = ordered_last (nodes.Before first y) rest x
ordered_last first ((Some n, y) ∷ rest) x = ordered_last (nodes.Near n first y) rest x

pub last_of_last : (span : Option (List ℕ)) (list : List (Option (List ℕ))) (x : Option (List ℕ)) → last_of span (list ++ x ∷ []) ≡ x
last_of_last span [] x = refl
last_of_last span (y ∷ list) x = last_of_last y list x

pub all_items_last : (sections : List Section) (x : Section) → all_items (sections ++ x ∷ []) ≡ all_items sections ++ items_of x.span x.items
all_items_last [] x = append-nil (items_of x.span x.items)
all_items_last (y ∷ sections) x = ap (λ v. items_of y.span y.items ++ v) (all_items_last sections x) ∙ sym (append_assoc (items_of y.span y.items) (all_items sections) (items_of x.span x.items))

-- one item, by whether it is negated
pub plain_one : (items : List Item) (x : Item) → 1 ≤ length items → length items < 2 → x ≡ slice_index_or items 0 x → MatchBool (not x.negated) ((item : Item) × (items ≡ item ∷ []) × (item.negated ≡ false)) (node_of items ≡ nodes.And items)
plain_one [] x some few is = absurd (omega (arith, some))
plain_one (y ∷ z ∷ items) x some few is = absurd (omega (arith, few))
plain_one (y ∷ []) x some few is = one y.negated refl
  where
    one : (b : Bool) → y.negated ≡ b → MatchBool (not x.negated) ((item : Item) × (y ∷ [] ≡ item ∷ []) × (item.negated ≡ false)) (node_of (y ∷ []) ≡ nodes.And (y ∷ []))
    one true e = rw (is, e) (rw e refl)
    one false e = rw (is, e) (record { negated = false; node = y.node }, refl, refl)

-- There is a mark.
abbrev Filled : List Mark → Type 0
Filled u = (m : Mark) × (rest : List Mark) × (u ≡ m ∷ rest)

filled_first : {u : List Mark} (a b : List Mark) → u ≡ a ++ b → Filled a → Filled u
filled_first a b is (m, rest, same) = (m, rest ++ b, is ∙ ap (λ v. v ++ b) same)

leaf_filled : (node : Node) (u : List Mark) → IsLeaf node u → Filled u
leaf_filled node u (inl (key, is, (m, one, sign))) = (m, [], one)
leaf_filled node u (inr (keys, is, (m, one, sign))) = (m, [], one)

group_filled : (d : ℕ) (node : Node) (u : List Mark) → IsGroup Any d node u → Filled u
unfolding IsGroup
group_filled zero node u h = absurd h
group_filled (suc d) node u (a, b, is, (m, one, sign), rest) = filled_first a b is (m, [], one)

join_filled : (d : ℕ) (node : Node) (u : List Mark) → IsJoin (IsGroup Any d) node u → Filled u
join_filled d node u (inl leaf) = leaf_filled node u leaf
join_filled d node u (inr (inl (keys, how, is, (m, one, sign)))) = (m, [], one)
join_filled d node u (inr (inr (inl (first, rest, filled, is, (a, b, same, leaf, row))))) = filled_first a b same (leaf_filled first a leaf)
join_filled d node u (inr (inr (inr (inl (first, rest, filled, is, (a, b, same, leaf, row)))))) = filled_first a b same (leaf_filled first a leaf)
join_filled d node u (inr (inr (inr (inr group)))) = group_filled d node u group

pub item_filled : (d : ℕ) (item : Item) (u : List Mark) → IsItem (IsGroup Any d) item u → (m : Mark) × (rest : List Mark) × (u ≡ m ∷ rest)
item_filled d item u (inl (negated, (a, b, is, (m, one, sign), join))) = filled_first a b is (m, [], one)
item_filled d item u (inr (plain, (first, rest, same, (a, b, is, join, row)))) = filled_first a b is (join_filled d first a join)

items_filled : (d : ℕ) (items : List Item) (u : List Mark) → items ≢ [] → AreInRow (IsItem (IsGroup Any d)) items u → Filled u
items_filled d [] u some row = absurd (some refl)
items_filled d (item ∷ items) u some (a, b, is, first, rest) = filled_first a b is (item_filled d item a first)

limits_filled : (list : List (Option (List ℕ))) {u : List Mark} (a b : List Mark) → u ≡ a ++ b → AreInRow IsLimit list a → Filled b → Filled u
limits_filled [] a b is none (m, rest, same) = (m, rest, is ∙ ap (λ v. v ++ b) none ∙ same)
limits_filled (None ∷ list) a b is (v, w, parts, (m, one, sign), rest) some = filled_first v (w ++ b) (is ∙ ap (λ x. x ++ b) parts ∙ append_assoc v w b) (m, [], one)
limits_filled (Some zones ∷ list) a b is (v, w, parts, (m, one, sign), rest) some = filled_first v (w ++ b) (is ∙ ap (λ x. x ++ b) parts ∙ append_assoc v w b) (m, [], one)

pub given_filled : (d : ℕ) (isfirst : Bool) (given : List Item) (u : List Mark) → IsGiven (IsGroup Any d) isfirst given u → (m : Mark) × (rest : List Mark) × (u ≡ m ∷ rest)
given_filled d isfirst given u (section, same, (list, counts, last, some, (a, b, is, limits, row))) = limits_filled list a b is limits (items_filled d section.items b some row)
