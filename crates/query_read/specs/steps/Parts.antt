-- The values of those parts of the grammar that `Grammar` doesn't name, and the classes with which a part may go on.
use Rattle.std.specs.Prelude.{◌≡◌, ◌≢◌, ◌⊎◌, ℕ, List, [], ◌∷◌, Bool, true, Option, None, not}
use Rattle.token_grammar.specs.Values.{◌then◌, AreInRow}
use Rattle.query_marks.specs.declared.mark.Mark.{Mark}
use Rattle.query_marks.specs.declared.mark.Sign.{Sign}
use Rattle.query_marks.specs.declared.mark.Sign.TheVariants as signs
use Rattle.query_grammar.specs.declared.class.Class.{Class}
use Rattle.query_grammar.specs.declared.class.Class.TheVariants as classes
use Rattle.query_tree.specs.declared.query.Item.{Item}
use Rattle.query_tree.specs.declared.query.Node.{Node}
use Rattle.query_tree.specs.declared.query.Node.TheVariants as nodes
use Rattle.query_grammar.specs.Grammar.{Is, IsLeaf, AreJoined, joined, IsItem, Section, IsSection, IsLimit, last_of, items_of}
use Rattle.query_grammar.specs.steps.Classes.{same_class, next_class}

abbrev pub join_goes_on : List Class
join_goes_on = classes.Sentence ∷ classes.Paragraph ∷ []

abbrev pub alternatives_go_on : List Class
alternatives_go_on = classes.Or ∷ classes.Maybe ∷ join_goes_on

abbrev pub items_go_on : List Class
items_go_on = classes.Leaf ∷ classes.Loose ∷ classes.Open ∷ classes.Not ∷ alternatives_go_on

abbrev pub and_goes_on : List Class
and_goes_on = classes.Limit ∷ items_go_on

abbrev pub expr_goes_on : List Class
expr_goes_on = classes.Before ∷ classes.Near ∷ and_goes_on

-- one leaf or more, each after the operator, that are joined to a first node
abbrev pub AreAdded : Sign → (Node → Node → Node) → Node → Node → List Mark → Type 0
AreAdded sign join first node u = (rest : List Node) × (rest ≢ []) × (node ≡ joined join first rest) × AreInRow (λ leaf. Is sign then IsLeaf leaf) rest u

-- a leaf, or leaves that are joined
abbrev pub IsLeaves : Node → List Mark → Type 0
IsLeaves node u = IsLeaf node u ⊎ AreJoined signs.Sentence nodes.Sentence node u ⊎ AreJoined signs.Paragraph nodes.Paragraph node u

-- one item or more
abbrev pub AreItems : (Node → List Mark → Type 0) → List Item → List Mark → Type 0
AreItems IsGroup items u = (items ≢ []) × AreInRow (IsItem IsGroup) items u

-- no limit is next, so that a section that begins here is the first of its AND
abbrev pub is_first : List Mark → Bool
is_first marks = not (same_class classes.Limit (next_class marks))

-- limits, with the zones of the node that the last one makes
abbrev pub AreLimits : Bool → Option (List ℕ) → List Mark → Type 0
AreLimits isfirst span u = (list : List (Option (List ℕ))) × ((isfirst ≡ true) ⊎ (list ≢ [])) × (span ≡ last_of None list) × AreInRow IsLimit list u

-- a section, by the items that it gives to its AND
abbrev pub IsGiven : (Node → List Mark → Type 0) → Bool → List Item → List Mark → Type 0
IsGiven IsGroup isfirst given u = (section : Section) × (given ≡ items_of section.span section.items) × IsSection IsGroup isfirst section u
