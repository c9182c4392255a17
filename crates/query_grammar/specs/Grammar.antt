-- The grammar of extended queries, with its values. A query is said with a bound on the nesting of its groups; a query of some
-- bound is one without the limit.
use Rattle.std.specs.Prelude.{◌≡◌, ◌≢◌, ◌⊎◌, ℕ, zero, suc, List, [], ◌∷◌, ◌++◌, Bool, true, false, Option, Some, None, IsTrue, not}
use Rattle.std.specs.List.{flat_map, list_any}
use Rattle.token_grammar.specs.Values.{◌then◌, IsOne, IsPerhaps, AreInRow}
use Rattle.query_tree.specs.declared.key.Key.{Key}
use Rattle.query_tree.specs.declared.key.How.{How}
use Rattle.query_tree.specs.declared.key.How.TheVariants as hows
use Rattle.query_tree.specs.declared.query.Item.{Item}
use Rattle.query_tree.specs.declared.query.Node.{Node}
use Rattle.query_tree.specs.declared.query.Node.TheVariants as nodes
use Rattle.query_marks.specs.declared.mark.Mark.{Mark}
use Rattle.query_marks.specs.declared.mark.Sign.{Sign}
use Rattle.query_marks.specs.declared.mark.Sign.TheVariants as signs

-- one mark with this sign
abbrev pub Is : Sign → List Mark → Type 0
Is sign = IsOne (λ m. m.sign ≡ sign)

-- a word, or a phrase
abbrev pub IsLeaf : Node → List Mark → Type 0
IsLeaf node u =
    ((key : Key) × (node ≡ nodes.Word key) × Is (signs.Bare key) u)
    ⊎ ((keys : List Key) × (node ≡ nodes.Quoted keys hows.Phrase) × Is (signs.Phrase keys) u)

-- a quoted piece with a number
abbrev pub IsLoose : Node → List Mark → Type 0
IsLoose node u = (keys : List Key) × (how : How) × (node ≡ nodes.Quoted keys how) × Is (signs.Loose keys how) u

-- nodes joined from the left
abbrev pub joined : (Node → Node → Node) → Node → List Node → Node
joined join first [] = first
joined join first (node ∷ rest) = joined join (join first node) rest

-- leaves with an operator between each and the next, two at least
abbrev pub AreJoined : Sign → (Node → Node → Node) → Node → List Mark → Type 0
AreJoined sign join node u =
    (first : Node) × (rest : List Node) × (rest ≢ []) × (node ≡ joined join first rest) × (IsLeaf first then AreInRow (λ leaf. Is sign then IsLeaf leaf) rest) u

-- What SENTENCE and PARAGRAPH join, or an atom. The groups are given.
abbrev pub IsJoin : (Node → List Mark → Type 0) → Node → List Mark → Type 0
IsJoin IsGroup node u =
    IsLeaf node u
    ⊎ IsLoose node u
    ⊎ AreJoined signs.Sentence nodes.Sentence node u
    ⊎ AreJoined signs.Paragraph nodes.Paragraph node u
    ⊎ IsGroup node u

-- what stands after the first part of a choice: `|` where the flag is true, else MAYBE
abbrev pub IsChoice : (Node → List Mark → Type 0) → Bool × Node → List Mark → Type 0
IsChoice IsGroup (true, node) = Is signs.Or then IsJoin IsGroup node
IsChoice IsGroup (false, node) = Is signs.Maybe then IsJoin IsGroup node

abbrev pub chosen : Node → List (Bool × Node) → Node
chosen first [] = first
chosen first ((true, node) ∷ rest) = chosen (nodes.Or first node) rest
chosen first ((false, node) ∷ rest) = chosen (nodes.Maybe first node) rest

-- joins with `|` and MAYBE between them
abbrev pub IsAlt : (Node → List Mark → Type 0) → Node → List Mark → Type 0
IsAlt IsGroup node u =
    (first : Node) × (rest : List (Bool × Node)) × (node ≡ chosen first rest) × (IsJoin IsGroup first then AreInRow (IsChoice IsGroup) rest) u

abbrev pub IsItem : (Node → List Mark → Type 0) → Item → List Mark → Type 0
IsItem IsGroup item u =
    ((item.negated ≡ true) × (Is signs.Not then IsJoin IsGroup item.node) u)
    ⊎ ((item.negated ≡ false) × IsAlt IsGroup item.node u)

-- Items that stand under the same limits, with the zones of the ZONESPAN that they stand under.
pub record Section : Type 0 where
  pub span : Option (List ℕ)
  pub items : List Item

-- a limit, with the zones of the node that it makes
abbrev pub IsLimit : Option (List ℕ) → List Mark → Type 0
IsLimit None = Is signs.Limits
IsLimit (Some zones) = Is (signs.Spans zones)

-- limits in a row, of which the last one counts; where there is none, what is given first
abbrev pub last_of : Option (List ℕ) → List (Option (List ℕ)) → Option (List ℕ)
last_of span [] = span
last_of span (next ∷ rest) = last_of next rest

-- items after limits; in the first section of an AND there may be no limit
abbrev pub IsSection : (Node → List Mark → Type 0) → Bool → Section → List Mark → Type 0
IsSection IsGroup isfirst section u =
    (list : List (Option (List ℕ))) × ((isfirst ≡ true) ⊎ (list ≢ [])) × (section.span ≡ last_of None list) × (section.items ≢ [])
    × (AreInRow IsLimit list then AreInRow (IsItem IsGroup) section.items) u

-- the node of items: one that isn't negated is the node itself
abbrev pub node_of : List Item → Node
node_of [] = nodes.And []
node_of (item ∷ []) = elim item.negated [ true ↦ nodes.And (item ∷ []) | false ↦ item.node ]
node_of (item ∷ other ∷ items) = nodes.And (item ∷ other ∷ items)

-- the items that a section gives to its AND: a ZONESPAN makes one of them
abbrev pub items_of : Option (List ℕ) → List Item → List Item
items_of None items = items
items_of (Some zones) items = record { negated = false; node = nodes.ZoneSpan zones (node_of items) } ∷ []

abbrev pub all_items : List Section → List Item
all_items sections = flat_map (λ section. items_of section.span section.items) sections

-- an AND, as its sections
abbrev pub IsAnd : (Node → List Mark → Type 0) → List Section → List Mark → Type 0
IsAnd IsGroup [] u = ⊥
IsAnd IsGroup (section ∷ sections) u = (IsSection IsGroup true section then AreInRow (IsSection IsGroup false) sections) u

-- one item isn't negated
abbrev pub has_item : List Item → Bool
has_item items = list_any (λ item. not item.negated) items

-- An AND that is allowed: it has an item that isn't negated, and so has each of its ZONESPANs.
abbrev pub IsOpenAnd : List Section → Type 0
IsOpenAnd sections = IsTrue (has_item (all_items sections)) × ((section : Section) → (zones : List ℕ) → (a b : List Section) → sections ≡ a ++ section ∷ b → section.span ≡ Some zones → IsTrue (has_item section.items))

-- `<<`, or NEAR with its number
abbrev pub IsOrder : Option ℕ → List Mark → Type 0
IsOrder None = Is signs.Before
IsOrder (Some n) = Is (signs.Near n)

abbrev pub ordered : Node → List (Option ℕ × Node) → Node
ordered first [] = first
ordered first ((None, node) ∷ rest) = ordered (nodes.Before first node) rest
ordered first ((Some n, node) ∷ rest) = ordered (nodes.Near n first node) rest

-- The node of an AND. Which ANDs pass is given: where places of faults are asked for, all of them do.
abbrev pub IsAndNode : (List Section → Type 0) → (Node → List Mark → Type 0) → Node → List Mark → Type 0
IsAndNode Passes IsGroup node u = (sections : List Section) × Passes sections × (node ≡ node_of (all_items sections)) × IsAnd IsGroup sections u

abbrev pub IsExpr : (List Section → Type 0) → (Node → List Mark → Type 0) → Node → List Mark → Type 0
IsExpr Passes IsGroup node u =
    (first : Node) × (rest : List (Option ℕ × Node)) × (node ≡ ordered first rest)
    × (IsAndNode Passes IsGroup first then AreInRow (λ next. IsOrder next.0 then IsAndNode Passes IsGroup next.1) rest) u

-- a group, with groups nested in it so deep at most: `( expr )` stands for the node of `expr`
unfoldable pub IsGroup : (List Section → Type 0) → ℕ → Node → List Mark → Type 0
IsGroup Passes zero node u = ⊥
IsGroup Passes (suc depth) node u = (Is signs.Open then IsExpr Passes (IsGroup Passes depth) node then Is signs.Close) u

-- a query with a keyword, to the text's end
abbrev pub IsQuery : (List Section → Type 0) → ℕ → Node → List Mark → Type 0
IsQuery Passes depth node = IsPerhaps (Is signs.Relaxed) then IsExpr Passes (IsGroup Passes depth) node then Is signs.End
