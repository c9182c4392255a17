-- A query has the keywords of its text's marks, in their order; so they are 255 at most, and numbered from 1.
use Rattle.std.proofs.Common.{◌≡◌, ℕ, ◌≤◌, zero, suc, List, [], ◌∷◌, ◌++◌, Bool, true, false, Option, Some, None, length, map, inl, inr, refl, subst, sym, ◌∙◌, ap, append_assoc, append-nil, arith}
use Rattle.std.specs.Prelude.{Ok}
use Rattle.std.specs.List.{flat_map, range_with_len}
use Rattle.std.specs.Str.{IsUtf8}
use Rattle.std.proofs.lemmas.List.Concat.{flat_map-append}
use Rattle.token_grammar.specs.Values.{◌then◌, IsPerhaps, AreInRow}
use Rattle.query_pieces.specs.declared.piece.Piece.{Piece}
use Rattle.query_pieces.specs.Pieces.{ArePieces}
use Rattle.query_pieces.proofs.EachPiece.{has_pieces}
use Rattle.query_tree.specs.declared.key.Key.{Key}
use Rattle.query_tree.specs.declared.key.How.TheVariants as hows
use Rattle.query_marks.specs.declared.mark.Mark.{Mark}
use Rattle.query_marks.specs.declared.mark.Sign.{Sign}
use Rattle.query_marks.specs.declared.mark.Sign.TheVariants as signs
use Rattle.query_marks.specs.Marks.{Setting, alphabet_in, marks_of}
use Rattle.query_tree.specs.declared.query.Item.{Item}
use Rattle.query_tree.specs.declared.query.Node.{Node}
use Rattle.query_tree.specs.declared.query.Node.TheVariants as nodes
use Rattle.query_tree.specs.declared.query.Query.{Query}
use Rattle.query_grammar.specs.DeepValues.{IsDeepRoot}
use Rattle.query_tree.specs.TreeKeys.{node_keys, query_keys}
use Rattle.query_grammar.specs.Grammar.{Section, Is, IsLeaf, IsLoose, joined, AreJoined, IsJoin, IsChoice, chosen, IsAlt, IsItem, IsLimit, IsSection, node_of, items_of, all_items, IsAnd, IsOpenAnd, IsOrder, ordered, IsAndNode, IsExpr, IsGroup, IsQuery}
use Rattle.query_grammar.specs.Queries.{keys_of, IsValue, ReadsQuery}
use Rattle.query_tree.proofs.NodeKeys.{keys_and, keys_word, keys_quoted, keys_or, keys_maybe, keys_before, keys_near, keys_sentence, keys_paragraph, keys_span}
use Rattle.query_grammar.proofs.KeyCount.{few_keywords, numbered_keywords}
use Rattle.query_read.proofs.ValueDeep.{value_deep}

-- the keywords of marks
abbrev keys_in : List Mark → List Key
keys_in marks = flat_map (λ m. keys_of m.sign) marks

-- marks of the part have these keywords
abbrev Has : List Key → (List Mark → Type 0) → Type 0
Has keys P = (u : List Mark) → P u → keys_in u ≡ keys

-- ---- one part after another
then_has : {P Q : List Mark → Type 0} (k l : List Key) → Has k P → Has l Q → Has (k ++ l) (P then Q)
then_has k l first second u (a, b, e, p, q) =
    ap keys_in e ∙ flat_map-append (λ m. keys_of m.sign) a b ∙ ap (λ s. s ++ keys_in b) (first a p) ∙ ap (λ s. k ++ s) (second b q)

-- a part without keywords, before another one or behind it
before_has : {P Q : List Mark → Type 0} (k : List Key) → Has [] P → Has k Q → Has k (P then Q)
before_has k first second = then_has [] k first second

behind_has : {P Q : List Mark → Type 0} (k : List Key) → Has k P → Has [] Q → Has k (P then Q)
behind_has k first second u is = then_has k [] first second u is ∙ append-nil k

row_has : {A : Type 0} {P : A → List Mark → Type 0} (keys : A → List Key) → ((x : A) → Has (keys x) (P x)) → (xs : List A) → Has (flat_map keys xs) (AreInRow P xs)
row_has keys each [] u e = ap keys_in e
row_has keys each (x ∷ xs) u is = then_has (keys x) (flat_map keys xs) (each x) (row_has keys each xs) u is

is_has : (sign : Sign) → Has (keys_of sign) (Is sign)
is_has sign u (m, e, s) = ap keys_in e ∙ append-nil (keys_of m.sign) ∙ ap keys_of s

-- ---- leaves
leaf_has : (node : Node) → Has (node_keys node) (IsLeaf node)
leaf_has node u (inl (key, n, is)) = is_has (signs.Bare key) u is ∙ sym (keys_word key) ∙ ap node_keys (sym n)
leaf_has node u (inr (keys, n, is)) = is_has (signs.Phrase keys) u is ∙ sym (keys_quoted keys hows.Phrase) ∙ ap node_keys (sym n)

loose_has : (node : Node) → Has (node_keys node) (IsLoose node)
loose_has node u (keys, how, n, is) = is_has (signs.Loose keys how) u is ∙ sym (keys_quoted keys how) ∙ ap node_keys (sym n)

joined_keys : (join : Node → Node → Node) → ((a b : Node) → node_keys (join a b) ≡ node_keys a ++ node_keys b) → (first : Node) (rest : List Node) → node_keys (joined join first rest) ≡ node_keys first ++ flat_map node_keys rest
joined_keys join keys first [] = sym (append-nil (node_keys first))
joined_keys join keys first (node ∷ rest) =
    joined_keys join keys (join first node) rest ∙ ap (λ s. s ++ flat_map node_keys rest) (keys first node) ∙ append_assoc (node_keys first) (node_keys node) (flat_map node_keys rest)

are_joined_has : (sign : Sign) (join : Node → Node → Node) → keys_of sign ≡ [] → ((a b : Node) → node_keys (join a b) ≡ node_keys a ++ node_keys b) → (node : Node) → Has (node_keys node) (AreJoined sign join node)
are_joined_has sign join bare keys node u (first, rest, some, n, is) =
    let marked : Has [] (Is sign) = λ v m. is_has sign v m ∙ bare in
    then_has (node_keys first) (flat_map node_keys rest) (leaf_has first) (row_has node_keys (λ leaf. before_has (node_keys leaf) marked (leaf_has leaf)) rest) u is
    ∙ sym (joined_keys join keys first rest)
    ∙ ap node_keys (sym n)

-- ---- items and sections
chosen_keys : (first : Node) (rest : List (Bool × Node)) → node_keys (chosen first rest) ≡ node_keys first ++ flat_map (λ (c : Bool × Node). node_keys c.1) rest
chosen_keys first [] = sym (append-nil (node_keys first))
chosen_keys first ((true, node) ∷ rest) =
    chosen_keys (nodes.Or first node) rest ∙ ap (λ s. s ++ flat_map (λ (c : Bool × Node). node_keys c.1) rest) (keys_or first node) ∙ append_assoc (node_keys first) (node_keys node) (flat_map (λ (c : Bool × Node). node_keys c.1) rest)
chosen_keys first ((false, node) ∷ rest) =
    chosen_keys (nodes.Maybe first node) rest ∙ ap (λ s. s ++ flat_map (λ (c : Bool × Node). node_keys c.1) rest) (keys_maybe first node) ∙ append_assoc (node_keys first) (node_keys node) (flat_map (λ (c : Bool × Node). node_keys c.1) rest)

abbrev item_keys : Item → List Key
item_keys item = node_keys item.node

abbrev section_keys : Section → List Key
section_keys section = flat_map item_keys section.items

one_keys : (negated : Bool) (node : Node) → node_keys (node_of (record { negated = negated; node = node } ∷ [])) ≡ node_keys node ++ []
one_keys true node = keys_and (record { negated = true; node = node } ∷ [])
one_keys false node = sym (append-nil (node_keys node))

node_of_keys : (items : List Item) → node_keys (node_of items) ≡ flat_map item_keys items
node_of_keys [] = keys_and []
node_of_keys (item ∷ []) = one_keys item.negated item.node
node_of_keys (item ∷ other ∷ items) = keys_and (item ∷ other ∷ items)

items_of_keys : (span : Option (List ℕ)) (items : List Item) → flat_map item_keys (items_of span items) ≡ flat_map item_keys items
items_of_keys None items = refl
items_of_keys (Some zones) items = append-nil (node_keys (nodes.ZoneSpan zones (node_of items))) ∙ keys_span zones (node_of items) ∙ node_of_keys items

all_items_keys : (sections : List Section) → flat_map item_keys (all_items sections) ≡ flat_map section_keys sections
all_items_keys [] = refl
all_items_keys (section ∷ sections) =
    flat_map-append item_keys (items_of section.span section.items) (all_items sections)
    ∙ ap (λ s. s ++ flat_map item_keys (all_items sections)) (items_of_keys section.span section.items)
    ∙ ap (λ s. section_keys section ++ s) (all_items_keys sections)

limit_has : (limit : Option (List ℕ)) → Has [] (IsLimit limit)
limit_has None = is_has signs.Limits
limit_has (Some zones) = is_has (signs.Spans zones)

abbrev no_keys : {A : Type 0} → A → List Key
no_keys x = []

none_of_row : {A : Type 0} (xs : List A) → flat_map no_keys xs ≡ []
none_of_row [] = refl
none_of_row (x ∷ xs) = none_of_row xs

limits_have : (list : List (Option (List ℕ))) → Has [] (AreInRow IsLimit list)
limits_have list u is = row_has no_keys limit_has list u is ∙ none_of_row list

ordered_keys : (first : Node) (rest : List (Option ℕ × Node)) → node_keys (ordered first rest) ≡ node_keys first ++ flat_map (λ (next : Option ℕ × Node). node_keys next.1) rest
ordered_keys first [] = sym (append-nil (node_keys first))
ordered_keys first ((None, node) ∷ rest) =
    ordered_keys (nodes.Before first node) rest ∙ ap (λ s. s ++ flat_map (λ (next : Option ℕ × Node). node_keys next.1) rest) (keys_before first node) ∙ append_assoc (node_keys first) (node_keys node) (flat_map (λ (next : Option ℕ × Node). node_keys next.1) rest)
ordered_keys first ((Some n, node) ∷ rest) =
    ordered_keys (nodes.Near n first node) rest ∙ ap (λ s. s ++ flat_map (λ (next : Option ℕ × Node). node_keys next.1) rest) (keys_near n first node) ∙ append_assoc (node_keys first) (node_keys node) (flat_map (λ (next : Option ℕ × Node). node_keys next.1) rest)

order_has : (order : Option ℕ) → Has [] (IsOrder order)
order_has None = is_has signs.Before
order_has (Some n) = is_has (signs.Near n)

-- ---- expressions over groups that are given
module _ (Passes : List Section → Type 0) (Group : Node → List Mark → Type 0) (group : (node : Node) → Has (node_keys node) (Group node)) where
  join_has : (node : Node) → Has (node_keys node) (IsJoin Group node)
  join_has node u (inl leaf) = leaf_has node u leaf
  join_has node u (inr (inl loose)) = loose_has node u loose
  join_has node u (inr (inr (inl sentence))) = are_joined_has signs.Sentence nodes.Sentence refl keys_sentence node u sentence
  join_has node u (inr (inr (inr (inl paragraph)))) = are_joined_has signs.Paragraph nodes.Paragraph refl keys_paragraph node u paragraph
  join_has node u (inr (inr (inr (inr is)))) = group node u is

  choice_has : (choice : Bool × Node) → Has (node_keys choice.1) (IsChoice Group choice)
  choice_has (true, node) = before_has (node_keys node) (is_has signs.Or) (join_has node)
  choice_has (false, node) = before_has (node_keys node) (is_has signs.Maybe) (join_has node)

  alt_has : (node : Node) → Has (node_keys node) (IsAlt Group node)
  alt_has node u (first, rest, n, is) =
      then_has (node_keys first) (flat_map (λ (c : Bool × Node). node_keys c.1) rest) (join_has first) (row_has (λ (c : Bool × Node). node_keys c.1) choice_has rest) u is
      ∙ sym (chosen_keys first rest)
      ∙ ap node_keys (sym n)

  item_has : (item : Item) → Has (item_keys item) (IsItem Group item)
  item_has item u (inl (negated, is)) = before_has (item_keys item) (is_has signs.Not) (join_has item.node) u is
  item_has item u (inr (plain, is)) = alt_has item.node u is

  section_has : (isfirst : Bool) (section : Section) → Has (section_keys section) (IsSection Group isfirst section)
  section_has isfirst section u (list, some, span, items, is) = before_has (section_keys section) (limits_have list) (row_has item_keys item_has section.items) u is

  and_has : (sections : List Section) → Has (flat_map section_keys sections) (IsAnd Group sections)
  and_has [] u never = absurd never
  and_has (section ∷ sections) u is = then_has (section_keys section) (flat_map section_keys sections) (section_has true section) (row_has section_keys (section_has false) sections) u is

  and_node_has : (node : Node) → Has (node_keys node) (IsAndNode Passes Group node)
  and_node_has node u (sections, passes, n, is) = and_has sections u is ∙ sym (all_items_keys sections) ∙ sym (node_of_keys (all_items sections)) ∙ ap node_keys (sym n)

  expr_has : (node : Node) → Has (node_keys node) (IsExpr Passes Group node)
  expr_has node u (first, rest, n, is) =
      then_has (node_keys first) (flat_map (λ (next : Option ℕ × Node). node_keys next.1) rest) (and_node_has first)
      (row_has (λ (next : Option ℕ × Node). node_keys next.1) (λ next. before_has (node_keys next.1) (order_has next.0) (and_node_has next.1)) rest) u is
      ∙ sym (ordered_keys first rest)
      ∙ ap node_keys (sym n)

-- ---- queries
group_has : (Passes : List Section → Type 0) (depth : ℕ) (node : Node) → Has (node_keys node) (IsGroup Passes depth node)
unfolding IsGroup
group_has Passes zero node u never = absurd never
group_has Passes (suc depth) node u is =
    before_has (node_keys node) (is_has signs.Open) (behind_has (node_keys node) (expr_has Passes (IsGroup Passes depth) (group_has Passes depth) node) (is_has signs.Close)) u is

relaxed_has : Has [] (IsPerhaps (Is signs.Relaxed))
relaxed_has u (inl is) = is_has signs.Relaxed u is
relaxed_has u (inr e) = ap keys_in e

query_has : (depth : ℕ) (node : Node) → Has (node_keys node) (IsQuery IsOpenAnd depth node)
query_has depth node =
    before_has (node_keys node) relaxed_has (behind_has (node_keys node) (expr_has IsOpenAnd (IsGroup IsOpenAnd depth) (group_has IsOpenAnd depth) node) (is_has signs.End))

root_has : (root : Option Node) (keywords : ℕ) (marks : List Mark) → IsDeepRoot root marks → keys_in marks ≡ query_keys (record { root = root; keywords = keywords })
root_has None keywords marks is = is_has signs.End marks is
root_has (Some node) keywords marks (depth, is) = query_has depth node marks is

-- a value has the keywords of its marks
pub value_has : (setting : Setting) (text : List ℕ) (pieces : List Piece) (query : Query) → IsValue query (marks_of setting text pieces) → flat_map (λ m. keys_of m.sign) (marks_of setting text pieces) ≡ query_keys query
value_has setting text pieces query value = root_has query.root query.keywords (marks_of setting text pieces) (value_deep setting text pieces query value).root

-- how many they are
pub few_of_value : (setting : Setting) (text : List ℕ) (pieces : List Piece) (query : Query) → IsUtf8 text → ArePieces (alphabet_in setting) text pieces → IsValue query (marks_of setting text pieces) → (length (query_keys query) ≤ 255) × (query.keywords ≡ length (query_keys query))
few_of_value setting text pieces query utf8 are value =
    let same = ap length (value_has setting text pieces query value) in
    (omega (arith, few_keywords setting text pieces utf8 are (value_deep setting text pieces query value).right, same), value.1 ∙ same)

pub few_when_read : (setting : Setting) (text : List ℕ) (query : Query) → IsUtf8 text → ReadsQuery setting text (Ok query) → (length (query_keys query) ≤ 255) × (query.keywords ≡ length (query_keys query))
few_when_read setting text query utf8 reads =
    let some = has_pieces (alphabet_in setting) text utf8 in
    few_of_value setting text some.0 query utf8 some.1 (reads some.0 some.1)

-- the query positions of keywords are 1, 2, 3 and so on
abbrev pub AreNumbered : List Key → Type 0
AreNumbered keys = map (λ key. key.query) keys ≡ range_with_len 1 (length keys)

pub numbered_when_read : (setting : Setting) (text : List ℕ) (query : Query) → IsUtf8 text → ReadsQuery setting text (Ok query) → AreNumbered (query_keys query)
numbered_when_read setting text query utf8 reads =
    let some = has_pieces (alphabet_in setting) text utf8 in
    let value = reads some.0 some.1 in
    subst AreNumbered (value_has setting text some.0 query value) (numbered_keywords setting text some.0 utf8 some.1 (value_deep setting text some.0 query value).right)
