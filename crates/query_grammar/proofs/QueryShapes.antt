-- The values of the grammar's parts, told anew as pairs, choices and lists of the values of smaller parts, so that the laws on
-- those hold of them. The groups are given.
use Rattle.std.proofs.Common.{◌≡◌, ℕ, List, [], ◌∷◌, ◌++◌, Bool, true, false, Option, Some, None, ◌⊎◌, inl, inr, refl, sym, ◌∙◌, ap, append_assoc}
use Rattle.std.specs.Prelude.{◌≢◌}
use Rattle.token_grammar.specs.Values.{◌then◌, IsOne, AreInRow}
use Rattle.token_grammar.proofs.Agreement.{IsEither}
use Rattle.query_tree.specs.declared.key.Key.{Key}
use Rattle.query_tree.specs.declared.key.How.{How}
use Rattle.query_tree.specs.declared.key.How.TheVariants as hows
use Rattle.query_marks.specs.declared.mark.Mark.{Mark}
use Rattle.query_marks.specs.declared.mark.Sign.TheVariants as signs
use Rattle.query_grammar.specs.declared.class.Class.TheVariants as classes
use Rattle.query_tree.specs.declared.query.Item.{Item}
use Rattle.query_tree.specs.declared.query.Node.{Node}
use Rattle.query_tree.specs.declared.query.Node.TheVariants as nodes
use Rattle.query_grammar.specs.Grammar.{Section, Is, IsLeaf, IsLoose, AreJoined, IsJoin, IsChoice, chosen, IsAlt, IsItem, IsLimit, last_of, IsSection, node_of, all_items, IsOrder, ordered, IsAndNode, IsExpr}
use Rattle.query_grammar.specs.QueryFaults.{Any}
use Rattle.query_grammar.specs.steps.Classes.{fits}
use Rattle.query_grammar.proofs.MarkSigns.{class_fits}

-- Values of the one kind stand for those of the other, by a function, with the same marks.
pub record Shape {A B : Type 0} (P : A → List Mark → Type 0) (Q : B → List Mark → Type 0) : Type 0 where
  pub value : A → B
  pub there : (x : A) (u : List Mark) → P x u → Q (value x) u
  pub back : (y : B) (u : List Mark) → Q y u → (x : A) × P x u × (value x ≡ y)

-- Leaves and pieces with a number.
abbrev pub LeafMark : Node → Mark → Type 0
LeafMark node m = ((key : Key) × (node ≡ nodes.Word key) × (m.sign ≡ signs.Bare key)) ⊎ ((keys : List Key) × (node ≡ nodes.Quoted keys hows.Phrase) × (m.sign ≡ signs.Phrase keys))

pub leaf_fits : (node : Node) (m : Mark) → LeafMark node m → fits classes.Leaf m ≡ true
leaf_fits node m (inl (key, n, s)) = class_fits (signs.Bare key) m s
leaf_fits node m (inr (keys, n, s)) = class_fits (signs.Phrase keys) m s

pub leaf_shape : Shape (λ node. IsOne (LeafMark node)) IsLeaf
leaf_shape = record { value = λ node. node; there = there; back = back }
  where
    there : (node : Node) (u : List Mark) → IsOne (LeafMark node) u → IsLeaf node u
    there node u (m, e, inl (key, n, s)) = inl (key, n, (m, e, s))
    there node u (m, e, inr (keys, n, s)) = inr (keys, n, (m, e, s))

    back : (node : Node) (u : List Mark) → IsLeaf node u → (x : Node) × IsOne (LeafMark x) u × (x ≡ node)
    back node u (inl (key, n, (m, e, s))) = (node, (m, e, inl (key, n, s)), refl)
    back node u (inr (keys, n, (m, e, s))) = (node, (m, e, inr (keys, n, s)), refl)

abbrev pub LooseMark : Node → Mark → Type 0
LooseMark node m = (keys : List Key) × (how : How) × (node ≡ nodes.Quoted keys how) × (m.sign ≡ signs.Loose keys how)

pub loose_fits : (node : Node) (m : Mark) → LooseMark node m → fits classes.Loose m ≡ true
loose_fits node m (keys, how, n, s) = class_fits (signs.Loose keys how) m s

pub loose_shape : Shape (λ node. IsOne (LooseMark node)) IsLoose
loose_shape = record { value = λ node. node; there = there; back = back }
  where
    there : (node : Node) (u : List Mark) → IsOne (LooseMark node) u → IsLoose node u
    there node u (m, e, (keys, how, n, s)) = (keys, how, n, (m, e, s))

    back : (node : Node) (u : List Mark) → IsLoose node u → (x : Node) × IsOne (LooseMark x) u × (x ≡ node)
    back node u (keys, how, n, (m, e, s)) = (node, (m, e, (keys, how, n, s)), refl)

-- Limits.
abbrev pub LimitMark : Option (List ℕ) → Mark → Type 0
LimitMark None m = m.sign ≡ signs.Limits
LimitMark (Some zones) m = m.sign ≡ signs.Spans zones

pub limit_fits : (limit : Option (List ℕ)) (m : Mark) → LimitMark limit m → fits classes.Limit m ≡ true
limit_fits None m s = class_fits signs.Limits m s
limit_fits (Some zones) m s = class_fits (signs.Spans zones) m s

pub limit_shape : Shape (λ limit. IsOne (LimitMark limit)) IsLimit
limit_shape = record { value = λ limit. limit; there = there; back = back }
  where
    there : (limit : Option (List ℕ)) (u : List Mark) → IsOne (LimitMark limit) u → IsLimit limit u
    there None u h = h
    there (Some zones) u h = h

    back : (limit : Option (List ℕ)) (u : List Mark) → IsLimit limit u → (x : Option (List ℕ)) × IsOne (LimitMark x) u × (x ≡ limit)
    back None u h = (None, h, refl)
    back (Some zones) u h = (Some zones, h, refl)

-- a leaf, or leaves that SENTENCE or PARAGRAPH joins
abbrev pub IsLeaves : Node → List Mark → Type 0
IsLeaves node u = IsLeaf node u ⊎ AreJoined signs.Sentence nodes.Sentence node u ⊎ AreJoined signs.Paragraph nodes.Paragraph node u

-- the atoms that are no leaf
abbrev pub IsOther : (Node → List Mark → Type 0) → Node → List Mark → Type 0
IsOther IsGroup node u = IsLoose node u ⊎ IsGroup node u

pub other_shape : (IsGroup : Node → List Mark → Type 0) → Shape (IsEither IsLoose IsGroup) (IsOther IsGroup)
other_shape IsGroup = record { value = value; there = there; back = back }
  where
    value : Node ⊎ Node → Node
    value (inl node) = node
    value (inr node) = node

    there : (x : Node ⊎ Node) (u : List Mark) → IsEither IsLoose IsGroup x u → IsOther IsGroup (value x) u
    there (inl node) u h = inl h
    there (inr node) u h = inr h

    back : (node : Node) (u : List Mark) → IsOther IsGroup node u → (x : Node ⊎ Node) × IsEither IsLoose IsGroup x u × (value x ≡ node)
    back node u (inl h) = (inl node, h, refl)
    back node u (inr h) = (inr node, h, refl)

-- one item or more
abbrev pub AreItems : (Node → List Mark → Type 0) → List Item → List Mark → Type 0
AreItems IsGroup items u = (items ≢ []) × AreInRow (IsItem IsGroup) items u

module _ (IsGroup : Node → List Mark → Type 0) where
  pub join_shape : Shape (IsEither IsLeaves (IsOther IsGroup)) (IsJoin IsGroup)
  join_shape = record { value = value; there = there; back = back }
    where
      value : Node ⊎ Node → Node
      value (inl node) = node
      value (inr node) = node

      there : (x : Node ⊎ Node) (u : List Mark) → IsEither IsLeaves (IsOther IsGroup) x u → IsJoin IsGroup (value x) u
      there (inl node) u (inl h) = inl h
      there (inl node) u (inr (inl h)) = inr (inr (inl h))
      there (inl node) u (inr (inr h)) = inr (inr (inr (inl h)))
      there (inr node) u (inl h) = inr (inl h)
      there (inr node) u (inr h) = inr (inr (inr (inr h)))

      back : (node : Node) (u : List Mark) → IsJoin IsGroup node u → (x : Node ⊎ Node) × IsEither IsLeaves (IsOther IsGroup) x u × (value x ≡ node)
      back node u (inl h) = (inl node, inl h, refl)
      back node u (inr (inl h)) = (inr node, inl h, refl)
      back node u (inr (inr (inl h))) = (inl node, inr (inl h), refl)
      back node u (inr (inr (inr (inl h)))) = (inl node, inr (inr h), refl)
      back node u (inr (inr (inr (inr h)))) = (inr node, inr h, refl)

  -- `|` and MAYBE.
  abbrev pub IsChosen : Node ⊎ Node → List Mark → Type 0
  IsChosen = IsEither (λ node. Is signs.Or then IsJoin IsGroup node) (λ node. Is signs.Maybe then IsJoin IsGroup node)

  pub choice_shape : Shape IsChosen (IsChoice IsGroup)
  choice_shape = record { value = value; there = there; back = back }
    where
      value : Node ⊎ Node → Bool × Node
      value (inl node) = (true, node)
      value (inr node) = (false, node)

      there : (x : Node ⊎ Node) (u : List Mark) → IsChosen x u → IsChoice IsGroup (value x) u
      there (inl node) u h = h
      there (inr node) u h = h

      back : (y : Bool × Node) (u : List Mark) → IsChoice IsGroup y u → (x : Node ⊎ Node) × IsChosen x u × (value x ≡ y)
      back (true, node) u h = (inl node, h, refl)
      back (false, node) u h = (inr node, h, refl)

  pub alternatives_shape : Shape (λ (x : Node × List (Bool × Node)). IsJoin IsGroup x.0 then AreInRow (IsChoice IsGroup) x.1) (IsAlt IsGroup)
  alternatives_shape = record {
    value = λ x. chosen x.0 x.1;
    there = λ x u h. (x.0, x.1, refl, h);
    back = λ node u (first, rest, e, h). ((first, rest), h, sym e);
  }

  -- Items, and their sections.
  abbrev pub IsItemPart : Node ⊎ Node → List Mark → Type 0
  IsItemPart = IsEither (λ node. Is signs.Not then IsJoin IsGroup node) (IsAlt IsGroup)

  pub item_shape : Shape IsItemPart (IsItem IsGroup)
  item_shape = record { value = value; there = there; back = back }
    where
      value : Node ⊎ Node → Item
      value (inl node) = record { negated = true; node = node }
      value (inr node) = record { negated = false; node = node }

      there : (x : Node ⊎ Node) (u : List Mark) → IsItemPart x u → IsItem IsGroup (value x) u
      there (inl node) u h = inl (refl, h)
      there (inr node) u h = inr (refl, h)

      back : (item : Item) (u : List Mark) → IsItem IsGroup item u → (x : Node ⊎ Node) × IsItemPart x u × (value x ≡ item)
      back item u (inl (e, h)) = (inl item.node, h, ap (λ (b : Bool). record { negated = b; node = item.node }) (sym e))
      back item u (inr (e, h)) = (inr item.node, h, ap (λ (b : Bool). record { negated = b; node = item.node }) (sym e))

  pub items_shape : Shape (λ (x : Item × List Item). IsItem IsGroup x.0 then AreInRow (IsItem IsGroup) x.1) (AreItems IsGroup)
  items_shape = record { value = value; there = λ x u h. (λ e. cc, h); back = back }
    where
      value : Item × List Item → List Item
      value x = x.0 ∷ x.1

      back : (items : List Item) (u : List Mark) → AreItems IsGroup items u → (x : Item × List Item) × (IsItem IsGroup x.0 then AreInRow (IsItem IsGroup) x.1) u × (value x ≡ items)
      back [] u (some, h) = absurd (some refl)
      back (item ∷ items) u (some, h) = ((item, items), h, refl)

  pub section_shape : Shape (λ (x : List (Option (List ℕ)) × List Item). AreInRow IsLimit x.0 then AreItems IsGroup x.1) (IsSection IsGroup true)
  section_shape = record { value = value; there = there; back = back }
    where
      value : List (Option (List ℕ)) × List Item → Section
      value x = record { span = last_of None x.0; items = x.1 }

      there : (x : List (Option (List ℕ)) × List Item) (u : List Mark) → (AreInRow IsLimit x.0 then AreItems IsGroup x.1) u → IsSection IsGroup true (value x) u
      there x u (a, b, e, limits, (some, items)) = (x.0, inl refl, refl, some, (a, b, e, limits, items))

      back : (section : Section) (u : List Mark) → IsSection IsGroup true section u → (x : List (Option (List ℕ)) × List Item) × (AreInRow IsLimit x.0 then AreItems IsGroup x.1) u × (value x ≡ section)
      back section u (list, _, span, some, (a, b, e, limits, items)) =
          ((list, section.items), (a, b, e, limits, (some, items)), ap (λ (s : Option (List ℕ)). record { span = s; items = section.items }) (sym span))

  -- a further section of an AND
  abbrev pub IsFurther : Option (List ℕ) × (List (Option (List ℕ)) × List Item) → List Mark → Type 0
  IsFurther x = IsLimit x.0 then AreInRow IsLimit x.1.0 then AreItems IsGroup x.1.1

  pub further_shape : Shape IsFurther (IsSection IsGroup false)
  further_shape = record { value = value; there = there; back = back }
    where
      value : Option (List ℕ) × (List (Option (List ℕ)) × List Item) → Section
      value x = record { span = last_of None (x.0 ∷ x.1.0); items = x.1.1 }

      there : (x : Option (List ℕ) × (List (Option (List ℕ)) × List Item)) (u : List Mark) → IsFurther x u → IsSection IsGroup false (value x) u
      there x u (a, bd, e, limit, (b, d, f, limits, (some, items))) =
          (x.0 ∷ x.1.0, inr (λ e. cc), refl, some, (a ++ b, d, e ∙ ap (λ w. a ++ w) f ∙ sym (append_assoc a b d), (a, b, refl, limit, limits), items))

      back : (section : Section) (u : List Mark) → IsSection IsGroup false section u → (x : Option (List ℕ) × (List (Option (List ℕ)) × List Item)) × IsFurther x u × (value x ≡ section)
      back section u (list, inl never, span, some, h) = absurd cc
      back section u ([], inr some_limit, span, some, h) = absurd (some_limit refl)
      back section u (limit ∷ list, inr _, span, some, (ab, d, e, (a, b, f, first, limits), items)) =
          ((limit, (list, section.items)), (a, b ++ d, e ∙ ap (λ w. w ++ d) f ∙ append_assoc a b d, first, (b, d, refl, limits, (some, items))), ap (λ (s : Option (List ℕ)). record { span = s; items = section.items }) (sym span))

  -- ANDs and expressions.
  abbrev pub AreSections : Section × List Section → List Mark → Type 0
  AreSections x = IsSection IsGroup true x.0 then AreInRow (IsSection IsGroup false) x.1

  pub and_shape : Shape AreSections (IsAndNode Any IsGroup)
  and_shape = record { value = value; there = λ x u h. (x.0 ∷ x.1, tt, refl, h); back = back }
    where
      value : Section × List Section → Node
      value x = node_of (all_items (x.0 ∷ x.1))

      back : (node : Node) (u : List Mark) → IsAndNode Any IsGroup node u → (x : Section × List Section) × AreSections x u × (value x ≡ node)
      back node u ([], _, e, h) = absurd h
      back node u (section ∷ sections, _, e, h) = ((section, sections), h, sym e)

  abbrev pub IsNext : Node ⊎ ℕ × Node → List Mark → Type 0
  IsNext = IsEither (λ node. Is signs.Before then IsAndNode Any IsGroup node) (λ (x : ℕ × Node). Is (signs.Near x.0) then IsAndNode Any IsGroup x.1)

  abbrev pub IsOrdered : Option ℕ × Node → List Mark → Type 0
  IsOrdered next = IsOrder next.0 then IsAndNode Any IsGroup next.1

  pub next_shape : Shape IsNext IsOrdered
  next_shape = record { value = value; there = there; back = back }
    where
      value : Node ⊎ ℕ × Node → Option ℕ × Node
      value (inl node) = (None, node)
      value (inr (n, node)) = (Some n, node)

      there : (x : Node ⊎ ℕ × Node) (u : List Mark) → IsNext x u → IsOrdered (value x) u
      there (inl node) u h = h
      there (inr (n, node)) u h = h

      back : (y : Option ℕ × Node) (u : List Mark) → IsOrdered y u → (x : Node ⊎ ℕ × Node) × IsNext x u × (value x ≡ y)
      back (None, node) u h = (inl node, h, refl)
      back (Some n, node) u h = (inr (n, node), h, refl)

  pub expr_shape : Shape (λ (x : Node × List (Option ℕ × Node)). IsAndNode Any IsGroup x.0 then AreInRow IsOrdered x.1) (IsExpr Any IsGroup)
  expr_shape = record {
    value = λ x. ordered x.0 x.1;
    there = λ x u h. (x.0, x.1, refl, h);
    back = λ node u (first, rest, e, h). ((first, rest), h, sym e);
  }
