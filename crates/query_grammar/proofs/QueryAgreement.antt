-- The grammar of queries stands twice, as expressions over classes of marks and as a relation of values: at each depth the texts
-- of the one are those that have a value by the other. An AND of negated items alone is let pass.
use Rattle.std.proofs.Common.{◌≡◌, ℕ, zero, suc, List, [], ◌∷◌, ◌++◌, true, false, Option, Some, None, ◌⊎◌, inl, inr, refl, sym, ◌∙◌, ap, subst, append-nil}
use Rattle.token_grammar.specs.Language.{Re, one, repeated, ◌⨾◌}
use Rattle.token_grammar.specs.Values.{◌then◌, AreInRow}
use Rattle.token_grammar.proofs.Agreement.{Agree, Agrees, IsEither, agree_one, agree_seq, agree_alt, agree_or, agree_as, agree_after, agree_before, agree_perhaps, agree_row}
use Rattle.query_marks.specs.declared.mark.Mark.{Mark}
use Rattle.query_marks.specs.declared.mark.Sign.{Sign}
use Rattle.query_marks.specs.declared.mark.Sign.TheVariants as signs
use Rattle.query_grammar.specs.declared.class.Class.{Class}
use Rattle.query_grammar.specs.declared.class.Class.TheVariants as classes
use Rattle.query_tree.specs.declared.query.Node.{Node}
use Rattle.query_tree.specs.declared.query.Node.TheVariants as nodes
use Rattle.query_tree.specs.declared.key.How.TheVariants as hows
use Rattle.query_grammar.specs.Grammar.{Is, IsLeaf, IsLoose, joined, IsJoin, IsAlt, IsItem, IsLimit, IsSection, IsAndNode, IsExpr, IsGroup, IsQuery}
use Rattle.query_grammar.specs.QueryFaults.{Any}
use Rattle.query_grammar.specs.steps.Classes.{class_of}
use Rattle.query_grammar.specs.steps.MarkAlphabet.{query_marks}
use Rattle.query_grammar.specs.steps.QueryGrammar.{leaf, leaves, join_of, alternatives_of, item_of, items_of, section_of, and_of, expr_of, others, query}
use Rattle.query_grammar.proofs.MarkSigns.{IsOf, sign_is, class_fits}
use Rattle.query_grammar.proofs.QueryShapes.{Shape, LeafMark, leaf_fits, leaf_shape, LooseMark, loose_fits, loose_shape, LimitMark, limit_fits, limit_shape, IsLeaves, IsOther, AreItems, join_shape, choice_shape, alternatives_shape, item_shape, items_shape, section_shape, further_shape, and_shape, next_shape, expr_shape}

pub agree_by : {A B : Type 0} {r : Re Class} {P : A → List Mark → Type 0} {Q : B → List Mark → Type 0} → Agree query_marks r P → Shape P Q → Agree query_marks r Q
agree_by h shape = agree_as h (λ x u p. (shape.value x, shape.there x u p)) (λ y u q. let (x, p, e) = shape.back y u q in (x, p))

-- Single marks.
pub agree_sign : (sign : Sign) → ((m : Mark) → IsOf (class_of sign) m.sign → m.sign ≡ sign) → Agrees query_marks (one (class_of sign)) (Is sign)
agree_sign sign only = agree_one query_marks (class_of sign) (λ _ m. m.sign ≡ sign) (λ x m h. class_fits sign m h) (λ m fit. (tt, only m (sign_is (class_of sign) m fit)))

pub agree_leaf : Agree query_marks leaf IsLeaf
agree_leaf = agree_by (agree_one query_marks classes.Leaf LeafMark leaf_fits value) leaf_shape
  where
    value : (m : Mark) → query_marks.fits classes.Leaf m ≡ true → (node : Node) × LeafMark node m
    value m fit = elim (sign_is classes.Leaf m fit) [
      | inl h ↦ (nodes.Word h.0, inl (h.0, refl, h.1))
      | inr h ↦ (nodes.Quoted h.0 hows.Phrase, inr (h.0, refl, h.1))
    ]

pub agree_loose : Agree query_marks (one classes.Loose) IsLoose
agree_loose = agree_by (agree_one query_marks classes.Loose LooseMark loose_fits value) loose_shape
  where
    value : (m : Mark) → query_marks.fits classes.Loose m ≡ true → (node : Node) × LooseMark node m
    value m fit = let (keys, how, s) = sign_is classes.Loose m fit in (nodes.Quoted keys how, (keys, how, refl, s))

pub agree_limit : Agree query_marks (one classes.Limit) IsLimit
agree_limit = agree_by (agree_one query_marks classes.Limit LimitMark limit_fits value) limit_shape
  where
    value : (m : Mark) → query_marks.fits classes.Limit m ≡ true → (limit : Option (List ℕ)) × LimitMark limit m
    value m fit = elim (sign_is classes.Limit m fit) [ inl s ↦ (None, s) | inr h ↦ (Some h.0, h.1) ]

pub agree_near : Agree query_marks (one classes.Near) (λ n. Is (signs.Near n))
agree_near = agree_one query_marks classes.Near (λ n m. m.sign ≡ signs.Near n) (λ n m s. class_fits (signs.Near n) m s) (λ m fit. sign_is classes.Near m fit)

-- Leaves in a row.
pub agree_joined : (sign : Sign) → ((m : Mark) → IsOf (class_of sign) m.sign → m.sign ≡ sign) → Agree query_marks (repeated (class_of sign) leaf) (AreInRow (λ node. Is sign then IsLeaf node))
agree_joined sign only = agree_row (agree_after (agree_sign sign only) agree_leaf)

abbrev IsRest : List Node ⊎ List Node → List Mark → Type 0
IsRest = IsEither (AreInRow (λ node. Is signs.Sentence then IsLeaf node)) (AreInRow (λ node. Is signs.Paragraph then IsLeaf node))

pub agree_leaves : Agree query_marks leaves IsLeaves
agree_leaves = agree_as (agree_seq agree_leaf (agree_or (agree_joined signs.Sentence (λ m h. h)) (agree_joined signs.Paragraph (λ m h. h)))) there back
  where
    single : (node : Node) (u a b : List Mark) → u ≡ a ++ b → b ≡ [] → IsLeaf node a → IsLeaf node u
    single node u a b e none h = subst (λ w. IsLeaf node w) (sym (e ∙ ap (λ w. a ++ w) none ∙ append-nil a)) h

    there : (x : Node × (List Node ⊎ List Node)) (u : List Mark) → (IsLeaf x.0 then IsRest x.1) u → (y : Node) × IsLeaves y u
    there (first, inl []) u (a, b, e, h, none) = (first, inl (single first u a b e none h))
    there (first, inr []) u (a, b, e, h, none) = (first, inl (single first u a b e none h))
    there (first, inl (next ∷ rest)) u h = (joined nodes.Sentence first (next ∷ rest), inr (inl (first, next ∷ rest, (λ e. cc), refl, h)))
    there (first, inr (next ∷ rest)) u h = (joined nodes.Paragraph first (next ∷ rest), inr (inr (first, next ∷ rest, (λ e. cc), refl, h)))

    back : (y : Node) (u : List Mark) → IsLeaves y u → (x : Node × (List Node ⊎ List Node)) × (IsLeaf x.0 then IsRest x.1) u
    back node u (inl h) = ((node, inl []), (u, [], sym (append-nil u), h, refl))
    back node u (inr (inl (first, rest, several, e, h))) = ((first, inl rest), h)
    back node u (inr (inr (first, rest, several, e, h))) = ((first, inr rest), h)

module _ (IsGroup : Node → List Mark → Type 0) (o : Re Class) (other : Agree query_marks o (IsOther IsGroup)) where
  pub agree_join : Agree query_marks (join_of o) (IsJoin IsGroup)
  agree_join = agree_by (agree_or agree_leaves other) (join_shape IsGroup)

  pub agree_alternatives : Agree query_marks (alternatives_of o) (IsAlt IsGroup)
  agree_alternatives =
      agree_by (agree_seq agree_join (agree_row (agree_by (agree_or (agree_after (agree_sign signs.Or (λ m h. h)) agree_join) (agree_after (agree_sign signs.Maybe (λ m h. h)) agree_join)) (choice_shape IsGroup)))) (alternatives_shape IsGroup)

  pub agree_item : Agree query_marks (item_of o) (IsItem IsGroup)
  agree_item = agree_by (agree_or (agree_after (agree_sign signs.Not (λ m h. h)) agree_join) agree_alternatives) (item_shape IsGroup)

  pub agree_items : Agree query_marks (items_of o) (AreItems IsGroup)
  agree_items = agree_by (agree_seq agree_item (agree_row agree_item)) (items_shape IsGroup)

  pub agree_section : Agree query_marks (section_of o) (IsSection IsGroup true)
  agree_section = agree_by (agree_seq (agree_row agree_limit) agree_items) (section_shape IsGroup)

  pub agree_further : Agree query_marks (one classes.Limit ⨾ section_of o) (IsSection IsGroup false)
  agree_further = agree_by (agree_seq agree_limit (agree_seq (agree_row agree_limit) agree_items)) (further_shape IsGroup)

  pub agree_and : Agree query_marks (and_of o) (IsAndNode Any IsGroup)
  agree_and = agree_by (agree_seq agree_section (agree_row agree_further)) (and_shape IsGroup)

  pub agree_expr : Agree query_marks (expr_of o) (IsExpr Any IsGroup)
  agree_expr =
      agree_by (agree_seq agree_and (agree_row (agree_by (agree_or (agree_after (agree_sign signs.Before (λ m h. h)) agree_and) (agree_seq agree_near agree_and)) (next_shape IsGroup)))) (expr_shape IsGroup)

-- Groups, by their depth.
pub agree_group : (depth : ℕ) → Agree query_marks (others depth) (IsOther (IsGroup Any depth)) → Agree query_marks (one classes.Open ⨾ expr_of (others depth) ⨾ one classes.Close) (IsGroup Any (suc depth))
unfolding IsGroup
agree_group depth other =
    agree_after (agree_sign signs.Open (λ m h. h)) (agree_before (agree_expr (IsGroup Any depth) (others depth) other) (agree_sign signs.Close (λ m h. h)))

pub agree_others : (depth : ℕ) → Agree query_marks (others depth) (IsOther (IsGroup Any depth))
unfolding IsGroup others
agree_others zero = agree_as agree_loose (λ node u h. (node, inl h)) (λ node u h. (node, elim h [ inl loose ↦ loose | inr never ↦ absurd never ]))
agree_others (suc depth) = agree_alt agree_loose (agree_group depth (agree_others depth)) (λ node u h. h) (λ node u h. h)

pub query_agrees : (depth : ℕ) → Agree query_marks (query depth) (IsQuery Any depth)
unfolding query
query_agrees depth =
    agree_after (agree_perhaps (agree_sign signs.Relaxed (λ m h. h))) (agree_before (agree_expr (IsGroup Any depth) (others depth) (agree_others depth)) (agree_sign signs.End (λ m h. h)))
