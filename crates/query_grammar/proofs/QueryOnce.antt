-- Marks stand for one query at most. Each part carries its expression, and inside `(` any expression will do: what may follow a
-- part then computes at each depth. An AND of negated items alone is let pass.
use Rattle.std.proofs.Common.{◌≡◌, ℕ, zero, suc, List, [], ◌∷◌, ◌++◌, true, false, Option, Some, None, ◌⊎◌, inl, inr, refl, sym, append-nil}
use Rattle.token_grammar.specs.Language.{Re, empty, one, many, optional, In, ◌⨾◌, ◌∣◌}
use Rattle.token_grammar.specs.Values.{◌then◌, IsGiven, AreInRow}
use Rattle.token_grammar.proofs.Agreement.{IsEither}
use Rattle.token_grammar.proofs.Once.{Once, IsOnce, once_one, once_wider, once_seq, once_as, once_after, once_before}
use Rattle.token_grammar.proofs.OnceChoices.{once_either, once_optional, once_perhaps, once_row}
use Rattle.query_marks.specs.declared.mark.Mark.{Mark}
use Rattle.query_marks.specs.declared.mark.Sign.{Sign}
use Rattle.query_marks.specs.declared.mark.Sign.TheVariants as signs
use Rattle.query_grammar.specs.declared.class.Class.{Class}
use Rattle.query_grammar.specs.declared.class.Class.TheVariants as classes
use Rattle.query_tree.specs.declared.query.Node.{Node}
use Rattle.query_tree.specs.declared.query.Node.TheVariants as nodes
use Rattle.query_grammar.specs.Grammar.{Is, IsLeaf, IsLoose, joined, IsJoin, IsAlt, IsItem, IsLimit, IsSection, IsAndNode, IsExpr, IsGroup, IsQuery}
use Rattle.query_grammar.specs.QueryFaults.{Any}
use Rattle.query_grammar.specs.steps.Classes.{class_of}
use Rattle.query_grammar.specs.steps.MarkAlphabet.{query_marks}
use Rattle.query_grammar.specs.steps.QueryGrammar.{leaf, leaves, join_of, alternatives_of, item_of, items_of, section_of, and_of, expr_of}
use Rattle.query_grammar.proofs.MarkSigns.{class_fits}
use Rattle.query_grammar.proofs.QueryShapes.{Shape, LeafMark, leaf_fits, leaf_shape, LooseMark, loose_fits, loose_shape, LimitMark, limit_fits, limit_shape, IsLeaves, IsOther, other_shape, AreItems, join_shape, choice_shape, alternatives_shape, item_shape, items_shape, section_shape, further_shape, and_shape, next_shape, expr_shape}
use Rattle.query_grammar.proofs.QueryAgreement.{agree_leaves}

once_by : {A B : Type 0} {r : Re Class} {cs : List Class} {P : A → List Mark → Type 0} {Q : B → List Mark → Type 0} → Once query_marks r cs P → Shape P Q → Once query_marks r cs Q
once_by h shape = once_as h shape.value shape.back

-- Single marks.
once_sign : (sign : Sign) → IsOnce query_marks (one (class_of sign)) [] (Is sign)
once_sign sign = once_one query_marks (class_of sign) (λ _ m. m.sign ≡ sign) (λ x m h. class_fits sign m h) (λ x y m h k. refl)

once_leaf : Once query_marks leaf [] IsLeaf
once_leaf = once_by (once_one query_marks classes.Leaf LeafMark leaf_fits same) leaf_shape
  where
    same : (x y : Node) (m : Mark) → LeafMark x m → LeafMark y m → x ≡ y
    same x y m (inl (key, n, s)) (inl (other_key, n', s')) = cc
    same x y m (inl (key, n, s)) (inr (keys, n', s')) = cc
    same x y m (inr (keys, n, s)) (inl (key, n', s')) = cc
    same x y m (inr (keys, n, s)) (inr (other_keys, n', s')) = cc

once_loose : Once query_marks (one classes.Loose) [] IsLoose
once_loose = once_by (once_one query_marks classes.Loose LooseMark loose_fits same) loose_shape
  where
    same : (x y : Node) (m : Mark) → LooseMark x m → LooseMark y m → x ≡ y
    same x y m (keys, how, n, s) (other_keys, other_how, n', s') = cc

once_limit : Once query_marks (one classes.Limit) [] IsLimit
once_limit = once_by (once_one query_marks classes.Limit LimitMark limit_fits same) limit_shape
  where
    same : (x y : Option (List ℕ)) (m : Mark) → LimitMark x m → LimitMark y m → x ≡ y
    same None None m s s' = refl
    same None (Some zones) m s s' = cc
    same (Some zones) None m s s' = cc
    same (Some zones) (Some other_zones) m s s' = cc

once_near : Once query_marks (one classes.Near) [] (λ n. Is (signs.Near n))
once_near = once_one query_marks classes.Near (λ n m. m.sign ≡ signs.Near n) (λ n m s. class_fits (signs.Near n) m s) (λ n k m s s'. cc)

-- Leaves in a row. A leaf alone is one without SENTENCE, and not one without PARAGRAPH too.
abbrev AreAfter : Sign → Node × List Node → List Mark → Type 0
AreAfter sign x = (Is sign then IsLeaf x.0) then AreInRow (λ node. Is sign then IsLeaf node) x.1

abbrev after_class : Class → Re Class
after_class c = (one c ⨾ leaf) ⨾ many (one c ⨾ leaf)

once_after_sign : (sign : Sign) → Once query_marks (after_class (class_of sign)) (class_of sign ∷ []) (AreAfter sign)
once_after_sign sign = once_seq next (once_row next refl refl) refl
  where
    next : Once query_marks (one (class_of sign) ⨾ leaf) [] (λ node. Is sign then IsLeaf node)
    next = once_after (once_sign sign) once_leaf refl

abbrev IsRest : Option (Node × List Node ⊎ Node × List Node) → List Mark → Type 0
IsRest = IsGiven (IsEither (AreAfter signs.Sentence) (AreAfter signs.Paragraph))

abbrev joins : List Class
joins = classes.Sentence ∷ classes.Paragraph ∷ []

once_leaves : Once query_marks leaves joins IsLeaves
once_leaves = record { text = agree_leaves.text; once = apart.once }
  where
    value : Node × Option (Node × List Node ⊎ Node × List Node) → Node
    value (first, None) = first
    value (first, Some (inl (next, rest))) = joined nodes.Sentence first (next ∷ rest)
    value (first, Some (inr (next, rest))) = joined nodes.Paragraph first (next ∷ rest)

    back : (node : Node) (u : List Mark) → IsLeaves node u → (x : Node × Option (Node × List Node ⊎ Node × List Node)) × (IsLeaf x.0 then IsRest x.1) u × (value x ≡ node)
    back node u (inl h) = ((node, None), (u, [], sym (append-nil u), h, refl), refl)
    back node u (inr (inl (first, [], several, e, h))) = absurd (several refl)
    back node u (inr (inl (first, next ∷ rest, several, e, h))) = ((first, Some (inl (next, rest))), h, sym e)
    back node u (inr (inr (first, [], several, e, h))) = absurd (several refl)
    back node u (inr (inr (first, next ∷ rest, several, e, h))) = ((first, Some (inr (next, rest))), h, sym e)

    apart : Once query_marks (leaf ⨾ optional (after_class classes.Sentence ∣ after_class classes.Paragraph)) joins IsLeaves
    apart =
        once_wider (once_as (once_seq once_leaf (once_optional (once_either (once_after_sign signs.Sentence) (once_after_sign signs.Paragraph) refl refl refl) refl) refl) value back) refl

-- the atoms that are no leaf, with anything inside `(`
abbrev others_of : Re Class → Re Class
others_of inside = one classes.Loose ∣ one classes.Open ⨾ inside

abbrev choices : List Class
choices = classes.Or ∷ classes.Maybe ∷ joins

abbrev more_items : List Class
more_items = classes.Not ∷ classes.Leaf ∷ classes.Loose ∷ classes.Open ∷ choices

abbrev more_sections : List Class
more_sections = classes.Limit ∷ more_items

abbrev more_ands : List Class
more_ands = classes.Before ∷ classes.Near ∷ more_sections

module _ (IsInner : Node → List Mark → Type 0) (inside : Re Class) (other : Once query_marks (others_of inside) [] (IsOther IsInner)) where
  once_join : Once query_marks (join_of (others_of inside)) joins (IsJoin IsInner)
  once_join = once_by (once_either once_leaves other refl refl refl) (join_shape IsInner)

  once_alternatives : Once query_marks (alternatives_of (others_of inside)) choices (IsAlt IsInner)
  once_alternatives = once_wider (once_by (once_seq once_join (once_row (once_by choice (choice_shape IsInner)) refl refl) refl) (alternatives_shape IsInner)) refl
    where
      choice : Once query_marks (one classes.Or ⨾ join_of (others_of inside) ∣ one classes.Maybe ⨾ join_of (others_of inside)) (joins ++ joins) (IsEither (λ node. Is signs.Or then IsJoin IsInner node) (λ node. Is signs.Maybe then IsJoin IsInner node))
      choice = once_either (once_after (once_sign signs.Or) once_join refl) (once_after (once_sign signs.Maybe) once_join refl) refl refl refl

  once_item : Once query_marks (item_of (others_of inside)) choices (IsItem IsInner)
  once_item = once_wider (once_by (once_either (once_after (once_sign signs.Not) once_join refl) once_alternatives refl refl refl) (item_shape IsInner)) refl

  once_items : Once query_marks (items_of (others_of inside)) more_items (AreItems IsInner)
  once_items = once_wider (once_by (once_seq once_item (once_row once_item refl refl) refl) (items_shape IsInner)) refl

  once_section : Once query_marks (section_of (others_of inside)) more_items (IsSection IsInner true)
  once_section = once_by (once_seq (once_row once_limit refl refl) once_items refl) (section_shape IsInner)

  once_further : Once query_marks (one classes.Limit ⨾ section_of (others_of inside)) more_items (IsSection IsInner false)
  once_further = once_by (once_seq once_limit (once_seq (once_row once_limit refl refl) once_items refl) refl) (further_shape IsInner)

  once_and : Once query_marks (and_of (others_of inside)) more_sections (IsAndNode Any IsInner)
  once_and = once_wider (once_by (once_seq once_section (once_row once_further refl refl) refl) (and_shape IsInner)) refl

  once_expr : Once query_marks (expr_of (others_of inside)) more_ands (IsExpr Any IsInner)
  once_expr = once_wider (once_by (once_seq once_and (once_row (once_by next (next_shape IsInner)) refl refl) refl) (expr_shape IsInner)) refl
    where
      next : Once query_marks (one classes.Before ⨾ and_of (others_of inside) ∣ one classes.Near ⨾ and_of (others_of inside)) (more_sections ++ more_sections) (IsEither (λ node. Is signs.Before then IsAndNode Any IsInner node) (λ (x : ℕ × Node). Is (signs.Near x.0) then IsAndNode Any IsInner x.1))
      next = once_either (once_after (once_sign signs.Before) once_and refl) (once_seq once_near once_and refl) refl refl refl

-- Groups, by their depth.
inside_of : ℕ → Re Class
inside_of zero = empty
inside_of (suc depth) = expr_of (others_of (inside_of depth)) ⨾ one classes.Close

once_group : (depth : ℕ) → Once query_marks (others_of (inside_of depth)) [] (IsOther (IsGroup Any depth)) → Once query_marks (one classes.Open ⨾ inside_of (suc depth)) [] (IsGroup Any (suc depth))
unfolding IsGroup inside_of
once_group depth other =
    once_after (once_sign signs.Open) (once_before (once_expr (IsGroup Any depth) (inside_of depth) other) (once_sign signs.Close) refl) refl

once_others : (depth : ℕ) → Once query_marks (others_of (inside_of depth)) [] (IsOther (IsGroup Any depth))
unfolding IsGroup In
once_others zero = record { text = λ node u h. text node u h; once = (once_as once_loose (λ node. node) (λ node u h. (node, loose node u h, refl))).once }
  where
    loose : (node : Node) (u : List Mark) → IsOther (IsGroup Any zero) node u → IsLoose node u
    loose node u (inl h) = h
    loose node u (inr never) = absurd never

    text : (node : Node) (u : List Mark) → IsOther (IsGroup Any zero) node u → In query_marks (others_of (inside_of zero)) u
    text node u h = inl (once_loose.text node u (loose node u h))
once_others (suc depth) = once_by (once_either once_loose (once_group depth (once_others depth)) refl refl refl) (other_shape (IsGroup Any (suc depth)))

pub one_query : (depth : ℕ) (a b : Node) (u : List Mark) → IsQuery Any depth a u → IsQuery Any depth b u → a ≡ b
one_query depth a b u h k = (whole.once a b u u [] [] h k refl tt tt).0
  where
    whole : Once query_marks (optional (one classes.Relaxed) ⨾ expr_of (others_of (inside_of depth)) ⨾ one classes.End) [] (IsQuery Any depth)
    whole = once_after (once_perhaps (once_sign signs.Relaxed) refl) (once_before (once_expr (IsGroup Any depth) (inside_of depth) (once_others depth)) (once_sign signs.End) refl) refl
