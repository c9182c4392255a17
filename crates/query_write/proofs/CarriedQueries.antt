-- A query whose marks carry its keywords one after the other can be written: sections, ANDs, groups, and the whole.
use Rattle.std.proofs.Common.{arith, ◌≡◌, ℕ, zero, suc, List, [], ◌∷◌, ◌++◌, Bool, true, false, ◌||◌, not, Option, Some, None, inl, inr, refl, sym, ◌∙◌, ap, subst, append_assoc}
use Rattle.std.specs.Prelude.{◌⊎◌, IsTrue}
use Rattle.token_grammar.specs.Values.{◌then◌, AreInRow}
use Rattle.doc_types.specs.declared.schema.Schema.{Schema}
use Rattle.query_tree.specs.declared.key.Limit.{Limit}
use Rattle.query_marks.specs.declared.mark.Mark.{Mark}
use Rattle.query_marks.specs.declared.mark.Sign.TheVariants as signs
use Rattle.query_tree.specs.declared.query.Item.{Item}
use Rattle.query_tree.specs.declared.query.Node.{Node}
use Rattle.query_tree.specs.declared.query.Node.TheVariants as nodes
use Rattle.query_grammar.specs.Grammar.{Is, Section, IsLimit, last_of, IsSection, node_of, items_of, all_items, IsAnd, has_item, IsOpenAnd, IsOrder, ordered, IsAndNode, IsExpr, IsGroup, IsQuery}
use Rattle.query_write.specs.steps.TokenRun.{AreRightZones}
use Rattle.query_write.specs.steps.Writable.{IsRightLimit, IsWritable, AreWritable, of_items, of_before, of_near, of_span, no_items, more_items}
use Rattle.query_write.specs.steps.Carried.{Carries}
use Rattle.query_write.proofs.CarriedTrees.{Makes, carries_both, carries_right, one_step, items_make}

-- the zones of a ZONESPAN can be written
abbrev IsRightSpan : Schema → Option (List ℕ) → Type 0
IsRightSpan schema None = Unit {0}
IsRightSpan schema (Some zones) = AreRightZones schema zones

-- each ZONESPAN of the sections has an item that isn't negated
abbrev AreOpen : List Section → Type 0
AreOpen [] = Unit {0}
AreOpen (section ∷ sections) = ((zones : List ℕ) → section.span ≡ Some zones → has_item section.items ≡ true) × AreOpen sections

are_open : (before rest : List Section) → ((section : Section) → (zones : List ℕ) → (a b : List Section) → before ++ rest ≡ a ++ section ∷ b → section.span ≡ Some zones → IsTrue (has_item section.items)) → AreOpen rest
are_open before [] h = tt
are_open before (section ∷ rest) h =
    let moved = append_assoc before (section ∷ []) rest in
    ((λ zones e. h section zones before rest refl e), are_open (before ++ section ∷ []) rest (λ other zones a b e f. h other zones a b (sym moved ∙ e) f))

module _ (fold : ℕ → Option ℕ) (schema : Schema) where
  items_append : (n : ℕ) (a : List Item) (k : ℕ) (b : List Item) (m : ℕ) → AreWritable fold schema n a k → AreWritable fold schema k b m → AreWritable fold schema n (a ++ b) m
  items_append _ _ _ b m (no_items n) second = second
  items_append _ _ _ b m (more_items n item j items k is are) second = more_items n item j (items ++ b) m is (items_append j items k b m are second)

  -- the node of items
  alone : (n : ℕ) (item : Item) (m : ℕ) (b : Bool) → item.negated ≡ b → has_item (item ∷ []) ≡ true → IsWritable fold schema n item.node m → IsWritable fold schema n (elim b [ true ↦ nodes.And (item ∷ []) | false ↦ item.node ]) m
  alone n item m true e has is =
      let none : has_item (item ∷ []) ≡ false = ap (λ b. not b || false) e in
      cc
  alone n item m false e has is = is

  one_item : (n : ℕ) (item : Item) (m : ℕ) → AreWritable fold schema n (item ∷ []) m → IsWritable fold schema n item.node m
  one_item _ _ _ (more_items n item k _ m is are) = last k m is are
    where
      last : (k m : ℕ) → IsWritable fold schema n item.node k → AreWritable fold schema k [] m → IsWritable fold schema n item.node m
      last _ _ is (no_items k) = is

  node_makes : (n : ℕ) (items : List Item) (m : ℕ) → AreWritable fold schema n items m → has_item items ≡ true → IsWritable fold schema n (node_of items) m
  node_makes n [] m are has = cc
  node_makes n (item ∷ []) m are has = alone n item m item.negated refl has (one_item n item m are)
  node_makes n (item ∷ other ∷ items) m are has = of_items n (item ∷ other ∷ items) m (omega arith) has are

  -- ---- sections
  limit_makes : (n : ℕ) (here : Limit) (span : Option (List ℕ)) (u : List Mark) (m : ℕ) (there : Limit) → IsLimit span u → Carries fold schema n here u m there → (m ≡ n) × IsRightLimit schema there × IsRightSpan schema span
  limit_makes n here None u m there is c =
      let s = one_step fold schema n here signs.Limits u m there is c in
      (s.0, s.1, tt)
  limit_makes n here (Some zones) u m there is c = one_step fold schema n here (signs.Spans zones) u m there is c

  limits_make : (n : ℕ) (here : Limit) (span : Option (List ℕ)) (list : List (Option (List ℕ))) (u : List Mark) (m : ℕ) (there : Limit) → IsRightLimit schema here → IsRightSpan schema span
      → AreInRow IsLimit list u → Carries fold schema n here u m there → (m ≡ n) × IsRightLimit schema there × IsRightSpan schema (last_of span list)
  limits_make n here span [] u m there right spans none c =
      let s = subst (λ v. Carries fold schema n here v m there) none c in
      (s.0, subst (IsRightLimit schema) (sym s.1) right, spans)
  limits_make n here span (next ∷ list) u m there right spans (a, b, e, is, row) c =
      let parts = carries_both fold schema n here u a b m there e c in
      let first = limit_makes n here next a parts.0 parts.1 is parts.2 in
      let rest = limits_make parts.0 parts.1 next list b m there first.1 first.2 row parts.3 in
      (rest.0 ∙ first.0, rest.1, rest.2)

  spanned : (n : ℕ) (span : Option (List ℕ)) (items : List Item) (m : ℕ) → IsRightSpan schema span → ((zones : List ℕ) → span ≡ Some zones → has_item items ≡ true) → AreWritable fold schema n items m → AreWritable fold schema n (items_of span items) m
  spanned n None items m right opens_up are = are
  spanned n (Some zones) items m right opens_up are = more_items n (record { negated = false; node = nodes.ZoneSpan zones (node_of items) }) m [] m (of_span n zones (node_of items) m right (node_makes n items m are (opens_up zones refl))) (no_items m)

  module _ (G : Node → List Mark → Type 0) (group : Makes fold schema G) where
    section_makes : (n : ℕ) (here : Limit) (is_first : Bool) (section : Section) (u : List Mark) (m : ℕ) (there : Limit) → IsRightLimit schema here → ((zones : List ℕ) → section.span ≡ Some zones → has_item section.items ≡ true)
        → IsSection G is_first section u → Carries fold schema n here u m there → AreWritable fold schema n (items_of section.span section.items) m
    section_makes n here is_first section u m there right opens_up (list, begins, span, some, (a, b, e, limits, row)) c =
        let parts = carries_both fold schema n here u a b m there e c in
        let front = limits_make n here None list a parts.0 parts.1 right tt limits parts.2 in
        let are = items_make fold schema G group parts.0 parts.1 section.items b m there front.1 row parts.3 in
        spanned n section.span section.items m (subst (IsRightSpan schema) (sym span) front.2) opens_up (subst (λ j. AreWritable fold schema j section.items m) front.0 are)

    sections_make : (n : ℕ) (here : Limit) (sections : List Section) (u : List Mark) (m : ℕ) (there : Limit) → IsRightLimit schema here → AreOpen sections → AreInRow (IsSection G false) sections u → Carries fold schema n here u m there
        → AreWritable fold schema n (all_items sections) m
    sections_make n here [] u m there right opens_up none c = subst (AreWritable fold schema n []) (sym (subst (λ v. Carries fold schema n here v m there) none c).0) (no_items n)
    sections_make n here (section ∷ sections) u m there right opens_up (a, b, e, is, row) c =
        let parts = carries_both fold schema n here u a b m there e c in
        items_append n (items_of section.span section.items) parts.0 (all_items sections) m (section_makes n here false section a parts.0 parts.1 right opens_up.0 is parts.2)
        (sections_make parts.0 parts.1 sections b m there (carries_right fold schema n here a parts.0 parts.1 right parts.2) opens_up.1 row parts.3)

    and_makes : (n : ℕ) (here : Limit) (sections : List Section) (u : List Mark) (m : ℕ) (there : Limit) → IsRightLimit schema here → AreOpen sections → IsAnd G sections u → Carries fold schema n here u m there
        → AreWritable fold schema n (all_items sections) m
    and_makes n here [] u m there right opens_up is c = absurd is
    and_makes n here (section ∷ sections) u m there right opens_up (a, b, e, is, row) c =
        let parts = carries_both fold schema n here u a b m there e c in
        items_append n (items_of section.span section.items) parts.0 (all_items sections) m (section_makes n here true section a parts.0 parts.1 right opens_up.0 is parts.2)
        (sections_make parts.0 parts.1 sections b m there (carries_right fold schema n here a parts.0 parts.1 right parts.2) opens_up.1 row parts.3)

    and_node_makes : Makes fold schema (IsAndNode IsOpenAnd G)
    and_node_makes n here node u m there right (sections, (has, spans), e, is) c =
        subst (λ x. IsWritable fold schema n x m) (sym e) (node_makes n (all_items sections) m (and_makes n here sections u m there right (are_open [] sections spans) is c) has)

    -- ---- expressions
    orders_make : (n : ℕ) (first : Node) (k : ℕ) (here : Limit) (rest : List (Option ℕ × Node)) (u : List Mark) (m : ℕ) (there : Limit) → IsWritable fold schema n first k → IsRightLimit schema here
        → AreInRow (λ next. IsOrder next.0 then IsAndNode IsOpenAnd G next.1) rest u → Carries fold schema k here u m there → IsWritable fold schema n (ordered first rest) m
    orders_make n first k here [] u m there is right none c = subst (IsWritable fold schema n first) (sym (subst (λ v. Carries fold schema k here v m there) none c).0) is
    orders_make n first k here ((None, node) ∷ rest) u m there is right (a, b, e, (a1, b1, e1, operator, and), row) c =
        let parts = carries_both fold schema k here u a b m there e c in
        let inner = carries_both fold schema k here a a1 b1 parts.0 parts.1 e1 parts.2 in
        let s = one_step fold schema k here signs.Before a1 inner.0 inner.1 operator inner.2 in
        let next = and_node_makes k inner.1 node b1 parts.0 parts.1 s.1 and (subst (λ j. Carries fold schema j inner.1 b1 parts.0 parts.1) s.0 inner.3) in
        orders_make n (nodes.Before first node) parts.0 parts.1 rest b m there (of_before n first k node parts.0 is next) (carries_right fold schema k here a parts.0 parts.1 right parts.2) row parts.3
    orders_make n first k here ((Some distance, node) ∷ rest) u m there is right (a, b, e, (a1, b1, e1, operator, and), row) c =
        let parts = carries_both fold schema k here u a b m there e c in
        let inner = carries_both fold schema k here a a1 b1 parts.0 parts.1 e1 parts.2 in
        let s = one_step fold schema k here (signs.Near distance) a1 inner.0 inner.1 operator inner.2 in
        let next = and_node_makes k inner.1 node b1 parts.0 parts.1 s.1 and (subst (λ j. Carries fold schema j inner.1 b1 parts.0 parts.1) s.0 inner.3) in
        orders_make n (nodes.Near distance first node) parts.0 parts.1 rest b m there (of_near n distance first k node parts.0 s.2 is next) (carries_right fold schema k here a parts.0 parts.1 right parts.2) row parts.3

    expr_makes : Makes fold schema (IsExpr IsOpenAnd G)
    expr_makes n here node u m there right (first, rest, e, (a, b, e1, and, row)) c =
        let parts = carries_both fold schema n here u a b m there e1 c in
        subst (λ x. IsWritable fold schema n x m) (sym e)
        (orders_make n first parts.0 parts.1 rest b m there (and_node_makes n here first a parts.0 parts.1 right and parts.2) (carries_right fold schema n here a parts.0 parts.1 right parts.2) row parts.3)

  -- ---- groups and queries
  group_makes : (depth : ℕ) → Makes fold schema (IsGroup IsOpenAnd depth)
  unfolding IsGroup
  group_makes zero n here node u m there right is c = absurd is
  group_makes (suc depth) n here node u m there right (a, b, e, opens, (a1, b1, e1, expr, closes)) c =
      let parts = carries_both fold schema n here u a b m there e c in
      let s = one_step fold schema n here signs.Open a parts.0 parts.1 opens parts.2 in
      let inner = carries_both fold schema parts.0 parts.1 b a1 b1 m there e1 parts.3 in
      let last = one_step fold schema inner.0 inner.1 signs.Close b1 m there closes inner.3 in
      let made = expr_makes (IsGroup IsOpenAnd depth) (group_makes depth) parts.0 parts.1 node a1 inner.0 inner.1 s.1 expr inner.2 in
      subst (λ j. IsWritable fold schema j node m) s.0 (subst (IsWritable fold schema parts.0 node) (sym last.0) made)

  -- the tree of a query can be written
  pub query_makes : (depth : ℕ) (n : ℕ) (here : Limit) (node : Node) (u : List Mark) (m : ℕ) (there : Limit) → IsRightLimit schema here → IsQuery IsOpenAnd depth node u → Carries fold schema n here u m there → IsWritable fold schema n node m
  query_makes depth n here node u m there right (a, b, e, relaxed, (a1, b1, e1, expr, ends)) c =
      let parts = carries_both fold schema n here u a b m there e c in
      let inner = carries_both fold schema parts.0 parts.1 b a1 b1 m there e1 parts.3 in
      let last = one_step fold schema inner.0 inner.1 signs.End b1 m there ends inner.3 in
      let start = first a parts.0 parts.1 relaxed parts.2 in
      let made = expr_makes (IsGroup IsOpenAnd depth) (group_makes depth) parts.0 parts.1 node a1 inner.0 inner.1 start.1 expr inner.2 in
      subst (λ j. IsWritable fold schema j node m) start.0 (subst (IsWritable fold schema parts.0 node) (sym last.0) made)
    where
      first : (a : List Mark) (k : ℕ) (mid : Limit) → Is signs.Relaxed a ⊎ (a ≡ []) → Carries fold schema n here a k mid → (k ≡ n) × IsRightLimit schema mid
      first a k mid (inl is) c = one_step fold schema n here signs.Relaxed a k mid is c
      first a k mid (inr none) c =
          let s = subst (λ v. Carries fold schema n here v k mid) none c in
          (s.0, subst (IsRightLimit schema) (sym s.1) right)
