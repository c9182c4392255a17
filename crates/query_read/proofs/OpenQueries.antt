-- A query without a fault has open ANDs: one that isn't would have ended with negated items alone among its marks.
use Rattle.std.proofs.Common.{◌≡◌, ℕ, zero, suc, ◌≤◌, List, [], ◌∷◌, ◌++◌, false, Option, Some, None, ◌⊎◌, inl, inr, refl, sym, ◌∙◌, ap, subst, append_assoc, IsTrue, arith}
use Rattle.std.specs.Prelude.{◌≢◌, Contains}
use Rattle.std.proofs.lemmas.Bool.{cases_Bool}
use Rattle.query_marks.specs.declared.fault.QueryKind.TheVariants as kinds
use Rattle.query_marks.specs.declared.fault.Wrong.{Wrong}
use Rattle.query_marks.specs.declared.mark.Mark.{Mark}
use Rattle.token_grammar.specs.Values.{◌then◌, AreInRow}
use Rattle.query_tree.specs.declared.query.Node.{Node}
use Rattle.query_grammar.specs.Grammar.{IsItem, Section, all_items, IsAnd, has_item, IsOpenAnd, IsOrder, IsAndNode, IsExpr, IsGroup, IsQuery}
use Rattle.query_grammar.specs.QueryFaults.{Any, Told, BeginsAnd, EndsAnd, IsAnyLimit, LastIs, EndedAnd, EndedSpan, IsCandidate, by_itself, by_and, by_span}
use Rattle.query_grammar.specs.Queries.{IsRoot}
use Rattle.query_read.proofs.AndScans.{SectionScan, section_scan, section_some, section_row, AndScan, and_scanned, group_part}
use Rattle.query_read.proofs.Enders.{relaxed_begins, ended_of}
use Rattle.query_grammar.proofs.GroupDepths.{and_to, group_to}
use Rattle.query_grammar.proofs.OpenAnds.{passes_any}
use Rattle.query_read.proofs.OpenFaults.{open_no_fault}
use Rattle.query_grammar.proofs.PartsWithin.{IsInherited, and_within}
use Rattle.query_read.proofs.SectionPlaces.{IsEnded, SectionIn, section_in}
use Rattle.query_read.proofs.SoundAnds.{IsBetween, order_between, any_to, group_sound, span_at}
use Rattle.query_read.proofs.SoundScans.{Among, SpanAt}

-- ---- lists
grouped : (x a b c y : List Mark) → x ++ ((a ++ (b ++ c)) ++ y) ≡ (x ++ a) ++ (b ++ (c ++ y))
grouped x a b c y = ap (λ (l : List Mark). x ++ l) (append_assoc a (b ++ c) y ∙ ap (λ (l : List Mark). a ++ l) (append_assoc b c y)) ∙ sym (append_assoc x a (b ++ (c ++ y)))

grouped_two : (x a b y : List Mark) → x ++ ((a ++ b) ++ y) ≡ (x ++ a) ++ (b ++ y)
grouped_two x a b y = ap (λ (l : List Mark). x ++ l) (append_assoc a b y) ∙ sym (append_assoc x a (b ++ y))

-- ---- places
-- the marks stand among all
Stands : List Mark → List Mark → Type 0
Stands marks u = (x : List Mark) × (y : List Mark) × (marks ≡ x ++ (u ++ y))

stands : (marks : List Mark) → IsInherited (Stands marks)
unfolding Stands
stands marks = record {
  front = λ a b (x, y, is). (x, b ++ y, is ∙ ap (λ (l : List Mark). x ++ l) (append_assoc a b y));
  rest = λ a b (x, y, is). (x ++ a, y, is ∙ grouped_two x a b y);
}

-- what ends an AND before further ones
ender : (Group : Node → List Mark → Type 0) (rest : List (Option ℕ × Node)) (u y : List Mark) (n : Mark) → EndsAnd n.sign → AreInRow (λ next. IsOrder next.0 then IsAndNode Any Group next.1) rest u → (m : Mark) × (r : List Mark) × (u ++ n ∷ y ≡ m ∷ r) × EndsAnd m.sign
ender Group [] u y n ends is = (n, y, ap (λ (l : List Mark). l ++ n ∷ y) is, ends)
ender Group (next ∷ rest) u y n ends (a, b, is, (o, w, a_is, order, and), later) =
    let between : IsBetween o = order_between next.0 o order in
    (between.mark, (w ++ b) ++ n ∷ y, ap (λ (l : List Mark). l ++ n ∷ y) (is ∙ ap (λ (l : List Mark). l ++ b) (a_is ∙ ap (λ (l : List Mark). l ++ w) between.is)), between.ends)

module _ (marks : List Mark) (no_end : (place : ℕ) → EndedAnd marks place ⊎ EndedSpan marks place → ⊥) where
  -- ---- ANDs
  -- the ZONESPAN of a section ended with the section
  section_open : (section : Section) (zones : List ℕ) (x u y : List Mark) (n : Mark) → marks ≡ x ++ (u ++ n ∷ y) → EndsAnd n.sign → SectionIn (IsGroup Any 32) section u → section.span ≡ Some zones → has_item section.items ≡ false → ⊥
  section_open section zones x u y n is ends i span none = by i.later
    where
      s : SectionScan section i.s
      s = section_scan (IsGroup Any 32) (group_part 32) i.isfirst section i.s i.stands

      some : section.items ≢ []
      some = section_some (IsGroup Any 32) (group_part 32) i.isfirst section i.s i.stands

      row : AreInRow (IsItem (IsGroup Any 32)) section.items s.items
      row = section_row (IsGroup Any 32) (group_part 32) i.isfirst section i.s i.stands

      among : Among Any section
      among = record { sections = section ∷ []; passes = tt; before = []; after = []; is = refl }

      span_here : SpanAt Any ((x ++ i.p) ++ i.s) s.begun.first.at
      span_here = span_at Any (IsGroup Any 32) (group_part 32) (group_sound Any 32 (omega arith)) (any_to Any 32 (omega arith)) section among i.s (x ++ i.p) s zones s.begun.first.at some row span none refl

      all : marks ≡ ((x ++ i.p) ++ i.s) ++ (i.q ++ n ∷ y)
      all = is ∙ ap (λ (l : List Mark). x ++ (l ++ n ∷ y)) i.is ∙ grouped x i.p i.s i.q (n ∷ y) ∙ sym (append_assoc (x ++ i.p) i.s (i.q ++ n ∷ y))

      ended_by : (m : Mark) (r : List Mark) → i.q ++ n ∷ y ≡ m ∷ r → EndsAnd m.sign ⊎ IsAnyLimit m.sign → ⊥
      ended_by m r next stops =
          no_end s.begun.first.at (ended_of marks ((x ++ i.p) ++ i.s) r m s.begun.first.at (all ∙ ap (λ (l : List Mark). ((x ++ i.p) ++ i.s) ++ l) next) (inr (stops, span_here)))

      by : IsEnded i.q → ⊥
      by (inl empty) = ended_by n y (ap (λ (l : List Mark). l ++ n ∷ y) empty) (inl ends)
      by (inr (m, r, q_is, limit)) = ended_by m (r ++ n ∷ y) (ap (λ (l : List Mark). l ++ n ∷ y) q_is) (inr limit)

  and_open : (sections : List Section) (x u y : List Mark) (n : Mark) → marks ≡ x ++ (u ++ n ∷ y) → LastIs BeginsAnd x → EndsAnd n.sign → IsAnd (IsGroup Any 32) sections u → IsOpenAnd sections
  and_open sections x u y n is begins ends and = (one, spans)
    where
      one : IsTrue (has_item (all_items sections))
      one = elim (cases_Bool (has_item (all_items sections))) [
        | inl some ↦ some
        | inr none ↦ (
            let scan : AndScan sections u = and_scanned (IsGroup Any 32) (group_part 32) sections u and in
            absurd (no_end scan.item.at (inl (record { a = x; b = u; next = n; c = y; is = is; begins = begins; ends = ends; sections = sections; and = and; none = none; at = scan.first }))))
      ]

      spans : (section : Section) (zones : List ℕ) (before after : List Section) → sections ≡ before ++ section ∷ after → section.span ≡ Some zones → IsTrue (has_item section.items)
      spans section zones before after among span = elim (cases_Bool (has_item section.items)) [
        | inl some ↦ some
        | inr none ↦ (
            let place : SectionIn (IsGroup Any 32) section u = section_in (IsGroup Any 32) before section after u (subst (λ (l : List Section). IsAnd (IsGroup Any 32) l u) among and) in
            absurd (section_open section zones x u y n is ends place span none))
      ]

-- ---- expressions
module _ (marks : List Mark) (no_end : (place : ℕ) → EndedAnd marks place ⊎ EndedSpan marks place → ⊥) (G H : Node → List Mark → Type 0) (to : (node : Node) (u : List Mark) → Stands marks u → G node u → H node u) (to_all : (node : Node) (u : List Mark) → G node u → IsGroup Any 32 node u) where
  node_open : (node : Node) (x u y : List Mark) (n : Mark) → marks ≡ x ++ (u ++ n ∷ y) → LastIs BeginsAnd x → EndsAnd n.sign → IsAndNode Any G node u → IsAndNode IsOpenAnd H node u
  unfolding Stands
  node_open node x u y n is begins ends (sections, any, node_is, and) =
      (sections, and_open marks no_end sections x u y n is begins ends (and_to G (IsGroup Any 32) to_all sections u and), node_is, and_within (Stands marks) (stands marks) G H to sections u (x, n ∷ y, is) and)

  orders_open : (rest : List (Option ℕ × Node)) (x u y : List Mark) (n : Mark) → marks ≡ x ++ (u ++ n ∷ y) → EndsAnd n.sign → AreInRow (λ next. IsOrder next.0 then IsAndNode Any G next.1) rest u → AreInRow (λ next. IsOrder next.0 then IsAndNode IsOpenAnd H next.1) rest u
  orders_open [] x u y n is ends none = none
  orders_open (next ∷ rest) x u y n is ends (a, b, u_is, (o, w, a_is, order, and), later) =
      let between : IsBetween o = order_between next.0 o order in
      let (m, r, m_is, m_ends) = ender G rest b y n ends later in
      let split : marks ≡ (x ++ a) ++ (b ++ n ∷ y) = is ∙ ap (λ (l : List Mark). x ++ (l ++ n ∷ y)) u_is ∙ grouped_two x a b (n ∷ y) in
      let here : marks ≡ (x ++ o) ++ (w ++ m ∷ r) =
      split ∙ ap (λ (l : List Mark). (x ++ a) ++ l) m_is ∙ append_assoc x a (m ∷ r) ∙ ap (λ (l : List Mark). x ++ (l ++ m ∷ r)) a_is ∙ grouped_two x o w (m ∷ r) in
      let begins : LastIs BeginsAnd (x ++ o) = inr (x, between.mark, ap (λ (l : List Mark). x ++ l) between.is, between.begins) in
      (a, b, u_is, (o, w, a_is, order, node_open next.1 (x ++ o) w r m here begins m_ends and), orders_open rest (x ++ a) b y n split ends later)

  expr_open : (node : Node) (x u y : List Mark) (n : Mark) → marks ≡ x ++ (u ++ n ∷ y) → LastIs BeginsAnd x → EndsAnd n.sign → IsExpr Any G node u → IsExpr IsOpenAnd H node u
  expr_open node x u y n is begins ends (first, rest, node_is, (a, b, u_is, and, later)) =
      let (m, r, m_is, m_ends) = ender G rest b y n ends later in
      let split : marks ≡ (x ++ a) ++ (b ++ n ∷ y) = is ∙ ap (λ (l : List Mark). x ++ (l ++ n ∷ y)) u_is ∙ grouped_two x a b (n ∷ y) in
      let here : marks ≡ x ++ (a ++ m ∷ r) = split ∙ ap (λ (l : List Mark). (x ++ a) ++ l) m_is ∙ append_assoc x a (m ∷ r) in
      (first, rest, node_is, (a, b, u_is, node_open first x a r m here begins m_ends and, orders_open rest (x ++ a) b y n split ends later))

-- ---- groups
module _ (marks : List Mark) (no_end : (place : ℕ) → EndedAnd marks place ⊎ EndedSpan marks place → ⊥) where
  group_open : (depth : ℕ) → depth ≤ 32 → (node : Node) (u : List Mark) → Stands marks u → IsGroup Any depth node u → IsGroup IsOpenAnd depth node u
  unfolding IsGroup Stands
  group_open zero up node u here never = absurd never
  group_open (suc depth) up node u (x, y, is) (a, bc, u_is, (m, first, open_sign), (b, c, later, expr, (n, last, close_sign))) =
      let split : marks ≡ (x ++ a) ++ (b ++ n ∷ y) =
      is ∙ ap (λ (l : List Mark). x ++ (l ++ y)) (u_is ∙ ap (λ (l : List Mark). a ++ l) later) ∙ grouped x a b c y ∙ ap (λ (l : List Mark). (x ++ a) ++ (b ++ (l ++ y))) last in
      let begins : LastIs BeginsAnd (x ++ a) = inr (x, m, ap (λ (l : List Mark). x ++ l) first, inr (inl open_sign)) in (
        a,
        bc,
        u_is,
        (m, first, open_sign),
        (
          b,
          c,
          later,
          expr_open marks no_end (IsGroup Any depth) (IsGroup IsOpenAnd depth) (group_open depth (omega (arith, up))) (group_to depth 32 (omega (arith, up))) node (x ++ a) b y n split begins (inl close_sign) expr,
          (n, last, close_sign),
        ),
      )

  query_open : (node : Node) → IsQuery Any 32 node marks → IsQuery IsOpenAnd 32 node marks
  query_open node (a, bc, is, relaxed, (b, c, later, expr, (n, last, sign))) =
      let split : marks ≡ a ++ (b ++ n ∷ []) = is ∙ ap (λ (l : List Mark). a ++ l) (later ∙ ap (λ (l : List Mark). b ++ l) last) in
      (a, bc, is, relaxed, (b, c, later, expr_open marks no_end (IsGroup Any 32) (IsGroup IsOpenAnd 32) (group_open 32 (omega arith)) (group_to 32 32 (omega arith)) node a b [] n split (relaxed_begins a relaxed) (inr (inr (inl sign))) expr, (n, last, sign)))

-- ---- queries without a fault
pub no_fault_open : (node : Node) (marks : List Mark) → IsQuery Any 32 node marks → ((told : Told) → IsCandidate marks told → ⊥) → IsQuery IsOpenAnd 32 node marks
no_fault_open node marks query none = query_open marks no_end node query
  where
    no_end : (place : ℕ) → EndedAnd marks place ⊎ EndedSpan marks place → ⊥
    no_end place (inl ended) = none (record { place = place; kind = kinds.OnlyNot; name = [] }) (by_and marks place (inl (node, query, refl)) ended)
    no_end place (inr ended) = none (record { place = place; kind = kinds.OnlyNot; name = [] }) (by_span marks place (inl (node, query, refl)) ended)

pub no_fault_clean : (node : Node) (marks : List Mark) → IsQuery Any 32 node marks → ((told : Told) → IsCandidate marks told → ⊥) → (m : Mark) → Contains marks m → m.wrong ≡ None
no_fault_clean node marks query none m has = by m.wrong refl
  where
    by : (wrong : Option Wrong) → m.wrong ≡ wrong → wrong ≡ None
    by None is = refl
    by (Some wrong) is = absurd (none (record { place = m.at; kind = wrong.kind; name = wrong.name }) (by_itself marks m wrong (inl (node, query, refl)) has is))

-- ---- both ways
pub text_of_root : (node : Node) (marks : List Mark) → IsRoot (Some node) marks → IsQuery IsOpenAnd 32 node marks × ((m : Mark) → Contains marks m → m.wrong ≡ None)
text_of_root node marks (query, none) = (no_fault_open node marks query none, no_fault_clean node marks query none)

pub root_of_text : (node : Node) (marks : List Mark) → IsQuery IsOpenAnd 32 node marks × ((m : Mark) → Contains marks m → m.wrong ≡ None) → IsRoot (Some node) marks
root_of_text node marks (query, clean) = (passes_any 32 node marks query, open_no_fault node marks query clean)
