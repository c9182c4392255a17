-- What the readers of limits, sections, ANDs and their order make of the marks before them.
use Rattle.std.proofs.Common.{◌≡◌, ◌≢◌, ◌⊎◌, ℕ, List, [], ◌∷◌, ◌++◌, Bool, true, false, Option, Some, None, inl, inr, refl, sym, ◌∙◌, ap, subst, append-nil}
use Rattle.std.specs.Prelude.{not, Result, Ok, Err}
use Rattle.srch_base.specs.declared.faults.Or.{Or}
use Rattle.token_grammar.specs.Language.{Re, one, seq, many, ◌⨾◌, ◌∣◌, verdict}
use Rattle.token_grammar.specs.Firsts.{IsFree}
use Rattle.token_grammar.specs.Values.{◌then◌}
use Rattle.token_grammar.specs.Reading.{TakesPart, FailsPart, ReadsPart, IsNextOf}
use Rattle.token_grammar.specs.steps.Progress.{TakesRow}
use Rattle.token_grammar.proofs.Bools.{or_left}
use Rattle.token_grammar.proofs.Beginnings.{free_none, free_rest}
use Rattle.token_grammar.proofs.Rows.{regroup, plain_seq, plain_next, takes_seq, fails_first, fails_next, takes_as, takes_by, fails_by, takes_one}
use Rattle.token_grammar.proofs.Choices.{more_at, takes_if, fails_if, takes_second, fails_second}
use Rattle.token_grammar.proofs.Lists.{row_none, row_more, row_done}
use Rattle.query_marks.specs.declared.mark.Mark.{Mark}
use Rattle.query_marks.specs.declared.mark.Sign.TheVariants as signs
use Rattle.query_grammar.specs.declared.class.Class.{Class}
use Rattle.query_grammar.specs.declared.class.Class.TheVariants as classes
use Rattle.query_read.specs.declared.operators.Operator.TheVariants as operators
use Rattle.query_tree.specs.declared.query.Item.{Item}
use Rattle.query_tree.specs.declared.query.Node.{Node}
use Rattle.query_tree.specs.declared.query.Node.TheVariants as nodes
use Rattle.query_grammar.specs.Grammar.{Is, IsGroup, IsLimit, last_of, Section, IsSection, items_of as given_of, all_items, node_of, IsOrder, ordered, IsAndNode, IsExpr}
use Rattle.query_grammar.specs.QueryFaults.{Any}
use Rattle.query_read.specs.steps.Joining.{Joins}
use Rattle.query_grammar.specs.steps.MarkAlphabet.{query_marks}
use Rattle.query_read.specs.steps.Parts.{items_go_on, and_goes_on, expr_goes_on, AreItems, is_first, AreLimits, IsGiven}
use Rattle.query_grammar.specs.steps.QueryGrammar.{others, items_of, section_of, and_of, expr_of}
use Rattle.query_read.proofs.DepthSides.{limits_follow}
use Rattle.query_read.proofs.NodeValues.{last_of_last, all_items_last, ordered_last}
use Rattle.query_read.proofs.RowSteps.{TakesFrom, from_first, from_more, from_fails, from_done, joined_fails, over_else, over_either}

-- Limits that were read so far.
abbrev pub LimitsRead : List Mark → Option (List ℕ) → List Mark → Type 0
LimitsRead before span now = (list : List (Option (List ℕ))) × (span ≡ last_of None list) × TakesRow query_marks (one classes.Limit) (classes.Limit ∷ []) IsLimit before list now

pub limits_none : {before : List Mark} → LimitsRead before None before
limits_none = ([], refl, row_none)

pub limits_more : {span next : Option (List ℕ)} {before mid now : List Mark} → LimitsRead before span mid → IsNextOf query_marks classes.Limit mid true → TakesPart query_marks (one classes.Limit) [] (IsLimit next) mid now → LimitsRead before next now
limits_more {span} {next} (list, is, row) n h = (list ++ next ∷ [], sym (last_of_last None list next), row_more row n h refl)

pub limits_done : {span : Option (List ℕ)} {before now : List Mark} → LimitsRead before span now → IsNextOf query_marks classes.Limit now false → TakesPart query_marks (many (one classes.Limit)) (classes.Limit ∷ []) (AreLimits (is_first before) span) before now
limits_done {span} {before} {now} (list, is, row) n = takes_as (λ u h. (list, counts list row, is, h)) (row_done row n refl)
  where
    first : IsNextOf query_marks classes.Limit before false → is_first before ≡ true
    first m = ap is_first m.is ∙ ap not m.fits

    counts : (list : List (Option (List ℕ))) → TakesRow query_marks (one classes.Limit) (classes.Limit ∷ []) IsLimit before list now → (is_first before ≡ true) ⊎ (list ≢ [])
    counts [] row = inl (first (subst (λ u. IsNextOf query_marks classes.Limit u false) (sym (row.is ∙ ap (λ v. v ++ now) row.has)) n))
    counts (x ∷ list) row = inr (λ e. clashes e)
      where
        clashes : x ∷ list ≡ [] → ⊥
        clashes e = cc

module _ (d : ℕ) where
  -- A section: limits and items, ..
  pub limits_fail : {before : List Mark} {e : Or ℕ} → FailsPart query_marks (many (one classes.Limit)) (classes.Limit ∷ []) before e → FailsPart query_marks (section_of (others d)) items_go_on before e
  limits_fail h = fails_first h (limits_follow d)

  pub items_fail : {P : List Mark → Type 0} {before mid : List Mark} {e : Or ℕ} → TakesPart query_marks (many (one classes.Limit)) (classes.Limit ∷ []) P before mid → FailsPart query_marks (items_of (others d)) items_go_on mid e → FailsPart query_marks (section_of (others d)) items_go_on before e
  items_fail limits h = fails_next limits (limits_follow d) h

  pub section_given : {isfirst : Bool} {span : Option (List ℕ)} {items given : List Item} {before mid now : List Mark} → TakesPart query_marks (many (one classes.Limit)) (classes.Limit ∷ []) (AreLimits isfirst span) before mid → TakesPart query_marks (items_of (others d)) items_go_on (AreItems (IsGroup Any d) items) mid now → given ≡ given_of span items → TakesPart query_marks (section_of (others d)) items_go_on (IsGiven (IsGroup Any d) isfirst given) before now
  section_given {isfirst} {span} {items} {given} limits h same =
      takes_as (λ u (a, b, is, (list, counts, last, some), (filled, row)). (record { span = span; items = items }, same, (list, counts, last, filled, (a, b, is, some, row)))) (takes_seq limits (limits_follow d) h)

  -- .. of which each but the first of an AND begins with a limit.
  limited : {before : List Mark} (rest : Re Class) → IsNextOf query_marks classes.Limit before true → IsFree query_marks items_go_on rest → verdict query_marks (seq (one classes.Limit ⨾ section_of (others d)) rest) before ≡ verdict query_marks (seq (section_of (others d)) rest) before
  limited {before} rest n free =
      let items = items_of (others d) in
      let limit = one classes.Limit in
      let section = section_of (others d) in
      let one_limit : TakesPart query_marks limit [] (λ u. Unit {0}) before n.rest = subst (λ u. TakesPart query_marks limit [] (λ v. Unit {0}) u n.rest) (sym n.is) (takes_one n.fits tt) in
      regroup query_marks limit section rest before
      ∙ one_limit.takes (seq section rest) (free_none query_marks (seq section rest))
      ∙ regroup query_marks (many limit) items rest n.rest
      ∙ sym (one_limit.takes (seq (many limit) (seq items rest)) (free_none query_marks (seq (many limit) (seq items rest))))
      ∙ sym (more_at query_marks limit (seq items rest) (classes.Limit ∷ []) before n.next n.rest n.is (or_left (query_marks.fits classes.Limit n.next) false n.fits) (free_rest query_marks (classes.Limit ∷ []) items items_go_on rest (limits_follow d) free))
      ∙ sym (regroup query_marks (many limit) items rest before)

  -- Sections that were read so far, by the items that they give.
  abbrev pub SectionsRead : List Mark → List Item → List Mark → Type 0
  SectionsRead before all now =
      (first : Section) × (rest : List Section) × (all ≡ all_items (first ∷ rest))
      × TakesFrom query_marks (section_of (others d)) (one classes.Limit ⨾ section_of (others d)) and_goes_on (IsSection (IsGroup Any d) true first) (IsSection (IsGroup Any d) false) before rest now

  pub sections_first : {isfirst : Bool} {given : List Item} {before now : List Mark} → TakesPart query_marks (section_of (others d)) items_go_on (IsGiven (IsGroup Any d) isfirst given) before now → SectionsRead before given now
  sections_first {isfirst} {given} {before} {now} h =
      let (first, same, (list, counts, last, filled, section)) = h.has in (
        first,
        [],
        same ∙ sym (append-nil (given_of first.span first.items)),
        from_first {cs = items_go_on} (record { takes = h.takes; used = h.used; is = h.is; has = (list, inl refl, last, filled, section) }) refl,
      )

  pub first_section_fails : {before : List Mark} {e : Or ℕ} → FailsPart query_marks (section_of (others d)) items_go_on before e → FailsPart query_marks (and_of (others d)) and_goes_on before e
  first_section_fails h = fails_first h refl

  pub sections_more : {all all' given : List Item} {before mid now : List Mark} → SectionsRead before all mid → IsNextOf query_marks classes.Limit mid true → TakesPart query_marks (section_of (others d)) items_go_on (IsGiven (IsGroup Any d) (is_first mid) given) mid now → all' ≡ all ++ given → SectionsRead before all' now
  sections_more {all} {all'} {given} {before} {mid} {now} (first, rest, is, row) n h same =
      let (next, gives, (list, counts, last, filled, section)) = h.has in
      let one_more : TakesPart query_marks (section_of (others d)) items_go_on (IsSection (IsGroup Any d) false next) mid now = record { takes = h.takes; used = h.used; is = h.is; has = (list, later counts, last, filled, section) } in (
        first,
        rest ++ next ∷ [],
        same ∙ ap (λ v. v ++ given) is ∙ ap (λ v. all_items (first ∷ rest) ++ v) gives ∙ sym (all_items_last (first ∷ rest) next),
        from_more row n refl (takes_by (λ k free. limited k n free) one_more) refl,
      )
    where
      limit_first : is_first mid ≡ false
      limit_first = ap is_first n.is ∙ ap not n.fits

      later : {list : List (Option (List ℕ))} → (is_first mid ≡ true) ⊎ (list ≢ []) → (false ≡ true) ⊎ (list ≢ [])
      later (inl e) = inl (sym limit_first ∙ e)
      later (inr some) = inr some

  pub next_section_fails : {all : List Item} {before mid : List Mark} {e : Or ℕ} → SectionsRead before all mid → IsNextOf query_marks classes.Limit mid true → FailsPart query_marks (section_of (others d)) items_go_on mid e → FailsPart query_marks (and_of (others d)) and_goes_on before e
  next_section_fails (first, rest, is, row) n h = from_fails row n refl (fails_by (λ k free. limited k n free) h) refl

  pub sections_done : {all : List Item} {node : Node} {before now : List Mark} → SectionsRead before all now → IsNextOf query_marks classes.Limit now false → node ≡ node_of all → TakesPart query_marks (and_of (others d)) and_goes_on (IsAndNode Any (IsGroup Any d) node) before now
  sections_done (first, rest, is, row) n same = takes_as (λ u h. (first ∷ rest, tt, same ∙ ap node_of is, h)) (from_done row (over_else query_marks _ n refl))

  -- ANDs that were read so far.
  abbrev pub OrdersRead : List Mark → Node → List Mark → Type 0
  OrdersRead before node now =
      (first : Node) × (rest : List (Option ℕ × Node)) × (node ≡ ordered first rest)
      × TakesFrom query_marks (and_of (others d)) (one classes.Before ⨾ and_of (others d) ∣ one classes.Near ⨾ and_of (others d)) expr_goes_on (IsAndNode Any (IsGroup Any d) first) (λ next. IsOrder next.0 then IsAndNode Any (IsGroup Any d) next.1) before rest now

  pub orders_first : {first : Node} {before now : List Mark} → TakesPart query_marks (and_of (others d)) and_goes_on (IsAndNode Any (IsGroup Any d) first) before now → OrdersRead before first now
  orders_first {first} h = (first, [], refl, from_first h refl)

  pub first_and_fails : {before : List Mark} {e : Or ℕ} → FailsPart query_marks (and_of (others d)) and_goes_on before e → FailsPart query_marks (expr_of (others d)) expr_goes_on before e
  first_and_fails h = fails_first h refl

  pub orders_before : {node node' : Node} {before mid there : List Mark} (now : List Mark) (result : Result Node (Or ℕ)) → OrdersRead before node mid → IsNextOf query_marks classes.Before mid true → TakesPart query_marks (one classes.Before) [] (Is signs.Before) mid there → ReadsPart query_marks (and_of (others d)) and_goes_on (IsAndNode Any (IsGroup Any d)) there result now → Joins operators.Before node result (Ok node') → OrdersRead before node' now
  orders_before {node} {node'} {before} {mid} {there} now result (first, rest, is, row) n between read (next, was, same) =
      let h : TakesPart query_marks (and_of (others d)) and_goes_on (IsAndNode Any (IsGroup Any d) next) there now = subst (λ (r : Result Node (Or ℕ)). ReadsPart query_marks (and_of (others d)) and_goes_on (IsAndNode Any (IsGroup Any d)) there r now) was read in (
        first,
        rest ++ (None, next) ∷ [],
        same ∙ ap (λ x. nodes.Before x next) is ∙ sym (ordered_last first rest (None, next)),
        from_more row n refl (takes_if n refl (plain_seq between h)) refl,
      )

  pub orders_near : {number : ℕ} {node node' : Node} {before mid there : List Mark} (now : List Mark) (result : Result Node (Or ℕ)) → OrdersRead before node mid → IsNextOf query_marks classes.Near mid true → TakesPart query_marks (one classes.Near) [] (Is (signs.Near number)) mid there → ReadsPart query_marks (and_of (others d)) and_goes_on (IsAndNode Any (IsGroup Any d)) there result now → Joins (operators.Near number) node result (Ok node') → OrdersRead before node' now
  orders_near {number} {node} {node'} {before} {mid} {there} now result (first, rest, is, row) n between read (next, was, same) =
      let h : TakesPart query_marks (and_of (others d)) and_goes_on (IsAndNode Any (IsGroup Any d) next) there now = subst (λ (r : Result Node (Or ℕ)). ReadsPart query_marks (and_of (others d)) and_goes_on (IsAndNode Any (IsGroup Any d)) there r now) was read in (
        first,
        rest ++ (Some number, next) ∷ [],
        same ∙ ap (λ x. nodes.Near number x next) is ∙ sym (ordered_last first rest (Some number, next)),
        from_more row n refl (takes_second n refl (plain_seq between h)) refl,
      )

  pub before_fails : {P : List Mark → Type 0} {node : Node} {before mid there : List Mark} (now : List Mark) (result : Result Node (Or ℕ)) {e : Or ℕ} → OrdersRead before node mid → IsNextOf query_marks classes.Before mid true → TakesPart query_marks (one classes.Before) [] P mid there → ReadsPart query_marks (and_of (others d)) and_goes_on (IsAndNode Any (IsGroup Any d)) there result now → Joins operators.Before node result (Err e) → FailsPart query_marks (expr_of (others d)) expr_goes_on before e
  before_fails now result (first, rest, is, row) n between read joins = from_fails row n refl (fails_if n refl (plain_next between (joined_fails query_marks (and_of (others d)) and_goes_on (IsAndNode Any (IsGroup Any d)) now result joins read))) refl

  pub near_fails : {P : List Mark → Type 0} (number : ℕ) {node : Node} {before mid there : List Mark} (now : List Mark) (result : Result Node (Or ℕ)) {e : Or ℕ} → OrdersRead before node mid → IsNextOf query_marks classes.Near mid true → TakesPart query_marks (one classes.Near) [] P mid there → ReadsPart query_marks (and_of (others d)) and_goes_on (IsAndNode Any (IsGroup Any d)) there result now → Joins (operators.Near number) node result (Err e) → FailsPart query_marks (expr_of (others d)) expr_goes_on before e
  near_fails number now result (first, rest, is, row) n between read joins = from_fails row n refl (fails_second n refl (plain_next between (joined_fails query_marks (and_of (others d)) and_goes_on (IsAndNode Any (IsGroup Any d)) now result joins read))) refl

  pub orders_done : {node : Node} {before now : List Mark} → OrdersRead before node now → IsNextOf query_marks classes.Before now false → IsNextOf query_marks classes.Near now false → TakesPart query_marks (expr_of (others d)) expr_goes_on (IsExpr Any (IsGroup Any d) node) before now
  orders_done (first, rest, is, row) n m =
      takes_as (λ u h. (first, rest, is, h)) (from_done row (over_either query_marks _ _ (over_else query_marks _ n refl) (over_else query_marks _ m refl)))
