-- What the readers of groups, joins, choices and items make of the marks before them.
use Rattle.std.proofs.Common.{◌≡◌, ◌≢◌, ℕ, zero, suc, List, [], ◌∷◌, ◌++◌, Bool, true, false, inl, inr, refl, sym, ◌∙◌, ap, subst}
use Rattle.std.specs.Prelude.{Result, Ok, Err}
use Rattle.std.proofs.lemmas.Bool.{eq-eqb}
use Rattle.srch_base.specs.declared.faults.Or.{Or}
use Rattle.srch_base.specs.declared.faults.Or.TheVariants.{Fault}
use Rattle.token_grammar.specs.Language.{one, ◌⨾◌, ◌∣◌}
use Rattle.token_grammar.specs.Values.{IsOne}
use Rattle.token_grammar.specs.Reading.{first_place, TakesPart, FailsPart, ReadsPart, IsNextOf}
use Rattle.token_grammar.proofs.Rows.{plain_seq, plain_first, plain_next, takes_seq, fails_first, fails_next, takes_as, takes_wider, fails_wider, takes_next, fails_at, from_there, fails_there}
use Rattle.token_grammar.proofs.Choices.{takes_if, fails_if, takes_second, fails_second, takes_else, fails_else, reads_if}
use Rattle.query_marks.specs.declared.mark.Mark.{Mark}
use Rattle.query_marks.specs.declared.mark.Sign.TheVariants as signs
use Rattle.query_grammar.specs.declared.class.Class.{Class}
use Rattle.query_grammar.specs.declared.class.Class.TheVariants as classes
use Rattle.query_read.specs.declared.operators.Operator.TheVariants as operators
use Rattle.query_tree.specs.declared.query.Item.{Item}
use Rattle.query_tree.specs.declared.query.Node.{Node}
use Rattle.query_tree.specs.declared.query.Node.TheVariants as nodes
use Rattle.query_grammar.specs.Grammar.{Is, IsLoose, IsJoin, IsChoice, IsAlt, IsItem, IsExpr, IsGroup, chosen}
use Rattle.query_grammar.specs.QueryFaults.{Any}
use Rattle.query_grammar.specs.steps.Classes.{class_of, class_number, same_class, fits, begins_item, IsNextClass}
use Rattle.query_read.specs.steps.Joining.{Joins}
use Rattle.query_grammar.specs.steps.MarkAlphabet.{query_marks}
use Rattle.query_read.specs.steps.Parts.{join_goes_on, alternatives_go_on, items_go_on, expr_goes_on, IsLeaves, AreItems}
use Rattle.query_grammar.specs.steps.QueryGrammar.{others, leaves, join_of, alternatives_of, item_of, items_of, expr_of}
use Rattle.query_grammar.proofs.MarkSigns.{sign_is, class_same}
use Rattle.query_read.proofs.DepthSides.{leaf_excluded, not_excluded, items_follow, item_apart, item_among}
use Rattle.query_read.proofs.NodeValues.{chosen_last}
use Rattle.query_read.proofs.SignSteps.{same_not, class_is, takes_as_sign}
use Rattle.query_read.proofs.RowSteps.{TakesFrom, from_first, from_more, from_fails, from_done, joined_fails, over_else, over_either, over_if}

-- A mark of a class is of no other class.
pub next_other : {c : Class} {before : List Mark} (d : Class) → IsNextOf query_marks c before true → same_class d c ≡ false → IsNextOf query_marks d before false
next_other {c} {before} d n other = record { next = n.next; rest = n.rest; is = n.is; fits = ap (same_class d) (sym (class_same c (class_of n.next.sign) n.fits)) ∙ other }

-- the mark of an operator, by its sign
abbrev pub Taken : Class → List Mark → List Mark → Type 0
Taken c before now = TakesPart query_marks (one c) [] (IsOne (λ m. fits c m ≡ true)) before now

-- the `(` of a group
pub group_begins : {m : Mark} {before now : List Mark} → IsNextOf query_marks classes.Open before true → before ≡ m ∷ now → TakesPart query_marks (one classes.Open) [] (Is signs.Open) before now
group_begins {m} n is = takes_next n is (λ fit. (m, refl, sign_is classes.Open m fit))

module _ (d : ℕ) where
  -- Groups: none at the depth that is left, ..
  none_here : {before : List Mark} {place : ℕ} → IsNextOf query_marks classes.Open before true → place ≡ first_place query_marks before → FailsPart query_marks (others 0) [] before (Fault place)
  unfolding others
  none_here n at = fails_at (next_other classes.Loose n refl) at

  pub group_none : {before : List Mark} {place : ℕ} → d ≡ 0 → IsNextOf query_marks classes.Open before true → place ≡ first_place query_marks before → FailsPart query_marks (others d) [] before (Fault place)
  group_none {before} {place} none n at = subst (λ (k : ℕ). FailsPart query_marks (others k) [] before (Fault place)) (sym none) (none_here n at)

  -- .. one with a fault inside, ..
  inside_fails : {P : List Mark → Type 0} {before mid : List Mark} {e : Or ℕ} → IsNextOf query_marks classes.Open before true → TakesPart query_marks (one classes.Open) [] P before mid → FailsPart query_marks (expr_of (others d)) expr_goes_on mid e → FailsPart query_marks (others (suc d)) [] before e
  unfolding others
  inside_fails n opened h = fails_second n refl (plain_next opened (fails_first h refl))

  -- .. one that isn't closed, ..
  unclosed_fails : {P Q : List Mark → Type 0} {before mid there : List Mark} {e : Or ℕ} → IsNextOf query_marks classes.Open before true → TakesPart query_marks (one classes.Open) [] P before mid → TakesPart query_marks (expr_of (others d)) expr_goes_on Q mid there → FailsPart query_marks (one classes.Close) [] there e → FailsPart query_marks (others (suc d)) [] before e
  unfolding others
  unclosed_fails n opened h close = fails_second n refl (plain_next opened (fails_next h refl close))

  -- .. and a whole one
  group_whole : {node : Node} {before mid there now : List Mark} → IsNextOf query_marks classes.Open before true → TakesPart query_marks (one classes.Open) [] (Is signs.Open) before mid → TakesPart query_marks (expr_of (others d)) expr_goes_on (IsExpr Any (IsGroup Any d) node) mid there → TakesPart query_marks (one classes.Close) [] (Is signs.Close) there now → TakesPart query_marks (others (suc d)) [] (IsGroup Any (suc d) node) before now
  unfolding others IsGroup
  group_whole n opened h close = takes_second n refl (plain_seq opened (takes_seq h refl close))

  pub group_ends : {node : Node} {before mid there : List Mark} (now : List Mark) (result : Result Node (Or ℕ)) → IsNextOf query_marks classes.Open before true → TakesPart query_marks (one classes.Open) [] (Is signs.Open) before mid → TakesPart query_marks (expr_of (others d)) expr_goes_on (IsExpr Any (IsGroup Any d) node) mid there → ReadsPart query_marks (one classes.Close) [] (λ closed u. (closed ≡ node) × Is signs.Close u) there result now → ReadsPart query_marks (others (suc d)) [] (IsGroup Any (suc d)) before result now
  group_ends {node} {before} now (Ok closed) n opened h close =
      let (is, sign) = close.has in
      let ended : TakesPart query_marks (one classes.Close) [] (Is signs.Close) _ now = record { takes = close.takes; used = close.used; is = close.is; has = sign } in
      subst (λ (x : Node). TakesPart query_marks (others (suc d)) [] (IsGroup Any (suc d) x) before now) (sym is) (group_whole n opened h ended)
  group_ends now (Err e) n opened h close = unclosed_fails n opened h close

  -- A join: leaves, ..
  pub join_leaves : {before : List Mark} (now : List Mark) (result : Result Node (Or ℕ)) → IsNextOf query_marks classes.Leaf before true → ReadsPart query_marks leaves join_goes_on IsLeaves before result now → ReadsPart query_marks (join_of (others d)) join_goes_on (IsJoin (IsGroup Any d)) before result now
  join_leaves {before} now result n h = reads_if leaves (others d) join_goes_on join_goes_on (IsJoin (IsGroup Any d)) now result n (leaf_excluded d) (joins result h)
    where
      joins : (result : Result Node (Or ℕ)) → ReadsPart query_marks leaves join_goes_on IsLeaves before result now → ReadsPart query_marks leaves join_goes_on (IsJoin (IsGroup Any d)) before result now
      joins (Ok node) h = takes_as (λ u l. elim l [ inl leaf ↦ inl leaf | inr more ↦ elim more [ inl sentences ↦ inr (inr (inl sentences)) | inr paragraphs ↦ inr (inr (inr (inl paragraphs))) ] ]) h
      joins (Err e) h = h

  -- .. a quoted piece with a number, ..
  loose_taken : (k : ℕ) {P : List Mark → Type 0} {before now : List Mark} → IsNextOf query_marks classes.Loose before true → TakesPart query_marks (one classes.Loose) [] P before now → TakesPart query_marks (others k) [] P before now
  unfolding others
  loose_taken zero n h = h
  loose_taken (suc k) n h = takes_if n refl h

  loose_fails : (k : ℕ) {before : List Mark} {e : Or ℕ} → IsNextOf query_marks classes.Loose before true → FailsPart query_marks (one classes.Loose) [] before e → FailsPart query_marks (others k) [] before e
  unfolding others
  loose_fails zero n h = h
  loose_fails (suc k) n h = fails_if n refl h

  pub join_loose : {before : List Mark} (now : List Mark) (result : Result Node (Or ℕ)) → IsNextOf query_marks classes.Loose before true → ReadsPart query_marks (one classes.Loose) [] IsLoose before result now → ReadsPart query_marks (join_of (others d)) join_goes_on (IsJoin (IsGroup Any d)) before result now
  join_loose now (Ok node) n h = takes_second n refl (takes_wider refl (loose_taken d n (takes_as (λ u l. inr (inl l)) h)))
  join_loose now (Err e) n h = fails_second n refl (fails_wider refl (loose_fails d n h))

  -- .. a group, ..
  pub join_group : {before : List Mark} (now : List Mark) (result : Result Node (Or ℕ)) → IsNextOf query_marks classes.Open before true → ReadsPart query_marks (others d) [] (IsGroup Any d) before result now → ReadsPart query_marks (join_of (others d)) join_goes_on (IsJoin (IsGroup Any d)) before result now
  join_group now (Ok node) n h = takes_second n refl (takes_wider refl (takes_as (λ u g. inr (inr (inr (inr g)))) h))
  join_group now (Err e) n h = fails_second n refl (fails_wider refl h)

  -- .. and no other mark
  other_fails : (k : ℕ) {before : List Mark} {place : ℕ} → IsNextOf query_marks classes.Loose before false → IsNextOf query_marks classes.Open before false → place ≡ first_place query_marks before → FailsPart query_marks (others k) join_goes_on before (Fault place)
  unfolding others
  other_fails zero loose opened at = fails_at loose at
  other_fails (suc k) loose opened at = fails_else loose refl (plain_first (fails_at opened at))

  pub join_fails : {c : Class} {before : List Mark} {place : ℕ} → IsNextClass c before → (c ≢ classes.Leaf) → (c ≢ classes.Loose) → (c ≢ classes.Open) → place ≡ first_place query_marks before → FailsPart query_marks (join_of (others d)) join_goes_on before (Fault place)
  join_fails {c} {before} n leaf loose opened at =
      fails_else (not classes.Leaf leaf) refl (other_fails d (not classes.Loose loose) (not classes.Open opened) at)
    where
      not : (k : Class) → (c ≢ k) → IsNextOf query_marks k before false
      not k other = class_is k false n (same_not k c (λ e. other (sym e)))

  -- Choices that were read so far.
  abbrev pub ChoicesRead : List Mark → Node → List Mark → Type 0
  ChoicesRead before node now =
      (first : Node) × (rest : List (Bool × Node)) × (node ≡ chosen first rest)
      × TakesFrom query_marks (join_of (others d)) (one classes.Or ⨾ join_of (others d) ∣ one classes.Maybe ⨾ join_of (others d)) alternatives_go_on (IsJoin (IsGroup Any d) first) (IsChoice (IsGroup Any d)) before rest now

  pub choices_first : {first : Node} {before now : List Mark} → TakesPart query_marks (join_of (others d)) join_goes_on (IsJoin (IsGroup Any d) first) before now → ChoicesRead before first now
  choices_first {first} h = (first, [], refl, from_first h refl)

  pub choices_or : {node node' : Node} {before mid there : List Mark} (now : List Mark) (result : Result Node (Or ℕ)) → ChoicesRead before node mid → Taken classes.Or mid there → IsNextOf query_marks classes.Or mid true → ReadsPart query_marks (join_of (others d)) join_goes_on (IsJoin (IsGroup Any d)) there result now → Joins operators.Or node result (Ok node') → ChoicesRead before node' now
  choices_or {node} {node'} {before} {mid} {there} now result (first, rest, is, row) between n read (next, was, same) =
      let h : TakesPart query_marks (join_of (others d)) join_goes_on (IsJoin (IsGroup Any d) next) there now = subst (λ (r : Result Node (Or ℕ)). ReadsPart query_marks (join_of (others d)) join_goes_on (IsJoin (IsGroup Any d)) there r now) was read in (
        first,
        rest ++ (true, next) ∷ [],
        same ∙ ap (λ x. nodes.Or x next) is ∙ sym (chosen_last first rest (true, next)),
        from_more row n refl (takes_if n refl (plain_seq (takes_as_sign classes.Or signs.Or (λ s e. e) between) h)) refl,
      )

  pub choices_maybe : {node node' : Node} {before mid there : List Mark} (now : List Mark) (result : Result Node (Or ℕ)) → ChoicesRead before node mid → Taken classes.Maybe mid there → IsNextOf query_marks classes.Maybe mid true → ReadsPart query_marks (join_of (others d)) join_goes_on (IsJoin (IsGroup Any d)) there result now → Joins operators.Maybe node result (Ok node') → ChoicesRead before node' now
  choices_maybe {node} {node'} {before} {mid} {there} now result (first, rest, is, row) between n read (next, was, same) =
      let h : TakesPart query_marks (join_of (others d)) join_goes_on (IsJoin (IsGroup Any d) next) there now = subst (λ (r : Result Node (Or ℕ)). ReadsPart query_marks (join_of (others d)) join_goes_on (IsJoin (IsGroup Any d)) there r now) was read in (
        first,
        rest ++ (false, next) ∷ [],
        same ∙ ap (λ x. nodes.Maybe x next) is ∙ sym (chosen_last first rest (false, next)),
        from_more row n refl (takes_second n refl (plain_seq (takes_as_sign classes.Maybe signs.Maybe (λ s e. e) between) h)) refl,
      )

  pub or_fails : {node : Node} {before mid there : List Mark} (now : List Mark) (result : Result Node (Or ℕ)) {e : Or ℕ} → ChoicesRead before node mid → Taken classes.Or mid there → IsNextOf query_marks classes.Or mid true → ReadsPart query_marks (join_of (others d)) join_goes_on (IsJoin (IsGroup Any d)) there result now → Joins operators.Or node result (Err e) → FailsPart query_marks (alternatives_of (others d)) alternatives_go_on before e
  or_fails {node} {before} {mid} {there} now result {e} (first, rest, is, row) between n read joins = from_fails row n refl (fails_if n refl (plain_next between (joined_fails query_marks (join_of (others d)) join_goes_on (IsJoin (IsGroup Any d)) now result joins read))) refl

  pub maybe_fails : {node : Node} {before mid there : List Mark} (now : List Mark) (result : Result Node (Or ℕ)) {e : Or ℕ} → ChoicesRead before node mid → Taken classes.Maybe mid there → IsNextOf query_marks classes.Maybe mid true → ReadsPart query_marks (join_of (others d)) join_goes_on (IsJoin (IsGroup Any d)) there result now → Joins operators.Maybe node result (Err e) → FailsPart query_marks (alternatives_of (others d)) alternatives_go_on before e
  maybe_fails {node} {before} {mid} {there} now result {e} (first, rest, is, row) between n read joins = from_fails row n refl (fails_second n refl (plain_next between (joined_fails query_marks (join_of (others d)) join_goes_on (IsJoin (IsGroup Any d)) now result joins read))) refl

  pub choices_done : {node : Node} {before now : List Mark} → ChoicesRead before node now → IsNextOf query_marks classes.Or now false → IsNextOf query_marks classes.Maybe now false → TakesPart query_marks (alternatives_of (others d)) alternatives_go_on (IsAlt (IsGroup Any d) node) before now
  choices_done {node} (first, rest, is, row) n m =
      takes_as (λ u h. (first, rest, is, h)) (from_done row (over_either query_marks _ _ (over_else query_marks _ n refl) (over_else query_marks _ m refl)))

  -- An item with NOT ..
  pub item_not : {node : Node} {before mid now : List Mark} → Taken classes.Not before mid → IsNextOf query_marks classes.Not before true → TakesPart query_marks (join_of (others d)) join_goes_on (IsJoin (IsGroup Any d) node) mid now → TakesPart query_marks (item_of (others d)) alternatives_go_on (IsItem (IsGroup Any d) (record { negated = true; node = node })) before now
  item_not between n h =
      takes_if n (not_excluded d) (takes_as (λ u i. inl (refl, i)) (plain_seq (takes_as_sign classes.Not signs.Not (λ s e. e) between) (takes_wider refl h)))

  pub not_fails : {before mid : List Mark} {e : Or ℕ} → Taken classes.Not before mid → IsNextOf query_marks classes.Not before true → FailsPart query_marks (join_of (others d)) join_goes_on mid e → FailsPart query_marks (item_of (others d)) alternatives_go_on before e
  not_fails between n h = fails_if n (not_excluded d) (plain_next between (fails_wider refl h))

  -- .. and without
  pub item_plain : {node : Node} {before there now : List Mark} → there ≡ before → IsNextOf query_marks classes.Not before false → TakesPart query_marks (alternatives_of (others d)) alternatives_go_on (IsAlt (IsGroup Any d) node) there now → TakesPart query_marks (item_of (others d)) alternatives_go_on (IsItem (IsGroup Any d) (record { negated = false; node = node })) before now
  item_plain same n h = takes_else n refl (from_there same (takes_as (λ u i. inr (refl, i)) h))

  pub plain_fails : {before there : List Mark} {e : Or ℕ} → there ≡ before → IsNextOf query_marks classes.Not before false → FailsPart query_marks (alternatives_of (others d)) alternatives_go_on there e → FailsPart query_marks (item_of (others d)) alternatives_go_on before e
  plain_fails same n h = fails_else n refl (fails_there same h)

  -- Items that were read so far.
  abbrev pub ItemsRead : List Mark → List Item → List Mark → Type 0
  ItemsRead before items now =
      (first : Item) × (rest : List Item) × (items ≡ first ∷ rest)
      × TakesFrom query_marks (item_of (others d)) (item_of (others d)) items_go_on (IsItem (IsGroup Any d) first) (IsItem (IsGroup Any d)) before rest now

  pub items_first : {items : List Item} {first : Item} {before now : List Mark} → items ≡ first ∷ [] → TakesPart query_marks (item_of (others d)) alternatives_go_on (IsItem (IsGroup Any d) first) before now → ItemsRead before items now
  items_first {items} {first} same h = (first, [], same, from_first h (items_follow d))

  pub first_fails : {before : List Mark} {e : Or ℕ} → FailsPart query_marks (item_of (others d)) alternatives_go_on before e → FailsPart query_marks (items_of (others d)) items_go_on before e
  first_fails h = fails_first h (items_follow d)

  begins : {c : Class} {mid : List Mark} → IsNextClass c mid → IsNextOf query_marks c mid true
  begins {c} n = class_is c true n (eq-eqb (class_number c) (class_number c) refl)

  pub items_more : {c : Class} {items items' : List Item} {next : Item} {before mid now : List Mark} → ItemsRead before items mid → IsNextClass c mid → begins_item c ≡ true → TakesPart query_marks (item_of (others d)) alternatives_go_on (IsItem (IsGroup Any d) next) mid now → items' ≡ items ++ next ∷ [] → ItemsRead before items' now
  items_more {c} {items} {items'} {next} (first, rest, is, row) n among h same =
      (first, rest ++ next ∷ [], same ∙ ap (λ v. v ++ next ∷ []) is, from_more row (begins n) (item_among c among) h (items_follow d))

  pub later_fails : {c : Class} {items : List Item} {before mid : List Mark} {e : Or ℕ} → ItemsRead before items mid → IsNextClass c mid → begins_item c ≡ true → FailsPart query_marks (item_of (others d)) alternatives_go_on mid e → FailsPart query_marks (items_of (others d)) items_go_on before e
  later_fails {c} (first, rest, is, row) n among h = from_fails row (begins n) (item_among c among) h (items_follow d)

  pub items_done : {c : Class} {items : List Item} {before now : List Mark} → ItemsRead before items now → IsNextClass c now → begins_item c ≡ false → TakesPart query_marks (items_of (others d)) items_go_on (AreItems (IsGroup Any d) items) before now
  items_done {c} {items} (first, rest, is, row) n over =
      takes_as (λ u h. subst (λ v. AreItems (IsGroup Any d) v u) (sym is) ((λ e. some e), h)) (from_done row (over_if query_marks _ (begins n) (item_apart d c over)))
    where
      some : first ∷ rest ≡ [] → ⊥
      some e = cc

-- A group at its depth.
pub group_fails : {k : ℕ} (d : ℕ) {P : List Mark → Type 0} {before mid : List Mark} {e : Or ℕ} → k ≡ suc d → IsNextOf query_marks classes.Open before true → TakesPart query_marks (one classes.Open) [] P before mid → FailsPart query_marks (expr_of (others d)) expr_goes_on mid e → FailsPart query_marks (others k) [] before e
group_fails {k} d {P} {before} {mid} {e} is n opened h = subst (λ (j : ℕ). FailsPart query_marks (others j) [] before e) (sym is) (inside_fails d n opened h)

pub group_read : {k : ℕ} (d : ℕ) {node : Node} {before mid there : List Mark} (now : List Mark) (result : Result Node (Or ℕ)) → k ≡ suc d → IsNextOf query_marks classes.Open before true → TakesPart query_marks (one classes.Open) [] (Is signs.Open) before mid → TakesPart query_marks (expr_of (others d)) expr_goes_on (IsExpr Any (IsGroup Any d) node) mid there → ReadsPart query_marks (one classes.Close) [] (λ closed u. (closed ≡ node) × Is signs.Close u) there result now → ReadsPart query_marks (others k) [] (IsGroup Any k) before result now
group_read {k} d {node} {before} now result is n opened h close = subst (λ (j : ℕ). ReadsPart query_marks (others j) [] (IsGroup Any j) before result now) (sym is) (group_ends d now result n opened h close)
