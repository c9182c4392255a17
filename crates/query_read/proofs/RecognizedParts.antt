-- What the recognizers make of each line of the grammar.
use Rattle.std.proofs.Common.{◌≡◌, ℕ, zero, suc, List, [], ◌∷◌, true, false, inl, inr, refl, sym, subst}
use Rattle.std.specs.Prelude.{None, Result, Ok, Err}
use Rattle.srch_base.specs.declared.faults.Or.{Or}
use Rattle.token_grammar.specs.Language.{one, many, optional, repeated, In, nullable, ◌⨾◌}
use Rattle.token_grammar.specs.Firsts.{all_in}
use Rattle.token_grammar.specs.Values.{IsPerhaps}
use Rattle.token_grammar.specs.Reading.{FailsPart, TakesPart, IsNextOf}
use Rattle.token_grammar.specs.steps.Deciding.{excludes}
use Rattle.token_grammar.proofs.Bools.{and_first}
use Rattle.token_grammar.proofs.Rows.{any_follows, takes_seq, plain_seq, plain_next, fails_next, takes_as, takes_wider, fails_wider, takes_next, from_there, fails_there, now_there}
use Rattle.token_grammar.proofs.Choices.{takes_if, fails_if, takes_second, fails_second, takes_else, fails_else}
use Rattle.token_grammar.proofs.Stops.{value_of}
use Rattle.query_marks.specs.declared.mark.Mark.{Mark}
use Rattle.query_marks.specs.declared.mark.Sign.TheVariants as signs
use Rattle.query_grammar.specs.declared.class.Class.{Class}
use Rattle.query_grammar.specs.declared.class.Class.TheVariants as classes
use Rattle.query_grammar.specs.Grammar.{Is}
use Rattle.query_grammar.specs.steps.Answers.{StopsAt}
use Rattle.query_grammar.specs.steps.Classes.{is_ended, begins_item, IsNextClass}
use Rattle.query_grammar.specs.steps.MarkAlphabet.{query_marks}
use Rattle.query_grammar.specs.steps.QueryGrammar.{leaf, leaves, others, join_of, alternatives_of, item_of, section_of, and_of, expr_of, query}
use Rattle.query_grammar.proofs.MarkSigns.{class_fits}
use Rattle.query_grammar.proofs.QueryAgreement.{query_agrees}
use Rattle.query_read.specs.steps.Parts.{join_goes_on, alternatives_go_on, items_go_on, and_goes_on, expr_goes_on}
use Rattle.query_read.specs.steps.Recognizing.{Recognized, Recognizes}
use Rattle.query_read.proofs.DepthSides.{leaf_excluded, not_excluded, items_follow, limits_follow, relaxed_follows, item_apart, item_among}
use Rattle.query_read.proofs.SignSteps.{class_is}
use Rattle.query_read.proofs.RowSteps.{IsOver, over_else, over_if, over_many, takes_left, takes_right, fails_left, fails_right}
use Rattle.query_read.proofs.ItemSteps.{first_fails}
use Rattle.query_read.proofs.OrderSteps.{items_fail}
use Rattle.query_read.proofs.WholeQuery.{end_taken}
use Rattle.query_read.proofs.RecognizedRows.{part_then, itself, PartsRead, parts_first, parts_more, parts_fail, parts_done, IsChoice}

-- what the next mark says of leaves that are joined
no_paragraph : {mid : List Mark} → IsNextOf query_marks classes.Sentence mid true → IsOver query_marks (repeated classes.Paragraph leaf) mid
no_paragraph n = over_many query_marks (one classes.Paragraph ⨾ leaf) (over_if query_marks (one classes.Paragraph ⨾ leaf) n refl)

no_sentence : {mid : List Mark} → IsNextOf query_marks classes.Sentence mid false → IsOver query_marks (repeated classes.Sentence leaf) mid
no_sentence n = over_many query_marks (one classes.Sentence ⨾ leaf) (over_else query_marks (one classes.Sentence ⨾ leaf) n refl)

-- leaves after SENTENCE
pub after_sentence : {before mid : List Mark} (now : List Mark) (result : Result (Unit {0}) ℕ) → Recognized leaf [] before mid → IsNextOf query_marks classes.Sentence mid true → Recognizes (repeated classes.Sentence leaf) (classes.Sentence ∷ []) mid result now → Recognizes leaves join_goes_on before result now
unfolding In
after_sentence now (Ok done) h n read =
    takes_as (λ u (a, b, is, first, rest). (a, b, is, first, inl rest))
    (plain_seq h (takes_wider refl (takes_left refl (no_paragraph n) read)))
after_sentence now (Err place) h n read = plain_next h (fails_wider refl (fails_left refl (no_paragraph n) read))

-- leaves after PARAGRAPH, or none
pub after_paragraph : {before mid : List Mark} (now : List Mark) (result : Result (Unit {0}) ℕ) → Recognized leaf [] before mid → IsNextOf query_marks classes.Sentence mid false → Recognizes (repeated classes.Paragraph leaf) (classes.Paragraph ∷ []) mid result now → Recognizes leaves join_goes_on before result now
unfolding In
after_paragraph now (Ok done) h n read =
    takes_as (λ u (a, b, is, first, rest). (a, b, is, first, inr rest))
    (plain_seq h (takes_wider refl (takes_right refl (no_sentence n) read)))
after_paragraph now (Err place) h n read = plain_next h (fails_wider refl (fails_right refl (no_sentence n) read))

-- the `(` of a group
pub opened : {m : Mark} {before now : List Mark} → IsNextOf query_marks classes.Open before true → before ≡ m ∷ now → Recognized (one classes.Open) [] before now
unfolding In
opened {m} n is = takes_next n is (λ fit. (m, refl, fit))

-- its `)`
closes : (d : ℕ) {before mid there : List Mark} (now : List Mark) (result : Result (Unit {0}) ℕ) → IsNextOf query_marks classes.Open before true → Recognized (one classes.Open) [] before mid → Recognized (expr_of (others d)) expr_goes_on mid there → Recognizes (one classes.Close) [] there result now → Recognizes (others (suc d)) [] before result now
unfolding In others
closes d now (Ok done) n begun h close = takes_second n refl (takes_as (λ u i. inr i) (plain_seq begun (takes_seq h refl close)))
closes d now (Err place) n begun h close = fails_second n refl (plain_next begun (fails_next h refl close))

pub group_closes : {k : ℕ} (d : ℕ) {before mid there : List Mark} (now : List Mark) (result : Result (Unit {0}) ℕ) → k ≡ suc d → IsNextOf query_marks classes.Open before true → Recognized (one classes.Open) [] before mid → Recognized (expr_of (others d)) expr_goes_on mid there → Recognizes (one classes.Close) [] there result now → Recognizes (others k) [] before result now
group_closes {k} d {before} now result is n begun h close = subst (λ (j : ℕ). Recognizes (others j) [] before result now) (sym is) (closes d now result n begun h close)

-- a quoted piece with a number is an atom at each depth
pub loose_atom : (d : ℕ) {before : List Mark} (now : List Mark) (result : Result (Unit {0}) ℕ) → IsNextOf query_marks classes.Loose before true → Recognizes (one classes.Loose) [] before result now → Recognizes (others d) [] before result now
unfolding In others
loose_atom zero now result n h = h
loose_atom (suc d) now (Ok done) n h = takes_if n refl (takes_as (λ u i. inl i) h)
loose_atom (suc d) now (Err place) n h = fails_if n refl h

-- an item has a mark, ..
pub item_some : (d : ℕ) → nullable (item_of (others d)) ≡ false
unfolding others
item_some zero = refl
item_some (suc d) = refl

-- .. `|` and MAYBE stand between joins, ..
pub choices : (d : ℕ) → IsChoice classes.Or classes.Maybe (join_of (others d)) join_goes_on alternatives_go_on
choices d = record { first_in = refl; second_in = refl; first_apart = refl; second_apart = refl; follows = refl }

-- .. and `<<` and NEAR between ANDs
pub orders : (d : ℕ) → IsChoice classes.Before classes.Near (and_of (others d)) and_goes_on expr_goes_on
orders d = record { first_in = refl; second_in = refl; first_apart = refl; second_apart = refl; follows = refl }

module _ (d : ℕ) where
  -- A join: leaves, or another atom.
  pub join_leaf : {before : List Mark} (now : List Mark) (result : Result (Unit {0}) ℕ) → IsNextOf query_marks classes.Leaf before true → Recognizes leaves join_goes_on before result now → Recognizes (join_of (others d)) join_goes_on before result now
  unfolding In
  join_leaf now (Ok done) n h = takes_if n (and_first (excludes query_marks classes.Leaf (others d)) (all_in query_marks join_goes_on join_goes_on) (leaf_excluded d)) (takes_as (λ u i. inl i) h)
  join_leaf now (Err place) n h = fails_if n (and_first (excludes query_marks classes.Leaf (others d)) (all_in query_marks join_goes_on join_goes_on) (leaf_excluded d)) h

  pub join_other : {c : Class} {before : List Mark} (now : List Mark) (result : Result (Unit {0}) ℕ) → IsNextOf query_marks c before true → excludes query_marks c leaves ≡ true → Recognizes (others d) [] before result now → Recognizes (join_of (others d)) join_goes_on before result now
  unfolding In
  join_other now (Ok done) n apart h = takes_second n apart (takes_wider refl (takes_as (λ u i. inr i) h))
  join_other now (Err place) n apart h = fails_second n apart (fails_wider refl h)

  -- An item with NOT, or without.
  pub item_not : {before mid : List Mark} (now : List Mark) (result : Result (Unit {0}) ℕ) → Recognized (one classes.Not) [] before mid → IsNextOf query_marks classes.Not before true → Recognizes (join_of (others d)) join_goes_on mid result now → Recognizes (item_of (others d)) alternatives_go_on before result now
  unfolding In
  item_not now (Ok done) between n h = takes_if n (not_excluded d) (takes_as (λ u i. inl i) (plain_seq between (takes_wider refl h)))
  item_not now (Err place) between n h = fails_if n (not_excluded d) (plain_next between (fails_wider refl h))

  pub item_plain : {before there : List Mark} (now : List Mark) (result : Result (Unit {0}) ℕ) → there ≡ before → IsNextOf query_marks classes.Not before false → Recognizes (alternatives_of (others d)) alternatives_go_on there result now → Recognizes (item_of (others d)) alternatives_go_on before result now
  unfolding In
  item_plain now (Ok done) same n h = takes_else n refl (from_there same (takes_as (λ u i. inr i) h))
  item_plain now (Err place) same n h = fails_else n refl (fails_there same h)

  -- A section: its limits, and the items that were read so far.
  abbrev pub SectionRead : List Mark → List Mark → Type 0
  SectionRead before now =
      (mid : List Mark) × Recognized (many (one classes.Limit)) (classes.Limit ∷ []) before mid
      × PartsRead (item_of (others d)) (item_of (others d)) items_go_on mid now

  pub section_first : {before mid now : List Mark} → Recognized (many (one classes.Limit)) (classes.Limit ∷ []) before mid → Recognized (item_of (others d)) alternatives_go_on mid now → SectionRead before now
  section_first {before} {mid} limits h = (mid, limits, parts_first h (items_follow d))

  pub no_item : {before mid : List Mark} {e : Or ℕ} → Recognized (many (one classes.Limit)) (classes.Limit ∷ []) before mid → FailsPart query_marks (item_of (others d)) alternatives_go_on mid e → FailsPart query_marks (section_of (others d)) items_go_on before e
  no_item limits h = items_fail d limits (first_fails d h)

  begins : {c : Class} {mid : List Mark} → IsNextClass c mid → IsNextOf query_marks c mid true
  begins {c} n = class_is c true n (itself c)

  pub section_more : {c : Class} {before mid now : List Mark} → SectionRead before mid → IsNextClass c mid → begins_item c ≡ true → Recognized (item_of (others d)) alternatives_go_on mid now → SectionRead before now
  section_more {c} (start, limits, row) n among h = (start, limits, parts_more row (begins n) (item_among c among) h (items_follow d))

  pub section_fails : {c : Class} {before mid : List Mark} {e : Or ℕ} → SectionRead before mid → IsNextClass c mid → begins_item c ≡ true → FailsPart query_marks (item_of (others d)) alternatives_go_on mid e → FailsPart query_marks (section_of (others d)) items_go_on before e
  section_fails {c} (start, limits, row) n among h = items_fail d limits (parts_fail row (begins n) (item_among c among) h (items_follow d))

  pub section_done : {c : Class} {before now : List Mark} → SectionRead before now → IsNextClass c now → begins_item c ≡ false → Recognized (section_of (others d)) items_go_on before now
  section_done {c} (start, limits, row) n over = part_then limits (limits_follow d) (parts_done row (over_if query_marks _ (begins n) (item_apart d c over)))

  -- An AND: sections that were read so far.
  abbrev pub SectionsRead : List Mark → List Mark → Type 0
  SectionsRead before now = PartsRead (section_of (others d)) (one classes.Limit ⨾ section_of (others d)) and_goes_on before now

  pub sections_first : {before now : List Mark} → Recognized (section_of (others d)) items_go_on before now → SectionsRead before now
  sections_first h = parts_first h refl

  pub sections_more : {before mid there now : List Mark} → SectionsRead before mid → Recognized (one classes.Limit) [] mid there → IsNextOf query_marks classes.Limit mid true → Recognized (section_of (others d)) items_go_on there now → SectionsRead before now
  sections_more row between n h = parts_more row n refl (part_then between (any_follows query_marks (section_of (others d)) items_go_on) h) refl

  pub sections_fail : {before mid there : List Mark} {e : Or ℕ} → SectionsRead before mid → Recognized (one classes.Limit) [] mid there → IsNextOf query_marks classes.Limit mid true → FailsPart query_marks (section_of (others d)) items_go_on there e → FailsPart query_marks (and_of (others d)) and_goes_on before e
  sections_fail row between n h = parts_fail row n refl (plain_next between h) refl

  pub sections_done : {before there now : List Mark} → SectionsRead before there → now ≡ there → IsNextOf query_marks classes.Limit there false → Recognized (and_of (others d)) and_goes_on before now
  sections_done row same n = now_there same (parts_done row (over_else query_marks _ n refl))

-- a whole query
pub whole : {before mid there : List Mark} → TakesPart query_marks (optional (one classes.Relaxed)) (classes.Relaxed ∷ []) (IsPerhaps (Is signs.Relaxed)) before mid → Recognized (expr_of (others 32)) expr_goes_on mid there → IsNextOf query_marks classes.End there true → is_ended there ≡ true → StopsAt before None
unfolding In query
whole {before} relaxed expr n ended =
    (query_agrees 32).value before (value_of (takes_seq (takes_as (λ u h. perhaps u h) relaxed) (relaxed_follows 32) (takes_seq expr refl (takes_as (λ u (m, is, sign). (m, is, class_fits signs.End m sign)) (end_taken n ended)))))
  where
    perhaps : (u : List Mark) → IsPerhaps (Is signs.Relaxed) u → In query_marks (optional (one classes.Relaxed)) u
    perhaps u (inl (m, is, sign)) = inl (m, is, class_fits signs.Relaxed m sign)
    perhaps u (inr is) = inr is
