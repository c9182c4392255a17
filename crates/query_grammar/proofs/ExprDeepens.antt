-- Each text of an expression that is cut goes on with a group one deeper, unless the cut is after SENTENCE or PARAGRAPH.
use Rattle.std.proofs.Common.{◌≡◌, ℕ, zero, suc, [], true, refl}
use Rattle.token_grammar.specs.Language.{Re, one, many, In, optional, ◌⨾◌, ◌∣◌}
use Rattle.token_grammar.proofs.Laws.{nullable_has}
use Rattle.query_marks.specs.declared.mark.Mark.{Mark}
use Rattle.query_grammar.specs.declared.class.Class.{Class}
use Rattle.query_grammar.specs.declared.class.Class.TheVariants as classes
use Rattle.query_grammar.specs.steps.Classes.{fits}
use Rattle.query_grammar.specs.steps.MarkAlphabet.{query_marks}
use Rattle.query_grammar.specs.steps.QueryGrammar.{leaf, leaves, join_of, alternatives_of, item_of, items_of, section_of, and_of, expr_of, others, query}
use Rattle.query_grammar.proofs.MarkClasses.{joining_like}
use Rattle.query_grammar.proofs.GroupsCut.{group}
use Rattle.query_grammar.proofs.Deepening.{Deepens, BeginsWith, deepens_next, deepens_after, deepens_alt, deepens_left, deepens_one, deepens_empty, deepens_many, deepens_joined, ended_row, ended_left, one_more, begun, begins_first, begins_later, begins_other}

module _ {m : Mark} (o : Re Class) (opens : BeginsWith m o) where
  -- each part may begin with a group
  join_begins : BeginsWith m (join_of o)
  join_begins = begins_other opens

  item_begins : BeginsWith m (item_of o)
  item_begins = begins_other (begins_first (many (one classes.Or ⨾ join_of o ∣ one classes.Maybe ⨾ join_of o)) join_begins)

  items_begin : BeginsWith m (items_of o)
  items_begin = begins_first (many (item_of o)) item_begins

  section_begins : BeginsWith m (section_of o)
  section_begins = begins_later (nullable_has query_marks (many (one classes.Limit)) refl) items_begin

  and_begins : BeginsWith m (and_of o)
  and_begins = begins_first (many (one classes.Limit ⨾ section_of o)) section_begins

  pub expr_begins : BeginsWith m (expr_of o)
  expr_begins = begins_first (many (one classes.Before ⨾ and_of o ∣ one classes.Near ⨾ and_of o)) and_begins

leaves_deepen : (m : Mark) → Deepens m (Unit {0}) leaves leaves
leaves_deepen m =
    let sentence : Deepens m (Unit {0}) (one classes.Sentence ⨾ leaf) (one classes.Sentence ⨾ leaf) = deepens_joined classes.Sentence (λ x f. joining_like classes.Sentence x f) in
    let paragraph : Deepens m (Unit {0}) (one classes.Paragraph ⨾ leaf) (one classes.Paragraph ⨾ leaf) = deepens_joined classes.Paragraph (λ x f. joining_like classes.Paragraph x f) in
    deepens_next (deepens_one classes.Leaf) (deepens_alt (deepens_many sentence (λ may. ended_row)) (deepens_many paragraph (λ may. ended_row))) (ended_left ended_row)

module _ {m : Mark} (o o' : Re Class) (group : Deepens m (Unit {0}) o o') (opens : BeginsWith m o') where
  join_deepens : Deepens m (Unit {0}) (join_of o) (join_of o')
  join_deepens = deepens_alt (leaves_deepen m) group

  -- after a mark a join is begun
  marked_deepens : (c : Class) → Deepens m (Unit {0}) (one c ⨾ join_of o) (one c ⨾ join_of o')
  marked_deepens c = deepens_next (deepens_one c) join_deepens (begun (join_begins o' opens))

  alternatives_deepen : Deepens m (Unit {0}) (alternatives_of o) (alternatives_of o')
  alternatives_deepen = deepens_next join_deepens (deepens_many (deepens_alt (marked_deepens classes.Or) (marked_deepens classes.Maybe)) (λ may. ended_row)) ended_row

  item_deepens : Deepens m (Unit {0}) (item_of o) (item_of o')
  item_deepens = deepens_alt (marked_deepens classes.Not) alternatives_deepen

  -- after an item a further one may stand
  items_deepen : Deepens m ⊥ (items_of o) (items_of o')
  items_deepen =
      let item : BeginsWith m (item_of o') = item_begins o' opens in
      deepens_next item_deepens (deepens_many item_deepens (λ may. one_more item)) (one_more item)

  section_deepens : Deepens m ⊥ (section_of o) (section_of o')
  section_deepens = deepens_next (deepens_many (deepens_one classes.Limit) (λ may. ended_row)) items_deepen (begun (items_begin o' opens))

  and_deepens : Deepens m ⊥ (and_of o) (and_of o')
  and_deepens =
      let limited : Deepens m ⊥ (one classes.Limit ⨾ section_of o) (one classes.Limit ⨾ section_of o') = deepens_next (deepens_one classes.Limit) section_deepens (begun (section_begins o' opens)) in
      deepens_after section_deepens (deepens_many limited (λ may. absurd may))

  -- after a mark an AND is begun
  ordered_deepens : (c : Class) → Deepens m ⊥ (one c ⨾ and_of o) (one c ⨾ and_of o')
  ordered_deepens c = deepens_next (deepens_one c) and_deepens (begun (and_begins o' opens))

  pub expr_deepens : Deepens m ⊥ (expr_of o) (expr_of o')
  expr_deepens = deepens_after and_deepens (deepens_many (deepens_alt (ordered_deepens classes.Before) (ordered_deepens classes.Near)) (λ may. absurd may))

open_begins : (m : Mark) → fits classes.Open m ≡ true → BeginsWith m (one classes.Open)
unfolding In
open_begins m opens = record { later = []; is = (m, refl, opens) }

others_begin : (m : Mark) (d : ℕ) → fits classes.Open m ≡ true → BeginsWith m (others (suc d))
unfolding others
others_begin m d opens = begins_other (begins_first (expr_of (others d) ⨾ one classes.Close) (open_begins m opens))

others_deepen : (m : Mark) (d : ℕ) → fits classes.Open m ≡ true → Deepens m (Unit {0}) (others d) (others (suc d))
unfolding others
others_deepen m zero opens = deepens_left (group (others zero)) (deepens_one classes.Loose)
others_deepen m (suc d) opens =
    let begins : BeginsWith m (others (suc d)) = others_begin m d opens in
    let inside : Deepens m ⊥ (expr_of (others d)) (expr_of (others (suc d))) = expr_deepens (others d) (others (suc d)) (others_deepen m d opens) begins in
    let closed : Deepens m (Unit {0}) (expr_of (others d) ⨾ one classes.Close) (expr_of (others (suc d)) ⨾ one classes.Close) = deepens_after inside (deepens_one classes.Close) in
    deepens_alt (deepens_one classes.Loose) (deepens_next (deepens_one classes.Open) closed (begun (begins_first (one classes.Close) (expr_begins (others (suc d)) begins))))

pub query_begins : (m : Mark) (d : ℕ) → fits classes.Open m ≡ true → BeginsWith m (query (suc d))
unfolding query
query_begins m d opens =
    begins_later (nullable_has query_marks (optional (one classes.Relaxed)) refl) (begins_first (one classes.End) (expr_begins (others (suc d)) (others_begin m d opens)))

pub query_deepens : (m : Mark) (d : ℕ) → fits classes.Open m ≡ true → Deepens m (Unit {0}) (query d) (query (suc d))
unfolding query
query_deepens m d opens =
    let begins : BeginsWith m (others (suc d)) = others_begin m d opens in
    let expr : Deepens m ⊥ (expr_of (others d)) (expr_of (others (suc d))) = expr_deepens (others d) (others (suc d)) (others_deepen m d opens) begins in
    let ended : Deepens m (Unit {0}) (expr_of (others d) ⨾ one classes.End) (expr_of (others (suc d)) ⨾ one classes.End) = deepens_after expr (deepens_one classes.End) in
    deepens_next (deepens_alt (deepens_one classes.Relaxed) deepens_empty) ended (begun (begins_first (one classes.End) (expr_begins (others (suc d)) begins)))
