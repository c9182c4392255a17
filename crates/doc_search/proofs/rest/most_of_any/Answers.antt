use Rattle.std.proofs.Common.{◌≡◌, ◌≢◌, ◌≤◌, ◌∙◌, ℕ, List, [], Some, ap, length, rules, subst, sym}
use Rattle.doc_types.specs.declared.hits.Hits.{Hits}
use Rattle.query_tree.specs.declared.query.Node.TheVariants as nodes
use Rattle.rankers.specs.Fields.{AreInFields, AreOfOne}
use Rattle.rankers.specs.Limits.{AreOfPositions}
use Rattle.rankers.specs.Weight.{AreRanked, weight}
use Rattle.doc_search.specs.declared.question.Question.{Question}
use Rattle.doc_search.specs.declared.ranking.Ranking.TheVariants as rankings
use Rattle.doc_search.proofs.ByWords.{some_weaker}
use Rattle.doc_search.proofs.MostOfAll.{no_more_by_fields, no_more_by_positions}
use Rattle.doc_search.proofs.WithoutWeight.{sought_plain}
use Rattle.doc_search.proofs.rest.most_of_any.Goals as goal

pub returns-in-Some : goal.returns-in-Some
returns-in-Some c = λ docs asked.
    let question = c.args.asked.now in
    let empty : c.asked.inside.question.now.filters ≡ [] = search rules in
    let none : question.filters ≡ [] = ap (λ (its : Question). its.filters) (sym c.asked.view_is) ∙ empty in
    let some = subst (λ (its : Question). its.query.keywords ≢ 0) c.asked.view_is c.if-question-eq0.false in
    let plain : question.ranker ≡ rankings.Plain c.in_ok-ranker.ranker =
    ap (λ (its : Question). its.ranker) (sym c.asked.view_is) ∙ sought_plain c.asked.inside.lacking c.asked.inside.question.now.ranker c.in_ok-ranker.ranker c.in_ok-ranker.ensures in
    let is : question.query.root ≡ Some (nodes.Word c.in-Some.key.now) = ap (λ (its : Question). its.query.root) (sym c.asked.view_is) ∙ c.in-Some.ensures in
    some_weaker c.most_of_fields.result
    (λ most limits.
    no_more_by_fields question docs most asked none some c.in_ok-ranker.ranker plain c.in-Some.key.now is
    (subst (λ (its : Question). (hits : Hits) (query word : ℕ) → hits.keywords ≢ 0 → AreRanked hits its.weights.list → AreOfOne query word hits.list → AreInFields c.in-Some.key.now.limit.fields hits.list → weight c.in_ok-ranker.ranker hits its.weights.list ≤ most) c.asked.view_is limits))
    c.most_of_fields.ensures

pub returns-in-None-only_word : goal.returns-in-None-only_word
returns-in-None-only_word c = λ docs asked.
    let question = c.args.asked.now in
    let empty : c.asked.inside.question.now.filters ≡ [] = search rules in
    let none : question.filters ≡ [] = ap (λ (its : Question). its.filters) (sym c.asked.view_is) ∙ empty in
    let some = subst (λ (its : Question). its.query.keywords ≢ 0) c.asked.view_is c.if-question-eq0.false in
    let plain : question.ranker ≡ rankings.Plain c.in_ok-ranker.ranker =
    ap (λ (its : Question). its.ranker) (sym c.asked.view_is) ∙ sought_plain c.asked.inside.lacking c.asked.inside.question.now.ranker c.in_ok-ranker.ranker c.in_ok-ranker.ensures in
    let counts : c.from.result ≡ question.query.keywords = c.from.ensures ∙ ap (λ (its : Question). its.query.keywords) c.asked.view_is in
    some_weaker c.most_weight.result
    (λ most limits.
    no_more_by_positions question docs most asked none some c.in_ok-ranker.ranker plain
    (subst (λ (n : ℕ). (hits : Hits) (positions : List ℕ) → hits.keywords ≢ 0 → AreRanked hits question.weights.list → length positions ≤ n → AreOfPositions positions hits.list → weight c.in_ok-ranker.ranker hits question.weights.list ≤ most) counts
    (subst (λ (its : Question). (hits : Hits) (positions : List ℕ) → hits.keywords ≢ 0 → AreRanked hits its.weights.list → length positions ≤ c.from.result → AreOfPositions positions hits.list → weight c.in_ok-ranker.ranker hits its.weights.list ≤ most) c.asked.view_is limits)))
    c.most_weight.ensures
