use Rattle.std.proofs.Common.{◌≡◌, ◌≢◌, ◌≤◌, ◌∙◌, ℕ, List, length, ap, sym, subst, arith, min}
use Rattle.std.specs.List.{list_any}
use Rattle.doc_types.specs.declared.hits.Hits.{Hits}
use Rattle.query_tree.specs.TreeKeys.{query_keys}
use Rattle.word_rows.specs.Keywords.{present_in}
use Rattle.op_eval.specs.Matching.{matches}
use Rattle.rankers.specs.Limits.{AreOfPositions}
use Rattle.rankers.specs.Weight.{AreRanked, weight}
use Rattle.row_select.specs.Filters.{is_weighed}
use Rattle.doc_search.specs.declared.question.Question.{Question}
use Rattle.doc_search.specs.declared.ranking.Ranking.TheVariants as rankings
use Rattle.doc_search.proofs.WithoutWeight.{sought_plain}
use Rattle.doc_search.proofs.ByWords.{some_weaker, weighs_up_to}
use Rattle.doc_search.proofs.by_words.most_by_words.Goals as goal

bounded : (result words keywords own present : ℕ) → result ≡ min words keywords → words ≡ present → keywords ≡ own → result ≡ min present own
bounded result words keywords own present is same counts = omega (arith, is, same, counts)

pub most_weight-requires-clause-keywords : goal.most_weight-requires-clause-keywords
most_weight-requires-clause-keywords g c =
    let few = c.requires.asked.asked.positions.few in
    let same = ap (λ (its : Question). its.query.keywords) c.asked.view_is in
    omega (arith, c.positions_at_most-positions.ensures, few, same)

pub returns-clause-weighs : goal.returns-clause-weighs
returns-clause-weighs g c = λ doc here.
    let sure = c.in_ok-words.ensures.sure doc here in
    let any =
    ap (λ (its : Question). list_any is_weighed its.filters) (sym c.asked.view_is)
    ∙ ap (list_any is_weighed) (sym c.asked.invariant.0)
    ∙ sym c.look_at_weight.ensures
    ∙ c.if-look_at_weight.false in
    let some = subst (λ (its : Question). its.query.keywords ≢ 0) c.asked.view_is c.if-question-eq0.false in
    let plain : c.args.asked.now.ranker ≡ rankings.Plain c.in_ok-ranker.ranker =
    ap (λ (its : Question). its.ranker) (sym c.asked.view_is) ∙ sought_plain c.asked.inside.lacking c.asked.inside.question.now.ranker c.in_ok-ranker.ranker c.in_ok-ranker.ensures in
    some_weaker c.most_weight.result
    (λ most limits.
    weighs_up_to c.args.asked.now c.args.stream.now.rows c.args.stream.now.at doc c.positions_at_most-positions.result most c.requires.asked here some any (ap (λ its. matches its doc) (sym c.requires.query) ∙ sure.0)
    (bounded c.positions_at_most-positions.result c.in_ok-words.words c.asked.inside.question.now.query.keywords c.args.asked.now.query.keywords (present_in doc (query_keys c.args.asked.now.query)) c.positions_at_most-positions.ensures (sure.1 ∙ ap (λ query. present_in doc (query_keys query)) c.requires.query) (ap (λ (its : Question). its.query.keywords) c.asked.view_is)) c.in_ok-ranker.ranker plain
    (subst (λ (its : Question). (hits : Hits) (positions : List ℕ) → hits.keywords ≢ 0 → AreRanked hits its.weights.list → length positions ≤ c.positions_at_most-positions.result → AreOfPositions positions hits.list → weight c.in_ok-ranker.ranker hits its.weights.list ≤ most) c.asked.view_is limits))
    c.most_weight.ensures
