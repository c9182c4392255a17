use Rattle.std.proofs.Common.{◌≡◌, ◌≢◌, ◌≤◌, ◌∙◌, ℕ, List, true, ap, sym, subst, arith, min, length}
use Rattle.std.specs.List.{list_any}
use Rattle.std.proofs.lemmas.Bool.{and_parts}
use Rattle.doc_types.specs.declared.hits.Hits.{Hits}
use Rattle.query_tree.specs.TreeKeys.{query_keys}
use Rattle.word_rows.specs.Keywords.{present_in}
use Rattle.op_eval.specs.Matching.{matches}
use Rattle.rankers.specs.Fields.{AreInFields}
use Rattle.rankers.specs.Limits.{AreOfPositions}
use Rattle.rankers.specs.Weight.{AreRanked, weight}
use Rattle.row_select.specs.Filters.{is_weighed}
use Rattle.doc_search.specs.declared.question.Question.{Question}
use Rattle.doc_search.specs.declared.ranking.Ranking.TheVariants as rankings
use Rattle.doc_search.proofs.WithoutWeight.{sought_plain}
use Rattle.doc_search.proofs.ByWords.{some_weaker, weighs_within}
use Rattle.doc_search.proofs.windows.most_of.Goals as goal

bounded : (result words keywords own present : ℕ) → result ≡ min words keywords → words ≡ min present 65535 → keywords ≡ own → own ≤ 255 → result ≡ min present own
bounded result words keywords own present is same counts few = omega (arith, is, same, counts, few)

pub returns : goal.returns
returns c = λ docs dead number doc asked here told found.
    let any =
    ap (λ (its : Question). list_any is_weighed its.filters) (sym c.asked.view_is)
    ∙ ap (list_any is_weighed) (sym c.asked.invariant.0)
    ∙ sym c.look_at_weight.ensures
    ∙ c.if-look_at_weight.false in
    let some = subst (λ (its : Question). its.query.keywords ≢ 0) c.asked.view_is c.if-question-eq0.false in
    let plain : c.args.asked.now.ranker ≡ rankings.Plain c.in_ok-ranker.ranker =
    ap (λ (its : Question). its.ranker) (sym c.asked.view_is) ∙ sought_plain c.asked.inside.lacking c.asked.inside.question.now.ranker c.in_ok-ranker.ranker c.in_ok-ranker.ensures in
    let fits : matches c.args.asked.now.query doc ≡ true = (and_parts _ _ (sym told.found ∙ found)).0 in
    some_weaker c.most_within.result
    (λ most limits.
    weighs_within c.args.asked.now docs number doc c.positions_at_most-positions.result c.args.its.fields most asked here some any fits
    (bounded c.positions_at_most-positions.result c.from.result c.asked.inside.question.now.query.keywords c.args.asked.now.query.keywords (present_in doc (query_keys c.args.asked.now.query)) c.positions_at_most-positions.ensures (c.from.ensures ∙ told.words) (ap (λ (its : Question). its.query.keywords) c.asked.view_is) asked.asked.positions.few)
    told.fields c.in_ok-ranker.ranker plain
    (subst (λ (its : Question). (hits : Hits) (positions : List ℕ) → hits.keywords ≢ 0 → AreRanked hits its.weights.list → length positions ≤ c.positions_at_most-positions.result → AreOfPositions positions hits.list → AreInFields c.args.its.fields hits.list → weight c.in_ok-ranker.ranker hits its.weights.list ≤ most) c.asked.view_is limits))
    c.most_within.ensures
