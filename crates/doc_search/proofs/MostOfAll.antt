-- The most that any document weighs that matches a question without conditions.
use Rattle.std.proofs.Common.{◌≡◌, ◌≢◌, ◌∙◌, ℕ, ◌<◌, ◌≤◌, zero, suc, Bool, true, false, ◌&&◌, List, [], ◌∷◌, Some, length, get_or, refl, sym, ap, subst, arith}
use Rattle.std.specs.Prelude.{Any}
use Rattle.std.specs.List.{list_any, range_with_len}
use Rattle.std.proofs.lemmas.List.Elements.{All-weaker}
use Rattle.doc_types.specs.declared.documents.DocRow.{DocRow}
use Rattle.doc_types.specs.declared.hits.Hit.{Hit}
use Rattle.doc_types.specs.declared.hits.Hits.{Hits}
use Rattle.doc_types.specs.Chunks.{hits_of}
use Rattle.query_tree.specs.TreeKeys.{query_keys}
use Rattle.query_tree.specs.declared.key.Key.{Key}
use Rattle.query_tree.specs.declared.query.Node.TheVariants as nodes
use Rattle.query_tree.specs.declared.query.Query.{Query}
use Rattle.query_tree.proofs.NodeKeys.{keys_word}
use Rattle.word_rows.specs.Keywords.{allows, has_field}
use Rattle.op_eval.specs.Hits.{AreHits}
use Rattle.op_eval.specs.Matching.{number_in}
use Rattle.op_eval.specs.Numbered.{IsHitOf}
use Rattle.op_eval.proofs.KeywordHits.{hits_keyed}
use Rattle.op_eval.proofs.Searches.{query_keys_are}
use Rattle.rankers.specs.Fields.{AreInFields, AreOfOne, has_bit}
use Rattle.rankers.specs.Limits.{AreOfPositions}
use Rattle.rankers.specs.Weight.{AreRanked, weight}
use Rattle.rankers.specs.declared.ranker.Ranker.{Ranker}
use Rattle.row_select.specs.Filters.{is_weighed}
use Rattle.doc_search.specs.Rankings.{weigh}
use Rattle.doc_search.specs.declared.question.Question.{Question}
use Rattle.doc_search.specs.declared.ranking.Ranking.{Ranking}
use Rattle.doc_search.specs.declared.ranking.Ranking.TheVariants as rankings
use Rattle.doc_search.specs.steps.Gathering.{GivesOne, IsAskedOfDocs, WeighNoMore}
use Rattle.doc_search.proofs.ByWords.{of_range}
use Rattle.doc_search.proofs.Members.{in_filter}
use Rattle.doc_search.proofs.Weighing.{are_ranked, doc_of}
use Rattle.std.proofs.lemmas.List.FromFn.{length-range_with_len}

-- where each document weighs 1
pub no_more_than_one : (question : Question) (docs : List DocRow) → GivesOne question → question.filters ≡ [] → WeighNoMore question docs 1
no_more_than_one question docs gives none = record {
  none = none;
  each = λ number doc here fits. record { fits = fits; any = ap (list_any is_weighed) none; least = λ list are. (1, gives doc list, omega arith) };
}

-- ---- hits of the only keyword

first_of_both : (a b : Bool) → (a && b) ≡ true → a ≡ true
first_of_both true b both = refl
first_of_both false b both = both

only_one : (key : Key) (keys : List Key) (k : ℕ) (x : Key) → keys ≡ key ∷ [] → k < length keys → get_or keys k x ≡ x → x ≡ key
only_one key keys k x is within at = by k (subst (λ (its : List Key). k < length its) is within) (subst (λ (its : List Key). get_or its k x ≡ x) is at)
  where
    by : (k : ℕ) → k < length (key ∷ []) → get_or (key ∷ []) k x ≡ x → x ≡ key
    by zero within at = sym at
    by (suc k) within at = absurd (omega (arith, within))

module _ (query : Query) (row : DocRow) (key : Key) (is : query.root ≡ Some (nodes.Word key)) where
  keys_are : query_keys query ≡ key ∷ []
  keys_are = query_keys_are query (nodes.Word key) is ∙ keys_word key

  its_hit : (hit : Hit) → Any (IsHitOf query row hit) (query_keys query) → IsHitOf query row hit key
  its_hit hit of = subst (IsHitOf query row hit) (only_one key (query_keys query) of.0 of.1 keys_are of.2 of.3) of.4

  one_keyword : (hits : List Hit) → AreHits query row hits → AreOfOne key.query (number_in query key.word) hits
  one_keyword hits are =
      All-weaker (λ hit. Any (IsHitOf query row hit) (query_keys query)) (λ hit. (hit.query ≡ key.query) × (hit.word ≡ number_in query key.word))
      (λ hit of. let its = its_hit hit of in (its.position, its.word)) hits (hits_keyed query row hits are)

  in_fields : (hits : List Hit) → AreHits query row hits → AreInFields key.limit.fields hits
  in_fields hits are =
      All-weaker (λ hit. Any (IsHitOf query row hit) (query_keys query)) (λ hit. has_bit key.limit.fields hit.field ≡ true)
      (λ hit of.
      let its = its_hit hit of in
      first_of_both (has_field key.limit.fields hit.field) _ (in_filter (allows row key) (hits_of key.word row) (hit.field, hit.position) its.place).1)
      hits (hits_keyed query row hits are)

-- ---- by the ranker's bounds

module _ (question : Question) (docs : List DocRow) (most : ℕ) (asked : IsAskedOfDocs question docs) (none : question.filters ≡ []) (some : question.query.keywords ≢ 0) (ranker : Ranker) (plain : question.ranker ≡ rankings.Plain ranker) where
  abbrev hits_in : List Hit → Hits
  hits_in list = record { keywords = question.query.keywords; list = list }

  no_more : ((doc : DocRow) (list : List Hit) → AreHits question.query doc list → AreRanked (hits_in list) question.weights.list → weight ranker (hits_in list) question.weights.list ≤ most) → WeighNoMore question docs most
  no_more limit = record {
    none = none;
    each = λ number doc here fits. record {
      fits = fits;
      any = ap (list_any is_weighed) none;
      least = λ list are.
          let ranked = are_ranked asked.schema question doc (hits_in list) asked.asked (doc_of asked.schema docs number doc asked.rows here) refl are in
          (weight ranker (hits_in list) question.weights.list, ap (λ (its : Ranking). weigh its (hits_in list) question.weights.list doc.doc.values) plain, limit doc list are ranked);
    };
  }

  pub no_more_by_positions : ((hits : Hits) (positions : List ℕ) → hits.keywords ≢ 0 → AreRanked hits question.weights.list → length positions ≤ question.query.keywords → AreOfPositions positions hits.list → weight ranker hits question.weights.list ≤ most) → WeighNoMore question docs most
  no_more_by_positions limits =
      no_more
      (λ doc list are ranked.
      limits (hits_in list) (range_with_len 1 question.query.keywords) some ranked (omega (arith, length-range_with_len 1 question.query.keywords)) (of_range (hits_in list) question.weights.list ranked))

  pub no_more_by_fields : (key : Key) → question.query.root ≡ Some (nodes.Word key) → ((hits : Hits) (query word : ℕ) → hits.keywords ≢ 0 → AreRanked hits question.weights.list → AreOfOne query word hits.list → AreInFields key.limit.fields hits.list → weight ranker hits question.weights.list ≤ most) → WeighNoMore question docs most
  no_more_by_fields key is limits =
      no_more
      (λ doc list are ranked.
      limits (hits_in list) key.query (number_in question.query key.word) some ranked (one_keyword question.query doc key is list are) (in_fields question.query doc key is list are))
