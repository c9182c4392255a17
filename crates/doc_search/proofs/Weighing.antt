-- What the weight of a document asks of its hits, and a row that holds it.
use Rattle.std.proofs.Common.{◌≡◌, ◌≢◌, ◌<◌, ◌≤◌, ℕ, Bool, true, false, List, [], ◌∷◌, Option, Some, None, refl, length, slice_get, sym, ap, subst, ◌∙◌, arith, ⊎_elim}
use Rattle.std.specs.Prelude.{All, ◌==◌, is_some, not, unwrap_or, if◌then◌else◌}
use Rattle.std.proofs.lemmas.Bool.{eq-eqb, ne_eqb}
use Rattle.std.proofs.lemmas.List.Elements.{All-head, All-weaker}
use Rattle.std.proofs.lemmas.Option.{get_or_from_slice_get, slice_get_within, slice_get_cases}
use Rattle.doc_types.specs.declared.documents.DocRow.{DocRow}
use Rattle.doc_types.specs.declared.hits.Hit.{Hit}
use Rattle.doc_types.specs.declared.hits.Hits.{Hits}
use Rattle.doc_types.specs.declared.schema.Schema.{Schema}
use Rattle.doc_types.specs.Documents.{AreRowsOf, IsDocOf}
use Rattle.query_tree.specs.TreeKeys.{query_keys}
use Rattle.query_tree.specs.declared.key.Key.{Key}
use Rattle.query_tree.specs.declared.query.Query.{Query}
use Rattle.op_eval.specs.Fields.{AreFieldsOf, GoesByFields}
use Rattle.op_eval.specs.Hits.{AreHits}
use Rattle.op_eval.specs.Matching.{matches, query_finds}
use Rattle.op_eval.specs.Numbered.{AreHitsWithin, IsHitWithin}
use Rattle.op_eval.specs.Streams.{Stream, Takes}
use Rattle.op_eval.proofs.ByFields.{one_keyword}
use Rattle.op_eval.proofs.NumberedHits.{can_be_weighed}
use Rattle.word_rows.proofs.Opening.{row_there}
use Rattle.rankers.specs.declared.ranker.Ranker.{Ranker}
use Rattle.rankers.specs.declared.ranker.Ranker.TheVariants as rankers
use Rattle.rankers.specs.Weight.{AreRanked, IsRanked}
use Rattle.rank_expr.specs.ByFields.{AreAlone, AreFew}
use Rattle.doc_types.specs.declared.schema.Value.{Value}
use Rattle.doc_search.specs.Rankings.{weigh}
use Rattle.doc_search.specs.declared.ranking.Ranking.{Ranking}
use Rattle.doc_search.specs.declared.ranking.Ranking.TheVariants as rankings
use Rattle.row_select.specs.declared.row.Row.{Row}
use Rattle.doc_search.specs.Searches.{IsAskedOf, IsRowOf}
use Rattle.doc_search.specs.declared.question.Question.{Question}
use Rattle.doc_search.proofs.SomeHits.{all_ordered, are_its_hits, hits_of}
use Rattle.doc_search.specs.steps.ByFields.{LooksAtFields}
use Rattle.doc_search.specs.steps.Lacking.{sought}
use Rattle.doc_search.specs.steps.Gathering.{AreValuesFor, GivesOne, HasRead, IsAskedOfDocs, IsWeightOf, IsWeighed}

-- a hit within the limits can be ranked
is_ranked : (keywords fields : ℕ) (hit : Hit) → IsHitWithin keywords fields hit → IsRanked keywords fields hit
is_ranked keywords fields hit within = record { from_one = within.from_one; query = within.query; field = within.field; position = within.position }

pub are_ranked : (schema : Schema) (question : Question) (doc : DocRow) (hits : Hits) → IsAskedOf schema question → IsDocOf schema doc.doc → hits.keywords ≡ question.query.keywords → AreHits question.query doc hits.list → AreRanked hits question.weights.list
are_ranked schema question doc hits asked its keywords are =
    let fields : length doc.doc.fields ≡ length question.weights.list = its.fields ∙ sym asked.weights in
    let within : AreHitsWithin hits.keywords (length question.weights.list) hits.list =
    rw (keywords, ← fields) (can_be_weighed question.query doc hits.list asked.positions its.tokens are) in
    record {
      keywords = omega (arith, keywords, asked.positions.few);
      fields = omega (arith, asked.weights, asked.few_fields);
      each_weight = asked.each_weight;
      each_hit = All-weaker (IsHitWithin hits.keywords (length question.weights.list)) (IsRanked hits.keywords (length question.weights.list)) (is_ranked hits.keywords (length question.weights.list)) hits.list within.each;
      apart = within.apart;
    }

pub doc_of : (schema : Schema) (docs : List DocRow) (number : ℕ) (doc : DocRow) → AreRowsOf schema docs → slice_get docs number ≡ Some doc → IsDocOf schema doc.doc
doc_of schema docs number doc rows here = subst (λ (row : DocRow). IsDocOf schema row.doc) (get_or_from_slice_get docs number doc doc here) (rows.docs number doc (slice_get_within docs number doc here))

-- the hits of a row that matches can be ranked
pub ranked_at : (question : Question) (docs : List DocRow) (number : ℕ) (hits : Hits) → IsAskedOfDocs question docs → number < length docs → hits.keywords ≡ question.query.keywords → ((doc : DocRow) → slice_get docs number ≡ Some doc → AreHits question.query doc hits.list) → AreRanked hits question.weights.list
ranked_at question docs number hits asked within keywords are =
    ⊎_elim
    (λ there. are_ranked asked.schema question there.0 hits asked.asked (doc_of asked.schema docs number there.0 asked.rows there.2) keywords (are there.0 there.2))
    (λ past. absurd (omega (arith, past.0)))
    (slice_get_cases docs number).1

-- what was taken of a document that matches can be ranked
pub taken_ranked : (question : Question) (old new : Stream) (before hits : Hits) → IsAskedOfDocs question old.rows → old.query ≡ question.query → old.at < length old.rows → Takes old true before hits new → AreRanked hits question.weights.list
taken_ranked question old new before hits asked query within takes =
    let there = row_there old.rows old.at within in
    ranked_at question old.rows old.at hits asked within
    ((takes.tells there.0 there.1).1 ∙ ap (λ (its : Query). its.keywords) query)
    (λ doc here. subst (λ its. AreHits its doc hits.list) query (takes.tells doc here).2)

-- and weighs what its hits weigh
pub taken_weighs : (question : Question) (old new : Stream) (before hits : Hits) (weighed : Option ℕ) (values : List Value) (doc : DocRow) → old.query ≡ question.query → Takes old true before hits new → slice_get old.rows old.at ≡ Some doc → AreValuesFor question doc values → weighed ≡ weigh question.ranker hits question.weights.list values → IsWeighed question doc (Some weighed)
taken_weighs question old new before hits weighed values doc query takes here are_its is =
    let told = takes.tells doc here in (
      ap (λ its. matches its doc) (sym query) ∙ told.0,
      record {
        hits = hits.list;
        are = subst (λ its. AreHits its doc hits.list) query told.2;
        is = is ∙ are_its hits question.weights.list ∙ ap (λ count. weigh question.ranker (record { keywords = count; list = hits.list }) question.weights.list doc.doc.values) (told.1 ∙ ap (λ (its : Query). its.keywords) query);
      },
    )

-- the ranker that looks at no hits weighs each document that matches 1
whichever : (b : Bool) (n : ℕ) → (if b then n else n) ≡ n
whichever true n = refl
whichever false n = refl

one_weight : (ranking : Ranking) (hits : Hits) (weights : List ℕ) (values : List Value) → ranking ≡ rankings.Plain rankers.None → weigh ranking hits weights values ≡ Some 1
one_weight ranking hits weights values is = ap (λ (its : Ranking). weigh its hits weights values) is ∙ ap Some (whichever (hits.keywords == 0) 1)

pub one_by_ranker : (question : Question) → question.ranker ≡ rankings.Plain rankers.None → GivesOne question
one_by_ranker question is = λ doc hits. one_weight question.ranker (record { keywords = question.query.keywords; list = hits }) question.weights.list doc.doc.values is

-- and so is each document of a query without a keyword
of_none : (ranking : Ranking) (hits : List Hit) (weights : List ℕ) (values : List Value) → weigh ranking (record { keywords = 0; list = hits }) weights values ≡ Some 1
of_none (rankings.Plain ranker) hits weights values = refl
of_none (rankings.Expr expr) hits weights values = refl
of_none (rankings.Lacking expr) hits weights values = refl

no_keywords : (ranking : Ranking) (keywords : ℕ) (hits : List Hit) (weights : List ℕ) (values : List Value) → keywords ≡ 0 → weigh ranking (record { keywords = keywords; list = hits }) weights values ≡ Some 1
no_keywords ranking keywords hits weights values none = ap (λ (count : ℕ). weigh ranking (record { keywords = count; list = hits }) weights values) none ∙ of_none ranking hits weights values

pub one_without_keywords : (question : Question) → question.query.keywords ≡ 0 → GivesOne question
one_without_keywords question none = λ doc hits. no_keywords question.ranker question.query.keywords hits question.weights.list doc.doc.values none

pub weighs_one : (question : Question) (query : Query) (doc : DocRow) → GivesOne question → query ≡ question.query → matches query doc ≡ true → IsWeighed question doc (Some (Some 1))
weighs_one question query doc gives same fits = (
  ap (λ its. matches its doc) (sym same) ∙ fits,
  record {
    hits = hits_of question.query doc;
    are = are_its_hits question.query doc;
    is = sym (gives doc (hits_of question.query doc));
  },
)

-- the row of a document that was read, once it has the document's weight
pub row_of : (question : Question) (doc : DocRow) (row : Row) → HasRead doc row → IsWeightOf question doc (Some row.weight) → IsRowOf question doc row
row_of question doc row read weighed = record {
  hits = weighed.hits;
  are = weighed.are;
  id = read.id;
  weight = ap (λ (weight : Option ℕ). unwrap_or weight 0) weighed.is;
  ranked = λ passing. ap (λ (weight : Option ℕ). is_some weight) (sym weighed.is);
  values = read.values;
}

-- ---- by the fields that have hits

-- one of hits alone always gives a weight
pub sought_plain : (lacking : Bool) (ranker : Ranker) → sought lacking (rankings.Plain ranker) ≡ rankings.Plain ranker
sought_plain true ranker = refl
sought_plain false ranker = refl

-- a ranker that is asked whether a document has a weight looks at what it looks at else
pub sought_looks : (lacking : Bool) (ranking : Ranking) → LooksAtFields ranking → LooksAtFields (sought lacking ranking)
sought_looks true (rankings.Plain ranker) looks = looks
sought_looks true (rankings.Expr expr) looks = looks
sought_looks true (rankings.Lacking expr) looks = looks
sought_looks false ranking looks = looks

pub looks_unsought : (lacking : Bool) (ranking : Ranking) → LooksAtFields (sought lacking ranking) → LooksAtFields ranking
looks_unsought true (rankings.Plain ranker) looks = looks
looks_unsought true (rankings.Expr expr) looks = looks
looks_unsought true (rankings.Lacking expr) looks = looks
looks_unsought false ranking looks = looks

-- keywords and fields are few
pub are_few : (question : Question) (docs : List DocRow) → IsAskedOfDocs question docs → AreFew question.query.keywords question.weights.list
are_few question docs asked = record {
  keywords = asked.asked.positions.few;
  fields = omega (arith, asked.asked.weights, asked.asked.few_fields);
  each_weight = asked.asked.each_weight;
}

-- a query with one keyword counts some
some_keyword : (keys : List Key) (keywords : ℕ) → length keys ≡ 1 → All (λ key. (1 ≤ key.query) × (key.query ≤ keywords)) keys → keywords ≢ 0
some_keyword [] keywords one each none = absurd (omega (arith, one))
some_keyword (key ∷ keys) keywords one each none =
    let first = All-head (λ (own : Key). (1 ≤ own.query) × (own.query ≤ keywords)) key keys each in
    omega (arith, first.0, first.1, none)

-- a document that matches weighs what its fields tell
pub fields_weigh : (question : Question) (docs : List DocRow) (query : Query) (number fields : ℕ) (weighed : Option ℕ) (values : List Value) (doc : DocRow) → IsAskedOfDocs question docs → query ≡ question.query → GoesByFields query → slice_get docs number ≡ Some doc → AreFieldsOf (query_finds query doc) fields → fields ≢ 0
    → AreValuesFor question doc values
    → ((hits : Hits) → AreAlone question.query.keywords fields question.weights.list hits → weighed ≡ weigh question.ranker hits question.weights.list values)
    → IsWeighed question doc (Some weighed)
fields_weigh question docs query number fields weighed values doc asked same word here are some are_its is =
    let its : AreFieldsOf (query_finds question.query doc) fields = subst (λ (q : Query). AreFieldsOf (query_finds q doc) fields) same are in
    let alone = one_keyword question.query (subst GoesByFields same word) in
    let hits : Hits = record { keywords = question.query.keywords; list = hits_of question.query doc } in
    let ordered = are_its_hits question.query doc in (
      its.told ∙ ap not (ne_eqb fields 0 some),
      record {
        hits = hits_of question.query doc;
        are = ordered;
        is =
            is hits (record {
              query = its.position;
              word = its.word;
              keywords = refl;
              some = some_keyword (query_keys question.query) question.query.keywords alone asked.asked.positions.within;
              ranked = are_ranked asked.schema question doc hits asked.asked (doc_of asked.schema docs number doc asked.rows here) refl ordered;
              one = all_ordered (λ hit. (hit.query ≡ its.position) × (hit.word ≡ its.word)) (query_finds question.query doc).hits its.one;
              are = λ field. its.each field ∙ sym (ordered.all (λ hit. hit.field == field));
            })
            ∙ are_its hits question.weights.list;
      },
    )

-- one without a field doesn't match
pub no_field_matches : (question : Question) (query : Query) (fields : ℕ) (doc : DocRow) → query ≡ question.query → AreFieldsOf (query_finds query doc) fields → fields ≡ 0 → IsWeighed question doc None
no_field_matches question query fields doc same are none = ap (λ q. matches q doc) (sym same) ∙ (are.told ∙ ap not (eq-eqb fields 0 none))
