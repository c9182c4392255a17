-- A document's weight is bounded by how many of the query's words it has.
use Rattle.std.proofs.Common.{◌≡◌, ◌≢◌, ◌<◌, ◌≤◌, ◌++◌, ◌||◌, ◌&&◌, zero, suc, ℕ, Bool, true, false, cond, List, [], ◌∷◌, Option, None, Some, map, length, get_or, slice_get, refl, sym, ap, subst, ◌∙◌, arith, inl, inr, ◌+◌, ◌⊎◌, ⊎_elim, min}
use Rattle.std.specs.Prelude.{Any, Contains, IfSome, nat_eq, not}
use Rattle.std.specs.List.{filter, list_any, range_with_len}
use Rattle.std.proofs.lemmas.List.FromFn.{length-range_with_len}
use Rattle.std.specs.Set.{is_member}
use Rattle.std.proofs.lemmas.Bool.{cases_Bool, eq-eqb, or_left, or_parts, or_right}
use Rattle.std.proofs.lemmas.List.{length-map}
use Rattle.std.proofs.lemmas.List.Elements.{All-weaker}
use Rattle.std.proofs.lemmas.List.Sums.{length-filter}
use Rattle.doc_types.specs.Chunks.{has_word}
use Rattle.doc_types.specs.declared.documents.DocRow.{DocRow}
use Rattle.doc_types.specs.declared.hits.Hit.{Hit}
use Rattle.doc_types.specs.declared.hits.Hits.{Hits}
use Rattle.query_tree.specs.TreeKeys.{query_keys}
use Rattle.query_tree.specs.declared.key.Key.{Key}
use Rattle.query_tree.specs.declared.query.Query.{Query}
use Rattle.word_rows.specs.Keywords.{key_places, present_in}
use Rattle.op_eval.specs.Hits.{AreHits}
use Rattle.op_eval.specs.Matching.{matches}
use Rattle.op_eval.specs.Numbered.{IsHitOf}
use Rattle.op_eval.proofs.KeywordHits.{hits_keyed}
use Rattle.op_eval.proofs.Standing.{filter_always, places_absent}
use Rattle.rankers.specs.Fields.{AreInFields}
use Rattle.rankers.specs.Limits.{AreOfPositions}
use Rattle.rankers.specs.Weight.{AreRanked, IsRanked, weight}
use Rattle.rankers.specs.declared.ranker.Ranker.{Ranker}
use Rattle.doc_search.specs.Rankings.{weigh}
use Rattle.doc_search.specs.declared.ranking.Ranking.{Ranking}
use Rattle.doc_search.specs.declared.ranking.Ranking.TheVariants as rankings
use Rattle.row_select.specs.Columns.{row_of}
use Rattle.row_select.specs.Filters.{hold_unweighed, hold_weighed, holds, is_weighed}
use Rattle.row_select.specs.Sinks.{IsLighter}
use Rattle.row_select.specs.declared.filter.Filter.{Filter}
use Rattle.row_select.specs.declared.row.Row.{Row}
use Rattle.doc_search.specs.declared.question.Question.{Question}
use Rattle.doc_search.specs.steps.Gathering.{Gathers, IsAskedOfDocs, IsWeightOf, WeighsUpTo, unweighed}
use Rattle.doc_search.proofs.Gathering.{gathers_more, passes_as}
use Rattle.doc_search.proofs.SomeHits.{are_its_hits, hits_of}
use Rattle.doc_search.proofs.Weighing as weighing
use Rattle.doc_search.proofs.Weighing.{are_ranked, doc_of}

-- ---- the keywords whose word a row has
module _ (row : DocRow) where
  abbrev is_there : Key → Bool
  is_there key = has_word key.word row

  abbrev positions_in : List Key → List ℕ
  positions_in keys = map (λ (key : Key). key.query) (filter is_there keys)

  so_many : (keys : List Key) → length (positions_in keys) ≡ present_in row keys
  so_many keys = length-map (filter is_there keys) (λ (key : Key). key.query) ∙ length-filter is_there keys

  -- a keyword that has a place has its word there
  word_there : (key : Key) (place : ℕ × ℕ) → Contains (key_places row key) place → has_word key.word row ≡ true
  word_there key place at =
      elim (cases_Bool (has_word key.word row)) [
        | inl there ↦ there
        | inr absent ↦
            (let none : key_places row key ≡ [] = sym (filter_always (key_places row key)) ∙ places_absent row key [] absent in
            let nowhere = subst (λ (places : List (ℕ × ℕ)). Contains places place) none at in
            absurd (omega (arith, nowhere.1)))
      ]

  kept_member : (q : ℕ) (b : Bool) (key : Key) (kept : List Key) → is_member nat_eq (map (λ (k : Key). k.query) kept) q ≡ true → is_member nat_eq (map (λ (k : Key). k.query) (cond b (key ∷ kept) kept)) q ≡ true
  kept_member q true key kept later = or_right (nat_eq q key.query) (is_member nat_eq (map (λ (k : Key). k.query) kept) q) later
  kept_member q false key kept later = later

  own_member : (q : ℕ) (b : Bool) (key : Key) (kept : List Key) → b ≡ true → q ≡ key.query → is_member nat_eq (map (λ (k : Key). k.query) (cond b (key ∷ kept) kept)) q ≡ true
  own_member q b key kept there same =
      ap (λ t. is_member nat_eq (map (λ (k : Key). k.query) (cond t (key ∷ kept) kept)) q) there
      ∙ or_left (nat_eq q key.query) (is_member nat_eq (map (λ (k : Key). k.query) kept) q) (eq-eqb q key.query same)

  position_in : (q : ℕ) (keys : List Key) (k : ℕ) (key : Key) → k < length keys → get_or keys k key ≡ key → has_word key.word row ≡ true → q ≡ key.query → is_member nat_eq (positions_in keys) q ≡ true
  position_in q [] k key within at there same = absurd (omega (arith, within))
  position_in q (x ∷ xs) zero key within at there same =
      own_member q (is_there x) x (filter is_there xs) (ap is_there at ∙ there) (same ∙ ap (λ (k : Key). k.query) (sym at))
  position_in q (x ∷ xs) (suc k) key within at there same = kept_member q (is_there x) x (filter is_there xs) (position_in q xs k key (omega (arith, within)) at there same)

  one_listed : (query : Query) (hit : Hit) → Any (IsHitOf query row hit) (query_keys query) → is_member nat_eq (positions_in (query_keys query)) hit.query ≡ true
  one_listed query hit of =
      let key = of.1 in
      let is = of.4 in
      position_in hit.query (query_keys query) of.0 key of.2 of.3 (word_there key (hit.field, hit.position) is.place) is.position

  -- each hit is of one of them
  all_listed : (query : Query) (hits : List Hit) → AreHits query row hits → AreOfPositions (positions_in (query_keys query)) hits
  all_listed query hits are =
      All-weaker (λ hit. Any (IsHitOf query row hit) (query_keys query)) (λ hit. is_member nat_eq (positions_in (query_keys query)) hit.query ≡ true) (one_listed query) hits (hits_keyed query row hits are)

-- ---- the weight

pub some_weaker : {P Q : ℕ → Type 0} (found : Option ℕ) → ((n : ℕ) → P n → Q n) → IfSome found P → IfSome found Q
some_weaker None weaker holds = tt
some_weaker (Some n) weaker holds = weaker n holds

-- hits that can be ranked are of the query positions from 1 on
in_range : (n k q : ℕ) → k ≤ q → q < k + n → is_member nat_eq (range_with_len k n) q ≡ true
in_range zero k q low high = absurd (omega (arith, low, high))
in_range (suc n) k q low high = ⊎_elim
    (λ (is : q ≡ k). or_left (nat_eq q k) (is_member nat_eq (range_with_len (k + 1) n) q) (eq-eqb q k is))
    (λ (more : k + 1 ≤ q). or_right (nat_eq q k) (is_member nat_eq (range_with_len (k + 1) n) q) (in_range n (k + 1) q more (omega (arith, high))))
    (either k q low)
  where
    either : (k q : ℕ) → k ≤ q → (q ≡ k) ⊎ (k + 1 ≤ q)
    either k q low = grind arith

pub of_range : (hits : Hits) (weights : List ℕ) → AreRanked hits weights → AreOfPositions (range_with_len 1 hits.keywords) hits.list
of_range hits weights ranked =
    All-weaker (IsRanked hits.keywords (length weights)) (λ hit. is_member nat_eq (range_with_len 1 hits.keywords) hit.query ≡ true)
    (λ hit is. in_range hits.keywords 1 hit.query is.from_one (omega (arith, is.query))) hits.list ranked.each_hit

-- no condition is on the weight
none_weighed : (conditions : List Filter) (row : Row) → list_any is_weighed conditions ≡ false → hold_weighed conditions row ≡ true
none_weighed [] row none = refl
none_weighed (condition ∷ conditions) row none =
    let parts = or_parts (is_weighed condition) (list_any is_weighed conditions) none in
    ap (λ b. (not b || holds condition row) && hold_weighed conditions row) parts.0 ∙ none_weighed conditions row parts.1

lesser : (words a b : ℕ) → words ≡ min a b → (words ≡ a) ⊎ (words ≡ b)
lesser words a b is = grind arith

pub weighs_up_to : (question : Question) (docs : List DocRow) (number : ℕ) (doc : DocRow) (words most : ℕ) → IsAskedOfDocs question docs → slice_get docs number ≡ Some doc → question.query.keywords ≢ 0 → list_any is_weighed question.filters ≡ false
    → matches question.query doc ≡ true → words ≡ min (present_in doc (query_keys question.query)) question.query.keywords
    → (ranker : Ranker) → question.ranker ≡ rankings.Plain ranker
    → ((hits : Hits) (positions : List ℕ) → hits.keywords ≢ 0 → AreRanked hits question.weights.list → length positions ≤ words → AreOfPositions positions hits.list → weight ranker hits question.weights.list ≤ most)
    → WeighsUpTo question doc most
weighs_up_to question docs number doc words most asked here some any fits count ranker plain limits = record {
  fits = fits;
  any = any;
  least = λ list are.
      let hits : Hits = record { keywords = question.query.keywords; list = list } in
      let keys = query_keys question.query in
      let ranked = are_ranked asked.schema question doc hits asked.asked (doc_of asked.schema docs number doc asked.rows here) refl are in
      let limit : weight ranker hits question.weights.list ≤ most =
      ⊎_elim
      (λ (is : words ≡ present_in doc keys). limits hits (positions_in doc keys) some ranked (omega (arith, so_many doc keys, is)) (all_listed doc question.query list are))
      (λ (is : words ≡ question.query.keywords). limits hits (range_with_len 1 question.query.keywords) some ranked (omega (arith, length-range_with_len 1 question.query.keywords, is)) (of_range hits question.weights.list ranked))
      (lesser words (present_in doc keys) question.query.keywords count) in
      (weight ranker hits question.weights.list, ap (λ (its : Ranking). weigh its hits question.weights.list doc.doc.values) plain, limit);
}

-- the same where its hits lie in some fields alone
pub weighs_within : (question : Question) (docs : List DocRow) (number : ℕ) (doc : DocRow) (words fields most : ℕ) → IsAskedOfDocs question docs → slice_get docs number ≡ Some doc → question.query.keywords ≢ 0 → list_any is_weighed question.filters ≡ false
    → matches question.query doc ≡ true → words ≡ min (present_in doc (query_keys question.query)) question.query.keywords → ((hits : List Hit) → AreHits question.query doc hits → AreInFields fields hits)
    → (ranker : Ranker) → question.ranker ≡ rankings.Plain ranker
    → ((hits : Hits) (positions : List ℕ) → hits.keywords ≢ 0 → AreRanked hits question.weights.list → length positions ≤ words → AreOfPositions positions hits.list → AreInFields fields hits.list → weight ranker hits question.weights.list ≤ most)
    → WeighsUpTo question doc most
weighs_within question docs number doc words fields most asked here some any fits count inside ranker plain limits = record {
  fits = fits;
  any = any;
  least = λ list are.
      let hits : Hits = record { keywords = question.query.keywords; list = list } in
      let keys = query_keys question.query in
      let ranked = are_ranked asked.schema question doc hits asked.asked (doc_of asked.schema docs number doc asked.rows here) refl are in
      let limit : weight ranker hits question.weights.list ≤ most =
      ⊎_elim
      (λ (is : words ≡ present_in doc keys). limits hits (positions_in doc keys) some ranked (omega (arith, so_many doc keys, is)) (all_listed doc question.query list are) (inside list are))
      (λ (is : words ≡ question.query.keywords). limits hits (range_with_len 1 question.query.keywords) some ranked (omega (arith, length-range_with_len 1 question.query.keywords, is)) (of_range hits question.weights.list ranked) (inside list are))
      (lesser words (present_in doc keys) question.query.keywords count) in
      (weight ranker hits question.weights.list, ap (λ (its : Ranking). weigh its hits question.weights.list doc.doc.values) plain, limit);
}

-- ---- a document that was offered by the most that it can weigh

module _ {S : Type 0} (Took : S → List Row → S → Type 0) (question : Question) (first : S) (before : List DocRow) (doc : DocRow) where
  pub gathers_up_to : (most : ℕ) (row : Row) (old new : S) → row ≡ row_of most doc → hold_unweighed question.filters (unweighed doc) ≡ true → WeighsUpTo question doc most → ((rows : List Row) (its : Row) → IsLighter its row → Took first rows old → Took first (rows ++ its ∷ []) new)
      → Gathers Took question first before old → Gathers Took question first (before ++ filter (matches question.query) (doc ∷ [])) new
  gathers_up_to most row old new is passing up_to passes so =
      let told = up_to.least (hits_of question.query doc) (are_its_hits question.query doc) in
      let weighed : ℕ = told.0 in
      let of : IsWeightOf question doc (Some weighed) = record { hits = hits_of question.query doc; are = are_its_hits question.query doc; is = sym told.1 } in
      let its : Row = record (unweighed doc) { weight = weighed } in
      let lighter : IsLighter its row =
      subst (IsLighter its) (sym is) (record { id = refl; values = refl; weight = told.2 }) in
      let gathered =
      gathers_more Took question first before doc its old new so (weighing.row_of question doc its (record { id = refl; values = refl }) of)
      (passes_as Took question first (unweighed doc) its refl refl passing ∙ none_weighed question.filters its up_to.any)
      (λ rows took. passes rows its lighter took) in
      subst (λ found. Gathers Took question first (before ++ found) new) (sym (ap (λ b. cond b (doc ∷ []) []) up_to.fits)) gathered
