-- What is found by a query with prefixes are the same rows whatever the order in which the documents are listed; so is the first document
-- without a weight, and there is none where all have theirs.
use Rattle.std.proofs.Common.{◌≡◌, ◌≢◌, ◌<◌, ◌≤◌, ℕ, Bool, true, false, List, [], ◌∷◌, Option, None, refl, sym, ap, subst, ◌∙◌, arith}
use Rattle.std.specs.Prelude.{All, AllPairs, Contains, is_some, unwrap_or}
use Rattle.std.specs.List.{AllZip, filter}
use Rattle.std.proofs.lemmas.List.Elements.{All-cons, All-head, All-nil, All-tail}
use Rattle.std.proofs.lemmas.List.Kept.{AllPairs-cons, AllPairs-filter}
use Rattle.doc_types.specs.declared.documents.DocRow.{DocRow}
use Rattle.doc_types.specs.declared.hits.Hit.{Hit}
use Rattle.doc_types.specs.Rows.{rows_of}
use Rattle.query_tree.specs.TreeKeys.{query_keys}
use Rattle.op_eval.specs.Finding.{Found}
use Rattle.prefix_terms.specs.Prefixes.{Lists, words_together}
use Rattle.prefix_terms.specs.declared.expansion.TheConstants.{MAX_PREFIX_WORDS}
use Rattle.word_rows.proofs.Lists.{pairs_head, pairs_nil, pairs_tail}
use Rattle.row_select.specs.Columns.{row_of}
use Rattle.row_select.specs.declared.row.Row.{Row}
use Rattle.doc_search.specs.Searches.{passes, weight_of}
use Rattle.doc_search.specs.declared.question.Question.{Question}
use Rattle.doc_search.proofs.Members.{DocsApart, beside_first, beside_second, in_both, in_filter, to_filter}
use Rattle.doc_search.proofs.OneHits.{one_hits}
use Rattle.prefix_search.specs.Searches.{AreFound, AreTooMany, IsFirstLacking, IsRowBy, LacksWeightBy, finding, fits}
use Rattle.prefix_search.proofs.OneExpansion.{one_expansion}

abbrev RowsApart : List Row → Type 0
RowsApart rows = AllPairs (λ row later. row.id ≢ later.id) rows

alike : (row other : Row) → row.id ≡ other.id → row.weight ≡ other.weight → row.values ≡ other.values → row ≡ other
alike row other ids weights values = λ i. record { id = ids i; weight = weights i; values = values i }

-- ---- by one finding
module _ (find : DocRow → Found) (question : Question) where
  one_row : (doc : DocRow) (row other : Row) → IsRowBy find question doc row → IsRowBy find question doc other → row ≡ other
  one_row doc row other one two =
      let hits : one.hits ≡ two.hits = one_hits one.hits two.hits one.are.ascend two.are.ascend (λ test. one.are.all test ∙ sym (two.are.all test)) in
      let weights : row.weight ≡ other.weight =
      one.weight ∙ ap (λ list. unwrap_or (weight_of question doc list) 0) hits ∙ sym two.weight in
      alike row other (one.id ∙ sym two.id) weights (one.values ∙ sym two.values)

  all_apart : (doc : DocRow) (row : Row) → row.id ≡ doc.doc.id → (docs : List DocRow) (rows : List Row) → AllZip (IsRowBy find question) docs rows → All (λ later. doc.doc.id ≢ later.doc.id) docs → All (λ later. row.id ≢ later.id) rows
  all_apart doc row id [] [] zip apart = All-nil (λ later. row.id ≢ later.id)
  all_apart doc row id [] (a ∷ rows) zip apart = absurd zip
  all_apart doc row id (d ∷ docs) [] zip apart = absurd zip
  all_apart doc row id (d ∷ docs) (a ∷ rows) zip apart =
      let differs : row.id ≢ a.id = λ same. All-head (λ (later : DocRow). doc.doc.id ≢ later.doc.id) d docs apart (sym id ∙ same ∙ zip.0.id) in
      All-cons (λ later. row.id ≢ later.id) a rows differs (all_apart doc row id docs rows zip.1 (All-tail (λ (later : DocRow). doc.doc.id ≢ later.doc.id) d docs apart))

  rows_apart : (docs : List DocRow) (rows : List Row) → AllZip (IsRowBy find question) docs rows → DocsApart docs → RowsApart rows
  rows_apart [] [] zip apart = pairs_nil (λ row later. row.id ≢ later.id)
  rows_apart [] (a ∷ rows) zip apart = absurd zip
  rows_apart (d ∷ docs) [] zip apart = absurd zip
  rows_apart (d ∷ docs) (a ∷ rows) zip apart =
      AllPairs-cons (λ row later. row.id ≢ later.id) a rows
      (all_apart d a zip.0.id docs rows zip.1 (pairs_head (λ doc later. doc.doc.id ≢ later.doc.id) d docs apart))
      (rows_apart docs rows zip.1 (pairs_tail (λ doc later. doc.doc.id ≢ later.doc.id) d docs apart))

  -- a document that is found has its weight
  not_lacking : (doc : DocRow) (row : Row) → LacksWeightBy find question doc → IsRowBy find question doc row → ⊥
  not_lacking doc row lacking its =
      let hits : its.hits ≡ lacking.hits = one_hits its.hits lacking.hits its.are.ascend lacking.are.ascend (λ test. its.are.all test ∙ sym (lacking.are.all test)) in
      let none : weight_of question doc its.hits ≡ None = ap (λ (list : List Hit). weight_of question doc list) hits ∙ lacking.none in
      let at : row.weight ≡ 0 = its.weight ∙ ap (λ (weight : Option ℕ). unwrap_or weight 0) none in
      let row_is : row ≡ row_of 0 doc = λ i. record { id = its.id i; weight = at i; values = its.values i } in
      let never : false ≡ true = sym (ap (λ (weight : Option ℕ). is_some weight) none) ∙ its.ranked (ap (passes question) row_is ∙ lacking.passing) in
      cc

-- ---- by a query
module _ (question : Question) where
  -- the finding, by the words of prefixes
  abbrev by : Lists → DocRow → Found
  by lists = finding lists question.query

  pub found_apart : (docs : List DocRow) (found : List Row) → DocsApart docs → AreFound question docs found → RowsApart found
  found_apart docs found apart its =
      let matching : DocsApart (filter (fits (by its.lists)) docs) = AllPairs-filter (λ doc later. doc.doc.id ≢ later.doc.id) (fits (by its.lists)) docs apart in
      subst RowsApart (sym its.passing)
      (AllPairs-filter (λ row later. row.id ≢ later.id) (passes question) its.rows (rows_apart (by its.lists) question (filter (fits (by its.lists)) docs) its.rows its.weighed matching))

  module _ (docs others : List DocRow) (apart : DocsApart docs) (others_apart : DocsApart others) (same : rows_of docs ≡ rows_of others) where
    -- what is found of documents is found of the others
    pub found_too : (found other : List Row) → AreFound question docs found → AreFound question others other → (row : Row) → Contains found row → Contains other row
    found_too found other one two row there =
        let lists : two.lists ≡ one.lists = sym (one_expansion docs others (query_keys question.query) one.lists two.lists apart others_apart same one.words two.words) in
        let find = by one.lists in
        let zip : AllZip (IsRowBy find question) (filter (fits find) others) two.rows =
        subst (λ (l : Lists). AllZip (IsRowBy (by l) question) (filter (fits (by l)) others) two.rows) lists two.weighed in
        let weighed = in_filter (passes question) one.rows row (subst (λ list. Contains list row) one.passing there) in
        let beside = beside_first (IsRowBy find question) (filter (fits find) docs) one.rows row one.weighed weighed.0 in
        let matching = in_filter (fits find) docs beside.0 beside.1 in
        let too = beside_second (IsRowBy find question) (filter (fits find) others) two.rows beside.0 zip (to_filter (fits find) others beside.0 matching.1 (in_both docs others apart same beside.0 matching.0)) in
        let is : too.0 ≡ row = one_row find question beside.0 too.0 row too.2 beside.2 in
        subst (λ list. Contains list row) (sym two.passing) (to_filter (passes question) two.rows row weighed.1 (subst (Contains two.rows) is too.1))

    pub never_found : (found : List Row) (id : ℕ) → AreFound question docs found → IsFirstLacking question others id → ⊥
    never_found found id are first =
        let lists : first.lists ≡ are.lists = sym (one_expansion docs others (query_keys question.query) are.lists first.lists apart others_apart same are.words first.words) in
        let find = by are.lists in
        let lacks : LacksWeightBy find question first.doc = subst (λ (l : Lists). LacksWeightBy (by l) question first.doc) lists first.lacks in
        let among = in_both others docs others_apart (sym same) first.doc first.among in
        let beside = beside_second (IsRowBy find question) (filter (fits find) docs) are.rows first.doc are.weighed (to_filter (fits find) docs first.doc lacks.fits among) in
        not_lacking find question first.doc beside.0 lacks beside.2

    pub one_first : (id other : ℕ) → IsFirstLacking question docs id → IsFirstLacking question others other → id ≡ other
    one_first id other one two =
        let lists : two.lists ≡ one.lists = sym (one_expansion docs others (query_keys question.query) one.lists two.lists apart others_apart same one.words two.words) in
        let into : LacksWeightBy (by one.lists) question two.doc = subst (λ (l : Lists). LacksWeightBy (by l) question two.doc) lists two.lacks in
        let back : LacksWeightBy (by two.lists) question one.doc = subst (λ (l : Lists). LacksWeightBy (by l) question one.doc) (sym lists) one.lacks in
        omega (
          arith,
          one.is,
          two.is,
          one.least two.doc (in_both others docs others_apart (sym same) two.doc two.among) into,
          two.least one.doc (in_both docs others apart same one.doc one.among) back,
        )

    -- nothing is found where the words are too many
    few_or_many : (lists : Lists) (count : ℕ) (many : AreTooMany question.query others count) → lists ≡ many.lists → words_together lists ≤ MAX_PREFIX_WORDS → ⊥
    few_or_many lists count many is few = let size = ap (λ (l : Lists). words_together l) is in omega (arith, size, few, many.is, many.many)

    pub none_found : (found : List Row) (count : ℕ) → AreFound question docs found → AreTooMany question.query others count → ⊥
    none_found found count are many =
        few_or_many are.lists count many (one_expansion docs others (query_keys question.query) are.lists many.lists apart others_apart same are.words many.words) are.few

    pub nobody_lacks : (id count : ℕ) → IsFirstLacking question docs id → AreTooMany question.query others count → ⊥
    nobody_lacks id count first many =
        few_or_many first.lists count many (one_expansion docs others (query_keys question.query) first.lists many.lists apart others_apart same first.words many.words) first.few
