-- What is found of documents are the same rows whatever the order in which they are listed, and what is shown is one list.
use Rattle.std.proofs.Common.{◌≡◌, ◌≢◌, ◌↔◌, List, [], ◌∷◌, sym, ap, subst, ◌∙◌}
use Rattle.std.specs.Prelude.{All, AllPairs, Contains, unwrap_or}
use Rattle.std.specs.List.{AllZip, filter}
use Rattle.std.proofs.lemmas.List.Elements.{All-cons, All-head, All-nil, All-tail}
use Rattle.std.proofs.lemmas.List.Kept.{AllPairs-cons, AllPairs-filter}
use Rattle.doc_types.specs.declared.documents.DocRow.{DocRow}
use Rattle.doc_types.specs.Rows.{rows_of}
use Rattle.op_eval.specs.Matching.{matches}
use Rattle.word_rows.proofs.Lists.{pairs_head, pairs_nil, pairs_tail}
use Rattle.row_select.specs.Pages.{IsTop}
use Rattle.row_select.specs.declared.order.Order.{Order}
use Rattle.row_select.specs.declared.page.Page.{Page}
use Rattle.row_select.specs.declared.row.Row.{Row}
use Rattle.doc_search.specs.Searches.{AreFound, AreShown, IsRowOf, passes, weight_of}
use Rattle.doc_search.specs.declared.question.Question.{Question}
use Rattle.doc_search.proofs.Members.{DocsApart, beside_first, beside_second, in_both, in_filter, to_filter}
use Rattle.doc_search.proofs.OneHits.{one_hits}

abbrev RowsApart : List Row → Type 0
RowsApart rows = AllPairs (λ row later. row.id ≢ later.id) rows

alike : (row other : Row) → row.id ≡ other.id → row.weight ≡ other.weight → row.values ≡ other.values → row ≡ other
alike row other ids weights values = λ i. record { id = ids i; weight = weights i; values = values i }

module _ (question : Question) where
  one_row : (doc : DocRow) (row other : Row) → IsRowOf question doc row → IsRowOf question doc other → row ≡ other
  one_row doc row other one two =
      let hits : one.hits ≡ two.hits = one_hits one.hits two.hits one.are.ascend two.are.ascend (λ test. one.are.all test ∙ sym (two.are.all test)) in
      let weights : row.weight ≡ other.weight =
      one.weight ∙ ap (λ list. unwrap_or (weight_of question doc list) 0) hits ∙ sym two.weight in
      alike row other (one.id ∙ sym two.id) weights (one.values ∙ sym two.values)

  -- rows of documents of which no two have one id
  all_apart : (doc : DocRow) (row : Row) → row.id ≡ doc.doc.id → (docs : List DocRow) (rows : List Row) → AllZip (IsRowOf question) docs rows → All (λ later. doc.doc.id ≢ later.doc.id) docs → All (λ later. row.id ≢ later.id) rows
  all_apart doc row id [] [] zip apart = All-nil (λ later. row.id ≢ later.id)
  all_apart doc row id [] (a ∷ rows) zip apart = absurd zip
  all_apart doc row id (d ∷ docs) [] zip apart = absurd zip
  all_apart doc row id (d ∷ docs) (a ∷ rows) zip apart =
      let differs : row.id ≢ a.id = λ same. All-head (λ (later : DocRow). doc.doc.id ≢ later.doc.id) d docs apart (sym id ∙ same ∙ zip.0.id) in
      All-cons (λ later. row.id ≢ later.id) a rows differs (all_apart doc row id docs rows zip.1 (All-tail (λ (later : DocRow). doc.doc.id ≢ later.doc.id) d docs apart))

  rows_apart : (docs : List DocRow) (rows : List Row) → AllZip (IsRowOf question) docs rows → DocsApart docs → RowsApart rows
  rows_apart [] [] zip apart = pairs_nil (λ row later. row.id ≢ later.id)
  rows_apart [] (a ∷ rows) zip apart = absurd zip
  rows_apart (d ∷ docs) [] zip apart = absurd zip
  rows_apart (d ∷ docs) (a ∷ rows) zip apart =
      AllPairs-cons (λ row later. row.id ≢ later.id) a rows
      (all_apart d a zip.0.id docs rows zip.1 (pairs_head (λ doc later. doc.doc.id ≢ later.doc.id) d docs apart))
      (rows_apart docs rows zip.1 (pairs_tail (λ doc later. doc.doc.id ≢ later.doc.id) d docs apart))

  -- so are those that are found
  pub found_apart : (docs : List DocRow) (found : List Row) → DocsApart docs → AreFound question docs found → RowsApart found
  found_apart docs found apart its =
      let matching : DocsApart (filter (matches question.query) docs) = AllPairs-filter (λ doc later. doc.doc.id ≢ later.doc.id) (matches question.query) docs apart in
      subst RowsApart (sym its.passing)
      (AllPairs-filter (λ row later. row.id ≢ later.id) (passes question) its.rows (rows_apart (filter (matches question.query) docs) its.rows its.weighed matching))

  -- what is found of documents is found of others among which they are
  pub found_too : (docs others : List DocRow) (found other : List Row) → ((doc : DocRow) → Contains docs doc → Contains others doc) → AreFound question docs found → AreFound question others other → (row : Row) → Contains found row → Contains other row
  found_too docs others found other among one two row there =
      let weighed = in_filter (passes question) one.rows row (subst (λ list. Contains list row) one.passing there) in
      let beside = beside_first (IsRowOf question) (filter (matches question.query) docs) one.rows row one.weighed weighed.0 in
      let matching = in_filter (matches question.query) docs beside.0 beside.1 in
      let too = beside_second (IsRowOf question) (filter (matches question.query) others) two.rows beside.0 two.weighed (to_filter (matches question.query) others beside.0 matching.1 (among beside.0 matching.0)) in
      let same : too.0 ≡ row = one_row beside.0 too.0 row too.2 beside.2 in
      subst (λ list. Contains list row) (sym two.passing) (to_filter (passes question) two.rows row weighed.1 (subst (Contains two.rows) same too.1))

  -- rows in two orders have one page
  abbrev OnePage : Type 0
  OnePage = (rows others : List Row) (order : Order) (page : Page) (shown other : List Row) → RowsApart rows → RowsApart others → ((row : Row) → Contains rows row ↔ Contains others row) → IsTop rows order page shown → IsTop others order page other → shown ≡ other

  pub one_shown : (docs others : List DocRow) (shown other : List Row) → OnePage → DocsApart docs → DocsApart others → rows_of docs ≡ rows_of others → AreShown question docs shown → AreShown question others other → shown ≡ other
  one_shown docs others shown other one_page apart others_apart same one two =
      one_page one.0 two.0 question.order question.page shown other (found_apart docs one.0 apart one.1) (found_apart others two.0 others_apart two.1)
      (λ row. (
        found_too docs others one.0 two.0 (in_both docs others apart same) one.1 two.1 row,
        found_too others docs two.0 one.0 (in_both others docs others_apart (sym same)) two.1 one.1 row,
      ))
      one.2 two.2
