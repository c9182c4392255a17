-- The reply to a SELECT of a selftest is short: a hundred thousand rows at most, each of one id.
use Rattle.std.proofs.Common.{◌≡◌, ◌≤◌, ◌<◌, ℕ, ◌+◌, ◌*◌, ◌^◌, ◌%◌, List, [], ◌∷◌, ◌++◌, Bool, true, false, length, map, take, drop, sym, ap, subst, arith, length-append}
use Rattle.std.specs.Prelude.{All, codes, decimal, pos, nat_lt, if◌then◌else◌}
use Rattle.std.specs.Int.{w16, w32, w64, to_le_bytes}
use Rattle.std.specs.List.{AllByRecursion, AllZip, filter}
use Rattle.std.proofs.lemmas.Fmt.{length-decimal-le}
use Rattle.std.proofs.lemmas.List.{length-map, length-take}
use Rattle.std.proofs.lemmas.List.Elements.{All-drop, All-filter, All-from_recursion, All-take, recursion_from_All}
use Rattle.std.proofs.lemmas.List.Sorted.{All-permutation}
use Rattle.doc_types.specs.declared.documents.DocRow.{DocRow}
use Rattle.index_conf.specs.declared.conf.IndexConf.{IndexConf}
use Rattle.mysql_wire.specs.LengthEncoded.{lenenc}
use Rattle.mysql_wire.specs.Packets.{max_payload, packet, packets_from}
use Rattle.mysql_wire.specs.Replies.{eof_payload}
use Rattle.mysql_wire.specs.Rows.{column_payload, row_payload}
use Rattle.mysql_wire.specs.declared.rows.Cell.{Cell}
use Rattle.mysql_wire.specs.declared.rows.Cell.TheVariants.{Whole}
use Rattle.mysql_wire.specs.declared.rows.ColumnKind.{ColumnKind}
use Rattle.op_eval.specs.Finding.{Found as FoundInRow}
use Rattle.reply_rows.specs.ResultSets.{sets_payloads}
use Rattle.reply_rows.specs.declared.result_set.ResultSet.{ResultSet}
use Rattle.row_select.specs.Pages.{IsTop}
use Rattle.row_select.specs.declared.row.ColumnRef.TheVariants as columns
use Rattle.row_select.specs.declared.row.Row.{Row}
use Rattle.doc_search.specs.Searches.{passes}
use Rattle.doc_search.specs.declared.question.Question.{Question}
use Rattle.prefix_search.specs.Searches.{AreFound, IsRowBy, finding, fits}
use Rattle.table_search.specs.Tables.{AreTables, ShowsTable}
use Rattle.table_search.specs.declared.asked.Table.{Table}
use Rattle.table_search.specs.declared.asked.Table.TheVariants as tables
use Rattle.table_search.specs.declared.found.Found.{Found}
use Rattle.table_search.specs.declared.found.FoundTable.{FoundTable}
use Rattle.table_search.specs.declared.found.FoundTable.TheVariants as found_tables
use Rattle.ql_select.specs.Columns.{row_shown}
use Rattle.ql_select.specs.Selections.{Selects}
use Rattle.ql_select.specs.declared.selection.Selection.{Selection}
use Rattle.ql_select.specs.declared.selection.Shown.{Shown}
use Rattle.ql_answers.specs.Reading.{table_set}
use Rattle.self_test.specs.Texts.{count_select}
use Rattle.self_test.specs.declared.summary.Count.{Count}
use Rattle.self_test.specs.declared.summary.Count.TheVariants.{Words, Pairs, Groups}

-- Packets with short payloads.

abbrev pub IsBrief : List ℕ → Type 0
IsBrief payload = length payload ≤ 29

packet_brief : (seq : ℕ) (payload : List ℕ) → length (packet seq payload) ≤ 4 + length payload
unfolding packet
packet_brief seq payload = omega arith

packets_brief : (seq : ℕ) (payloads : List (List ℕ)) → AllByRecursion IsBrief payloads → length (packets_from seq payloads) ≤ 33 * length payloads
packets_brief seq [] brief = omega arith
packets_brief seq (payload ∷ payloads) brief =
    omega (arith, brief.0, packet_brief seq payload, length-append (packet seq payload) (packets_from ((seq + 1) % 256) payloads), packets_brief ((seq + 1) % 256) payloads brief.1)

each_then : {X : Type 0} (P : X → Type 0) (xs ys : List X) → AllByRecursion P xs → AllByRecursion P ys → AllByRecursion P (xs ++ ys)
each_then P [] ys first second = second
each_then P (x ∷ xs) ys first second = (first.0, each_then P xs ys first.1 second)

-- The payloads of a result set of ids.

either_brief : (b : Bool) (xs ys : List ℕ) (most : ℕ) → length xs ≤ most → length ys ≤ most → length (if b then xs else ys) ≤ most
either_brief true xs ys most x y = x
either_brief false xs ys most x y = y

lenenc_brief : (n : ℕ) → length (lenenc n) ≤ 9
unfolding lenenc
lenenc_brief n =
    either_brief (nat_lt n 251) (n ∷ []) _ 9 (omega arith)
    (either_brief (nat_lt n (2 ^ 16)) (0xfc ∷ to_le_bytes w16 n) _ 9 (omega arith)
    (either_brief (nat_lt n (2 ^ 24)) (0xfd ∷ take 3 (to_le_bytes w32 n)) (0xfe ∷ to_le_bytes w64 n) 9 (omega arith) (omega arith)))

abbrev id_cells : Row → List Cell
id_cells row = Whole (pos row.id) ∷ []

row_brief : (row : Row) → row.id < 2 ^ 64 → IsBrief (row_payload (id_cells row))
unfolding row_payload
row_brief row below =
    let text : List ℕ = decimal row.id in
    omega (arith, lenenc_brief (length text), length-decimal-le 20 row.id (omega arith) (omega (arith, below)) below, length-append (lenenc (length text)) text, length-append (lenenc (length text) ++ text) [])

column_brief : (kind : ColumnKind) → IsBrief (column_payload (record { name = codes "id"; kind = kind }))
unfolding column_payload lenenc
column_brief kind = omega arith

eof_brief : (status : ℕ) → IsBrief (eof_payload status)
unfolding eof_payload
eof_brief status = omega arith

abbrev pub IsSmallRow : Row → Type 0
IsSmallRow row = row.id < 2 ^ 64

rows_brief : (rows : List Row) → AllByRecursion IsSmallRow rows → AllByRecursion IsBrief (map row_payload (map id_cells rows))
rows_brief [] small = tt
rows_brief (row ∷ rows) small = (row_brief row small.0, rows_brief rows small.1)

abbrev ids_set : ColumnKind → List Row → ResultSet
ids_set kind rows = record { columns = record { name = codes "id"; kind = kind } ∷ []; rows = map id_cells rows }

set_brief : (status : ℕ) (kind : ColumnKind) (rows : List Row) → AllByRecursion IsSmallRow rows → AllByRecursion IsBrief (sets_payloads status (ids_set kind rows ∷ []))
set_brief status kind rows small =
    let head : List (List ℕ) = lenenc 1 ∷ column_payload (record { name = codes "id"; kind = kind }) ∷ [] in
    let body : List (List ℕ) = eof_payload status ∷ map row_payload (map id_cells rows) in
    let end : List (List ℕ) = eof_payload status ∷ [] in
    let first : AllByRecursion IsBrief head = (omega (arith, lenenc_brief 1), (column_brief kind, tt)) in
    let second : AllByRecursion IsBrief body = (eof_brief status, rows_brief rows small) in
    let third : AllByRecursion IsBrief end = (eof_brief status, tt) in
    each_then IsBrief (head ++ body ++ end) [] (each_then IsBrief (head ++ body) end (each_then IsBrief head body first second) third) tt

set_long : (status : ℕ) (kind : ColumnKind) (rows : List Row) → length (sets_payloads status (ids_set kind rows ∷ [])) ≡ length rows + 4
set_long status kind rows =
    let head : List (List ℕ) = lenenc 1 ∷ column_payload (record { name = codes "id"; kind = kind }) ∷ [] in
    let body : List (List ℕ) = eof_payload status ∷ map row_payload (map id_cells rows) in
    let end : List (List ℕ) = eof_payload status ∷ [] in
    omega (arith, length-append (head ++ body ++ end) [], length-append (head ++ body) end, length-append head body, length-map (map id_cells rows) row_payload, length-map rows id_cells)

ids_never : (status : ℕ) (kind : ColumnKind) (rows : List Row) → AllByRecursion IsSmallRow rows → length rows ≤ 100000 → max_payload < length (packets_from 1 (sets_payloads status (ids_set kind rows ∷ []))) → ⊥
ids_never status kind rows small few long = omega (arith, few, long, set_long status kind rows, packets_brief 1 (sets_payloads status (ids_set kind rows ∷ [])) (set_brief status kind rows small))

-- The rows that are shown have ids of documents.

abbrev pub IsSmallDoc : DocRow → Type 0
IsSmallDoc row = row.doc.id < 2 ^ 64

zip_small : (find : DocRow → FoundInRow) (question : Question) (docs : List DocRow) (rows : List Row) → AllByRecursion IsSmallDoc docs → AllZip (IsRowBy find question) docs rows → AllByRecursion IsSmallRow rows
zip_small find question [] [] small zip = tt
zip_small find question [] (row ∷ rows) small zip = absurd zip
zip_small find question (doc ∷ docs) [] small zip = absurd zip
zip_small find question (doc ∷ docs) (row ∷ rows) small zip = (subst (λ (n : ℕ). n < 2 ^ 64) (sym zip.0.id) small.0, zip_small find question docs rows small.1 zip.1)

found_small : (question : Question) (docs : List DocRow) (found : List Row) → All IsSmallDoc docs → AreFound question docs found → All IsSmallRow found
found_small question docs found small are =
    let find : DocRow → FoundInRow = finding are.lists question.query in
    let rows : AllByRecursion IsSmallRow are.rows =
    zip_small find question (filter (fits find) docs) are.rows (recursion_from_All IsSmallDoc (filter (fits find) docs) (All-filter (fits find) IsSmallDoc docs small)) are.weighed in
    subst (λ (list : List Row). All IsSmallRow list) (sym are.passing) (All-filter (passes question) IsSmallRow are.rows (All-from_recursion IsSmallRow are.rows rows))

module _ (question : Question) (found shown : List Row) (top : IsTop found question.order question.page shown) where
  top_small : All IsSmallRow found → All IsSmallRow shown
  top_small small =
      let sorted : List Row = top.0 in
      subst (λ (list : List Row). All IsSmallRow list) (sym top.2)
      (All-take IsSmallRow question.page.count (drop question.page.offset (take question.page.max_matches sorted))
      (All-drop IsSmallRow question.page.offset (take question.page.max_matches sorted)
      (All-take IsSmallRow question.page.max_matches sorted (All-permutation IsSmallRow found sorted top.1.same small))))

  top_few : length shown ≤ question.page.count
  top_few = omega (arith, ap length top.2, length-take question.page.count (drop question.page.offset (take question.page.max_matches top.0)))

-- What a SELECT that counts asks.

module _ (conf : IndexConf) (selection : Selection) where
  page_few : (count : Count) (number : ℕ) → Selects conf (count_select count number) selection → selection.asked.question.page.count ≤ 100000
  page_few Words number selects = omega (arith, ap (λ (s : Selection). s.asked.question.page.count) selects.means)
  page_few Pairs number selects = omega (arith, ap (λ (s : Selection). s.asked.question.page.count) selects.means)
  page_few Groups number selects = omega (arith, ap (λ (s : Selection). s.asked.question.page.count) selects.means)

  id_shown : (count : Count) (number : ℕ) → Selects conf (count_select count number) selection → selection.shown ≡ row_shown conf.schema (codes "id") columns.Id ∷ []
  id_shown Words number selects = ap (λ (s : Selection). s.shown) selects.means
  id_shown Pairs number selects = ap (λ (s : Selection). s.shown) selects.means
  id_shown Groups number selects = ap (λ (s : Selection). s.shown) selects.means

  of_rows : (count : Count) (number : ℕ) → Selects conf (count_select count number) selection → selection.asked.table ≡ tables.Rows
  of_rows Words number selects = ap (λ (s : Selection). s.asked.table) selects.means
  of_rows Pairs number selects = ap (λ (s : Selection). s.asked.table) selects.means
  of_rows Groups number selects = ap (λ (s : Selection). s.asked.table) selects.means

  module _ (count : Count) (number : ℕ) (selects : Selects conf (count_select count number) selection) (docs : List DocRow) (small : All IsSmallDoc docs) (status : ℕ) where
    by_table : (found : List Row) (shown : FoundTable) (total : ℕ) → AreFound selection.asked.question docs found → ShowsTable selection.asked.question tables.Rows found shown total
        → max_payload < length (packets_from 1 (sets_payloads status (table_set selection.shown shown ∷ []))) → ⊥
    by_table found (found_tables.Rows rows) total are shows long =
        ids_never status (row_shown conf.schema (codes "id") columns.Id).column.kind rows
        (recursion_from_All IsSmallRow rows (top_small selection.asked.question found rows shows.0 (found_small selection.asked.question docs found small are)))
        (omega (arith, top_few selection.asked.question found rows shows.0, page_few count number selects))
        (subst (λ (shown : List Shown). max_payload < length (packets_from 1 (sets_payloads status (table_set shown (found_tables.Rows rows) ∷ [])))) (id_shown count number selects) long)
    by_table found (found_tables.Groups groups) total are shows long = absurd shows

    -- what is replied to it is no longer than a payload may be
    pub long_never : (found : Found) → AreTables selection.asked docs found → max_payload < length (packets_from 1 (sets_payloads status (table_set selection.shown found.table ∷ []))) → ⊥
    long_never found are long =
        by_table are.found found.table found.total_found are.are
        (subst (λ (table : Table). ShowsTable selection.asked.question table are.found found.table found.total_found) (of_rows count number selects) are.table) long
