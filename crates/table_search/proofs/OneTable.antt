-- What a SELECT finds is the same whatever the order in which the documents are listed.
use Rattle.std.proofs.Common.{◌≡◌, ◌≢◌, ◌∙◌, ℕ, ℤ, Bool, true, false, List, [], ◌∷◌, All, Some, length, map, take, drop, get_or, ap, ap₂, sym, subst, refl, true≢false}
use Rattle.std.specs.List.{AllZip, Contains, count_by, filter}
use Rattle.std.specs.List.Sorted.{IsPermutation}
use Rattle.std.specs.Ordering.{eq_by_cmp, int_cmp, int_eq, is_eq, nat_cmp, ordering_then}
use Rattle.std.specs.declared.cmp.Ordering.{Ordering}
use Rattle.std.specs.declared.cmp.Ordering.TheVariants.{Less, Equal, Greater}
use Rattle.std.proofs.lemmas.Bool.{false_from_ne_true}
use Rattle.std.proofs.lemmas.Bool.Decides.{Decides-int_eq}
use Rattle.std.proofs.lemmas.Cmp.{eq_by_cmp_equiv, int_eq_equiv, nat_cmp_total, on_total}
use Rattle.std.proofs.lemmas.List.Elements.{All-cons, All-head, All-nil, All-tail}
use Rattle.std.proofs.lemmas.List.Kept.{AllPairs-cons, AllPairs-filter}
use Rattle.std.proofs.lemmas.List.Sorted.{Contains-permutation, IsPermutation-map, IsPermutation-sym, length_permutation}
use Rattle.std.proofs.lemmas.List.Sums.{length-filter}
use Rattle.std.proofs.lemmas.Map.Lookups.{exact_signed, exact_unsigned}
use Rattle.std.proofs.lemmas.Map.Views.{tells_apart}
use Rattle.doc_types.specs.declared.documents.DocRow.{DocRow}
use Rattle.doc_types.specs.Rows.{rows_of}
use Rattle.doc_search.specs.declared.question.Question.{Question}
use Rattle.doc_search.proofs.Members.{DocsApart, beside_first, beside_second, in_both, in_filter}
use Rattle.prefix_search.proofs.OneSearch.{found_apart, found_too}
use Rattle.row_select.specs.Columns.{column_value}
use Rattle.row_select.specs.Pages.{IsTop, cut}
use Rattle.row_select.specs.declared.order.Order.{Order}
use Rattle.row_select.specs.declared.page.Page.{Page}
use Rattle.row_select.specs.declared.row.ColumnRef.{ColumnRef}
use Rattle.row_select.specs.declared.row.Row.{Row}
use Rattle.word_rows.proofs.Lists.{pairs_head, pairs_map, pairs_nil, pairs_tail}
use Rattle.group_facet.specs.Distinct.{first_seen}
use Rattle.group_facet.specs.Facets.{IsFacet, by_facet, value_counts}
use Rattle.group_facet.specs.Folds.{column_values}
use Rattle.group_facet.specs.Groups.{AreGroups, IsGroup, group_key, part}
use Rattle.group_facet.specs.ShownGroups.{by_group_key, by_group_keys, having_holds, kept}
use Rattle.group_facet.specs.declared.facets.Facet.{Facet}
use Rattle.group_facet.specs.declared.grouping.Group.{Group}
use Rattle.group_facet.specs.declared.grouping.GroupRow.{GroupRow}
use Rattle.group_facet.specs.declared.shown.GroupColumn.{GroupColumn}
use Rattle.group_facet.proofs.Orders.{by_facet_total, by_group_keys_total}
use Rattle.query_tree.specs.TreeKeys.{query_keys}
use Rattle.query_tree.specs.declared.query.Query.{Query}
use Rattle.query_tree.specs.declared.key.Key.{Key}
use Rattle.table_search.specs.Keywords.{counted, first_keys, has_taken, shown_key, word_docs}
use Rattle.table_search.specs.Tables.{AreTables, ShowsGroups, ShowsTable}
use Rattle.table_search.specs.declared.asked.Asked.{Asked}
use Rattle.table_search.specs.declared.asked.GroupTable.{GroupTable}
use Rattle.table_search.specs.declared.asked.Table.{Table}
use Rattle.table_search.specs.declared.asked.Table.TheVariants as tables
use Rattle.table_search.specs.declared.found.Found.{Found}
use Rattle.table_search.specs.declared.found.FoundTable.{FoundTable}
use Rattle.table_search.specs.declared.found.FoundTable.TheVariants as found_tables
use Rattle.table_search.proofs.OneList.{AreApart, HaveSame, one_sorted, permuted, turned_round}
use Rattle.table_search.proofs.SameRows.{RowsApart, filter_same, one_by_id, one_group, rows_permuted, seen_apart, seen_permuted, seen_same, values_same}

tied_behind : (first second : Ordering) → ordering_then first second ≡ Equal → second ≡ Equal
tied_behind Less second is = absurd (true≢false (sym (ap is_eq is)))
tied_behind Equal second is = is
tied_behind Greater second is = absurd (true≢false (sym (ap is_eq is)))

-- ---- groups
abbrev same_best : GroupRow → GroupRow → Bool
same_best group other = eq_by_cmp nat_cmp group.best.id other.best.id

bests_tie : (keys : List (GroupColumn × Bool)) (group other : GroupRow) → by_group_keys keys group other ≡ Equal → same_best group other ≡ true
bests_tie [] group other is = ap is_eq is
bests_tie (key ∷ keys) group other is = bests_tie keys group other (tied_behind (by_group_key key group other) (by_group_keys keys group other) is)

flips_best : (group other : GroupRow) → same_best group other ≡ same_best other group
flips_best group other = (eq_by_cmp_equiv nat_cmp_total).symm group.best.id other.best.id

module _ (group : Group) where
  abbrev Shown : List Row → ℤ → GroupRow → Type 0
  Shown rows key shown = IsGroup group key (part group.by key rows) shown

  -- the row of a group has its key
  key_of_best : (rows : List Row) (key : ℤ) (shown : GroupRow) → Shown rows key shown → Contains rows shown.best × (key ≡ group_key group.by shown.best)
  key_of_best rows key shown is =
      let there = in_filter (λ row. int_eq key (group_key group.by row)) rows shown.best is.best.among in
      (there.0, (Decides-int_eq key (group_key group.by shown.best)).0 there.1)

  two_apart : (rows : List Row) → RowsApart rows → (key later : ℤ) (shown other : GroupRow) → Shown rows key shown → Shown rows later other → int_eq key later ≡ false → same_best shown other ≡ false
  two_apart rows apart key later shown other one two differ =
      let first = key_of_best rows key shown one in
      let second = key_of_best rows later other two in
      false_from_ne_true (same_best shown other) (λ is.
      let same : shown.best ≡ other.best = one_by_id rows shown.best other.best apart first.0 second.0 (tells_apart exact_unsigned shown.best.id other.best.id is) in
      let keys : key ≡ later = first.1 ∙ ap (group_key group.by) same ∙ sym second.1 in
      true≢false (sym ((Decides-int_eq key later).1 keys) ∙ differ))

  all_apart : (rows : List Row) → RowsApart rows → (key : ℤ) (shown : GroupRow) → Shown rows key shown → (keys : List ℤ) (groups : List GroupRow) → AllZip (Shown rows) keys groups → All (λ later. int_eq key later ≡ false) keys → All (λ later. same_best shown later ≡ false) groups
  all_apart rows apart key shown one [] [] are differ = All-nil (λ later. same_best shown later ≡ false)
  all_apart rows apart key shown one [] (other ∷ groups) are differ = absurd are
  all_apart rows apart key shown one (later ∷ keys) [] are differ = absurd are
  all_apart rows apart key shown one (later ∷ keys) (other ∷ groups) are differ =
      All-cons (λ later. same_best shown later ≡ false) other groups
      (two_apart rows apart key later shown other one are.0 (All-head (λ later. int_eq key later ≡ false) later keys differ))
      (all_apart rows apart key shown one keys groups are.1 (All-tail (λ later. int_eq key later ≡ false) later keys differ))

  groups_apart : (rows : List Row) → RowsApart rows → (keys : List ℤ) (groups : List GroupRow) → AllZip (Shown rows) keys groups → AreApart int_eq keys → AreApart same_best groups
  groups_apart rows apart [] [] are differ = pairs_nil (λ shown later. same_best shown later ≡ false)
  groups_apart rows apart [] (shown ∷ groups) are differ = absurd are
  groups_apart rows apart (key ∷ keys) [] are differ = absurd are
  groups_apart rows apart (key ∷ keys) (shown ∷ groups) are differ =
      AllPairs-cons (λ shown later. same_best shown later ≡ false) shown groups
      (all_apart rows apart key shown are.0 keys groups are.1 (pairs_head (λ key later. int_eq key later ≡ false) key keys differ))
      (groups_apart rows apart keys groups are.1 (pairs_tail (λ key later. int_eq key later ≡ false) key keys differ))

  module _ (rows others : List Row) (apart : RowsApart rows) (others_apart : RowsApart others) (same : HaveSame rows others) where
    part_too : (key : ℤ) → HaveSame (part group.by key rows) (part group.by key others)
    part_too key = filter_same (λ row. int_eq key (group_key group.by row)) rows others same

    group_too : (keys other_keys : List ℤ) (groups other_groups : List GroupRow) → HaveSame keys other_keys → AllZip (Shown rows) keys groups → AllZip (Shown others) other_keys other_groups → (shown : GroupRow) → Contains groups shown → Contains other_groups shown
    group_too keys other_keys groups other_groups alike one two shown there =
        let key = beside_first (Shown rows) keys groups shown one there in
        let other = beside_second (Shown others) other_keys other_groups key.0 two (alike.into key.0 key.1) in
        let is : shown ≡ other.0 =
        one_group group key.0 (part group.by key.0 rows) (part group.by key.0 others) shown other.0
        (AllPairs-filter (λ row later. row.id ≢ later.id) (λ row. int_eq key.0 (group_key group.by row)) rows apart)
        (AllPairs-filter (λ row later. row.id ≢ later.id) (λ row. int_eq key.0 (group_key group.by row)) others others_apart)
        (part_too key.0) key.2 other.2 in
        subst (Contains other_groups) (sym is) other.1

  groups_same : (rows others : List Row) → RowsApart rows → RowsApart others → HaveSame rows others → (groups other : List GroupRow) → AreGroups group rows groups → AreGroups group others other → HaveSame groups other
  groups_same rows others apart others_apart same groups other one two =
      let keys = first_seen (map (group_key group.by) rows) in
      let other_keys = first_seen (map (group_key group.by) others) in
      let alike : HaveSame keys other_keys =
      seen_same (map (group_key group.by) rows) (map (group_key group.by) others) (values_same (group_key group.by) rows others (rows_permuted rows others apart others_apart same)) in
      record {
        into = group_too rows others apart others_apart same keys other_keys groups other alike one two;
        back = group_too others rows others_apart apart (turned_round rows others same) other_keys keys other groups (turned_round keys other_keys alike) two one;
      }

one_groups : (asked : GroupTable) (rows others : List Row) (shown other : List GroupRow) (n m : ℕ) → RowsApart rows → RowsApart others → HaveSame rows others → ShowsGroups asked rows shown n → ShowsGroups asked others other m → (shown ≡ other) × (n ≡ m)
one_groups asked rows others shown other n m apart others_apart same one two =
    let group = asked.group in
    let having = asked.page.having in
    let left = kept having one.groups in
    let other_left = kept having two.groups in
    let sorted = one.top.0 in
    let other_sorted = two.top.0 in
    let alike = filter_same (having_holds having) one.groups two.groups (groups_same group rows others apart others_apart same one.groups two.groups one.are two.are) in
    let is : sorted ≡ other_sorted =
    one_sorted (by_group_keys asked.page.keys) (by_group_keys_total asked.page.keys) same_best flips_best (bests_tie asked.page.keys) left other_left sorted other_sorted
    (AllPairs-filter (λ shown later. same_best shown later ≡ false) (having_holds having) one.groups (groups_apart group rows apart (first_seen (map (group_key group.by) rows)) one.groups one.are (seen_apart (map (group_key group.by) rows))))
    (AllPairs-filter (λ shown later. same_best shown later ≡ false) (having_holds having) two.groups (groups_apart group others others_apart (first_seen (map (group_key group.by) others)) two.groups two.are (seen_apart (map (group_key group.by) others))))
    alike one.top.1 two.top.1 one.top.2 two.top.2 in (
      one.top.3 ∙ ap (cut asked.page.page) is ∙ sym two.top.3,
      one.counts ∙ sym (length_permutation left sorted one.top.1) ∙ ap length is ∙ length_permutation other_left other_sorted two.top.1 ∙ sym two.counts,
    )

-- ---- facets
abbrev same_value : ℤ × ℕ → ℤ × ℕ → Bool
same_value value other = int_eq value.0 other.0

values_tie : (facet : Facet) (value other : ℤ × ℕ) → by_facet facet value other ≡ Equal → same_value value other ≡ true
values_tie facet value other is = (Decides-int_eq value.0 other.0).1 (tells_apart exact_signed value.0 other.0 (ap is_eq (tied_behind _ (int_cmp value.0 other.0) is)))

flips_value : (value other : ℤ × ℕ) → same_value value other ≡ same_value other value
flips_value value other = int_eq_equiv.symm value.0 other.0

map_alike : {X Y : Type 0} (f g : X → Y) → ((x : X) → f x ≡ g x) → (xs : List X) → map f xs ≡ map g xs
map_alike f g is [] = refl
map_alike f g is (x ∷ xs) = ap₂ ◌∷◌ (is x) (map_alike f g is xs)

counts_apart : (column : ColumnRef) (rows : List Row) → AreApart same_value (value_counts column rows)
counts_apart column rows =
    pairs_map (λ (value later : ℤ × ℕ). same_value value later ≡ false) (λ value. (value, length (part (Some column) value rows))) (first_seen (column_values column rows)) (seen_apart (column_values column rows))

counts_moved : (column : ColumnRef) (rows others : List Row) → RowsApart rows → RowsApart others → HaveSame rows others → IsPermutation (value_counts column rows) (value_counts column others)
counts_moved column rows others apart others_apart same =
    let moved = rows_permuted rows others apart others_apart same in
    let counted : (value : ℤ) → (value, length (part (Some column) value rows)) ≡ (value, length (part (Some column) value others)) =
    λ value. ap (λ n. (value, n))
    (sym (length_permutation (part (Some column) value rows) (part (Some column) value others)
    (rows_permuted (part (Some column) value rows) (part (Some column) value others)
    (AllPairs-filter (λ row later. row.id ≢ later.id) (λ row. int_eq value (group_key (Some column) row)) rows apart)
    (AllPairs-filter (λ row later. row.id ≢ later.id) (λ row. int_eq value (group_key (Some column) row)) others others_apart)
    (filter_same (λ row. int_eq value (group_key (Some column) row)) rows others same)))) in
    subst (IsPermutation (value_counts column rows))
    (map_alike (λ value. (value, length (part (Some column) value rows))) (λ value. (value, length (part (Some column) value others))) counted (first_seen (column_values column others)))
    (IsPermutation-map (λ value. (value, length (part (Some column) value rows))) (first_seen (column_values column rows)) (first_seen (column_values column others))
    (seen_permuted (column_values column rows) (column_values column others) (values_same (column_value column) rows others moved)))

one_facet : (facet : Facet) (rows others : List Row) (shown other : List (ℤ × ℕ)) → RowsApart rows → RowsApart others → HaveSame rows others → IsFacet rows facet shown → IsFacet others facet other → shown ≡ other
one_facet facet rows others shown other apart others_apart same one two =
    let counts = value_counts facet.column rows in
    let other_counts = value_counts facet.column others in
    let moved = counts_moved facet.column rows others apart others_apart same in
    let alike : HaveSame counts other_counts = record {
      into = λ z there. Contains-permutation counts other_counts z moved there;
      back = λ z there. Contains-permutation other_counts counts z (IsPermutation-sym counts other_counts moved) there;
    } in
    let is : one.0 ≡ two.0 =
    one_sorted (by_facet facet) (by_facet_total facet) same_value flips_value (values_tie facet) counts other_counts one.0 two.0 (counts_apart facet.column rows) (counts_apart facet.column others)
    alike one.1 two.1 one.2 two.2 in
    one.3 ∙ ap (λ sorted. take facet.count (drop facet.offset sorted)) is ∙ sym two.3

one_facets : (rows others : List Row) → RowsApart rows → RowsApart others → HaveSame rows others → (facets : List Facet) (shown other : List (List (ℤ × ℕ))) → AllZip (IsFacet rows) facets shown → AllZip (IsFacet others) facets other → shown ≡ other
one_facets rows others apart others_apart same [] [] [] one two = refl
one_facets rows others apart others_apart same [] [] (y ∷ ys) one two = absurd two
one_facets rows others apart others_apart same [] (x ∷ xs) ys one two = absurd one
one_facets rows others apart others_apart same (facet ∷ facets) [] ys one two = absurd one
one_facets rows others apart others_apart same (facet ∷ facets) (x ∷ xs) [] one two = absurd two
one_facets rows others apart others_apart same (facet ∷ facets) (x ∷ xs) (y ∷ ys) one two =
    ap₂ ◌∷◌ (one_facet facet rows others x y apart others_apart same one.0 two.0) (one_facets rows others apart others_apart same facets xs ys one.1 two.1)

-- ---- all together
abbrev pub OnePage : Type 0
OnePage = (rows others : List Row) (order : Order) (page : Page) (shown other : List Row) → RowsApart rows → RowsApart others → ((row : Row) → (Contains rows row → Contains others row) × (Contains others row → Contains rows row)) → IsTop rows order page shown → IsTop others order page other → shown ≡ other

one_shown : OnePage → (question : Question) (asked : Table) (rows others : List Row) (shown other : FoundTable) (n m : ℕ) → RowsApart rows → RowsApart others → HaveSame rows others → ShowsTable question asked rows shown n → ShowsTable question asked others other m → (shown ≡ other) × (n ≡ m)
one_shown one_page question tables.Rows rows others (found_tables.Rows shown) (found_tables.Rows other) n m apart others_apart same one two = (
  ap found_tables.Rows (one_page rows others question.order question.page shown other apart others_apart (λ row. (same.into row, same.back row)) one.0 two.0),
  one.1 ∙ sym (length_permutation rows others (rows_permuted rows others apart others_apart same)) ∙ sym two.1,
)
one_shown one_page question tables.Rows rows others (found_tables.Rows shown) (found_tables.Groups other) n m apart others_apart same one two = absurd two
one_shown one_page question tables.Rows rows others (found_tables.Groups shown) other n m apart others_apart same one two = absurd one
one_shown one_page question (tables.Groups asked) rows others (found_tables.Rows shown) other n m apart others_apart same one two = absurd one
one_shown one_page question (tables.Groups asked) rows others (found_tables.Groups shown) (found_tables.Rows other) n m apart others_apart same one two = absurd two
one_shown one_page question (tables.Groups asked) rows others (found_tables.Groups shown) (found_tables.Groups other) n m apart others_apart same one two =
    let is = one_groups asked rows others shown other n m apart others_apart same one two in
    (ap found_tables.Groups is.0, is.1)

pub one_tables : OnePage → (asked : Asked) (docs others : List DocRow) (found other : Found) → DocsApart docs → DocsApart others → rows_of docs ≡ rows_of others → AreTables asked docs found → AreTables asked others other → found ≡ other
one_tables one_page asked docs others found other apart others_apart same one two =
    let question = asked.question in
    let rows_apart = found_apart question docs one.found apart one.are in
    let other_apart = found_apart question others two.found others_apart two.are in
    let alike : HaveSame one.found two.found = record {
      into = found_too question docs others apart others_apart same one.found two.found one.are two.are;
      back = found_too question others docs others_apart apart (sym same) two.found one.found two.are one.are;
    } in
    let table = one_shown one_page question asked.table one.found two.found found.table other.table found.total_found other.total_found rows_apart other_apart alike one.table two.table in
    let facets : found.facets ≡ other.facets = one_facets one.found two.found rows_apart other_apart alike asked.facets found.facets other.facets one.facets two.facets in
    λ i. record { table = table.0 i; total_found = table.1 i; facets = facets i }

-- ---- words
abbrev same_doc : DocRow → DocRow → Bool
same_doc doc other = eq_by_cmp nat_cmp doc.doc.id other.doc.id

docs_by_ids : (docs : List DocRow) → DocsApart docs → AreApart same_doc docs
docs_by_ids docs apart i j d below low =
    false_from_ne_true (same_doc (get_or docs i d) (get_or docs j d)) (λ is. apart i j d below low (tells_apart exact_unsigned (get_or docs i d).doc.id (get_or docs j d).doc.id is))

docs_permuted : (docs others : List DocRow) → DocsApart docs → DocsApart others → HaveSame docs others → IsPermutation docs others
docs_permuted docs others apart others_apart same =
    permuted (λ (doc other : DocRow). nat_cmp doc.doc.id other.doc.id) (on_total (λ (doc : DocRow). doc.doc.id) nat_cmp_total) same_doc
    (λ doc other. (eq_by_cmp_equiv nat_cmp_total).symm doc.doc.id other.doc.id) (λ doc other is. ap is_eq is) docs others (docs_by_ids docs apart) (docs_by_ids others others_apart) same

one_count : (p : DocRow → Bool) (docs others : List DocRow) → DocsApart docs → DocsApart others → HaveSame docs others → count_by p docs ≡ count_by p others
one_count p docs others apart others_apart same =
    sym (length-filter p docs)
    ∙ sym (length_permutation (filter p docs) (filter p others)
    (docs_permuted (filter p docs) (filter p others) (AllPairs-filter (λ doc later. doc.doc.id ≢ later.doc.id) p docs apart) (AllPairs-filter (λ doc later. doc.doc.id ≢ later.doc.id) p others others_apart)
    (filter_same p docs others same)))
    ∙ length-filter p others

pub one_words : (query : Query) (docs others : List DocRow) → DocsApart docs → DocsApart others → rows_of docs ≡ rows_of others → word_docs query docs ≡ word_docs query others
one_words query docs others apart others_apart same =
    let alike : HaveSame docs others = record { into = in_both docs others apart same; back = in_both others docs others_apart (sym same) } in
    map_alike (counted docs) (counted others) (λ (key : Key) i. record { word = shown_key key; docs = one_count (has_taken key) docs others apart others_apart alike i }) (first_keys (query_keys query))
