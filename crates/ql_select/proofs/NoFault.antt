-- What holds of a SELECT with no fault: its page, its options and the names in it are within their limits.
use Rattle.std.proofs.Common.{◌≡◌, ℕ, ◌<◌, ◌≤◌, List, [], ◌∷◌, ◌-◌, ◌+◌, ◌^◌, Bool, true, false, cond, Option, Some, None, reverse, length, unwrap_or, sym, refl, ap, subst, arith}
use Rattle.std.specs.Prelude.{All, nat_le, nat_lt, ◌&&◌}
use Rattle.std.specs.List.{find, count_by, flat_map, sum_by}
use Rattle.std.specs.Option.{option_map}
use Rattle.std.specs.Str.{bytes_eq}
use Rattle.std.proofs.lemmas.Bool.{and_parts, leb-true, ltb-true}
use Rattle.std.proofs.lemmas.List.Sums.{sum_by-cons}
use Rattle.std.proofs.lemmas.List.Elements.{All-nil, All-head, All-tail, All-weaker}
use Rattle.std.proofs.lemmas.Option.{none-some}
use Rattle.std.proofs.lemmas.List.{get_or-reverse, length-map, length-reverse}
use Rattle.std.proofs.lemmas.Slice.Eq.{bytes_eq-Decides}
use Rattle.doc_types.specs.declared.schema.Schema.{Schema}
use Rattle.ql_tree.specs.declared.select.OptionValue.{OptionValue}
use Rattle.ql_tree.specs.declared.select.OptionValue.TheVariants as values
use Rattle.ql_tree.specs.declared.select.Select.{Select}
use Rattle.ql_tree.specs.declared.select.SelectItem.{SelectItem}
use Rattle.ql_tree.specs.declared.select.SelectItem.TheVariants as items
use Rattle.ql_tree.specs.declared.select.SelectOption.{SelectOption}
use Rattle.ql_columns.specs.declared.columns.IndexColumn.{IndexColumn}
use Rattle.ql_columns.specs.declared.columns.IndexColumn.TheVariants as targets
use Rattle.ql_columns.specs.Columns.{column_named}
use Rattle.ql_refusals.specs.Refusals.{first_of, unless, column_is_no_field, value_out_of_range, second_match, group_by_missing, too_many_columns, max_matches_out_of_range, offset_not_below}
use Rattle.ql_refusals.proofs.FirstFault.{first_none, first_of_none, unless_none}
use Rattle.ql_select.specs.declared.faults.Pass.TheVariants.{Kinds}
use Rattle.ql_select.specs.declared.first_fault.FaultClass.TheVariants.{Kind, Limit}
use Rattle.ql_select.specs.declared.names.Names.{Names}
use Rattle.ql_select.specs.declared.limits.TheConstants.{MAX_COLUMNS, MAX_MATCHES}
use Rattle.ql_select.specs.Faults.{facet_faults, faults_of, has_groups, is_match, limits_fault, option_fault, options_faults, page_fault, select_fault, sizes_fault, target_weight_fault, weight_fault, width}
use Rattle.ql_select.specs.FirstFaults.{fault_in}
use Rattle.ql_select.specs.Names.{item_source, names_of}
use Rattle.ql_select.specs.Options.{field_weights_option, last_value, max_matches_of, weights_in}
use Rattle.ql_select.specs.Parts.{limits}
use Rattle.ql_select.proofs.FirstFaults.{both_nil, fault_in_none, none_left}

-- ---- the parts of a SELECT with no fault

-- its limits, its facets and what comes before them
last_none : (schema : Schema) (select : Select) → select_fault schema select ≡ None → (limits_fault schema select ≡ None) × (first_of (option_fault Kinds schema) select.options ≡ None)
last_none schema select e =
    let parts = both_nil _ (fault_in Limit (limits_fault schema select)) (none_left (faults_of schema select) e) in
    let rest = both_nil _ (flat_map (facet_faults schema) select.facets) parts.0 in
    let options = both_nil _ (options_faults schema select.options) rest.0 in
    let kinds = both_nil _ (fault_in Kind (first_of (option_fault Kinds schema) select.options)) options.1 in
    (fault_in_none Limit _ parts.1, fault_in_none Kind _ kinds.1)

pub options_none : (schema : Schema) (select : Select) → select_fault schema select ≡ None → All (λ option. option_fault Kinds schema option ≡ None) select.options
options_none schema select e = first_of_none (option_fault Kinds schema) select.options (last_none schema select e).1

-- the sizes of its parts, and its page
sizes_none : (schema : Schema) (select : Select) → select_fault schema select ≡ None → (sizes_fault schema select ≡ None) × (page_fault (limits select.limit).0 (max_matches_of select.options) ≡ None)
sizes_none schema select e =
    let groups = (first_none (unless (nat_le (count_by is_match select.conds) 1) second_match) _ (last_none schema select e).0).1 in
    let sizes = (first_none (unless (has_groups select) group_by_missing) _ groups).1 in
    first_none (sizes_fault schema select) _ sizes

-- ---- the list

-- each item shows a column or more
wide : (schema : Schema) (item : SelectItem) → 1 ≤ width schema item
wide schema items.All = omega arith
wide schema (items.One expr alias) = omega arith

at_least : (schema : Schema) (list : List SelectItem) → length list ≤ sum_by (width schema) list
at_least schema [] = omega arith
at_least schema (item ∷ list) =
    let both : sum_by (width schema) (item ∷ list) ≡ width schema item + sum_by (width schema) list = sum_by-cons (width schema) item list in
    let one = wide schema item in
    let rest = at_least schema list in
    omega (arith, both, one, rest)

pub short_list : (schema : Schema) (select : Select) → select_fault schema select ≡ None → length select.items ≤ MAX_COLUMNS
short_list schema select e =
    let none = (first_none (unless (nat_le (sum_by (width schema) select.items) MAX_COLUMNS) too_many_columns) _ (sizes_none schema select e).0).0 in
    let few = leb-true (sum_by (width schema) select.items) MAX_COLUMNS (unless_none _ too_many_columns none) in
    let all = at_least schema select.items in
    omega (arith, few, all)

pub few_items : (schema : Schema) (select : Select) → select_fault schema select ≡ None → length select.items < 2 ^ 16
few_items schema select e =
    let short = short_list schema select e in
    omega (arith, short)

pub few_sources : (schema : Schema) (select : Select) (names : Names) → select_fault schema select ≡ None → names ≡ names_of schema select → length names.sources < 2 ^ 16
few_sources schema select names e same =
    subst (λ (n : Names). length n.sources < 2 ^ 16) (sym same)
    (subst (λ n. n < 2 ^ 16) (sym (length-map select.items (item_source schema))) (few_items schema select e))

-- ---- the page

abbrev pub IsPage : ℕ → ℕ → Type 0
IsPage offset max_matches = (1 ≤ max_matches) × (max_matches ≤ MAX_MATCHES) × (offset < max_matches)

page_none : (offset max_matches : ℕ) → page_fault offset max_matches ≡ None → IsPage offset max_matches
page_none offset max_matches e =
    let both = first_none (unless (nat_le 1 max_matches && nat_le max_matches MAX_MATCHES) max_matches_out_of_range) _ e in
    let range = and_parts (nat_le 1 max_matches) (nat_le max_matches MAX_MATCHES) (unless_none _ max_matches_out_of_range both.0) in
    (leb-true 1 max_matches range.0, leb-true max_matches MAX_MATCHES range.1, ltb-true offset max_matches (unless_none (nat_lt offset max_matches) (offset_not_below offset max_matches) both.1))

pub is_page : (schema : Schema) (select : Select) → select_fault schema select ≡ None → IsPage (limits select.limit).0 (max_matches_of select.options)
is_page schema select e = page_none (limits select.limit).0 (max_matches_of select.options) (sizes_none schema select e).1

-- ---- the weights

All-reverse : {X : Type 0} (P : X → Type 0) (xs : List X) → All P xs → All P (reverse xs)
All-reverse P xs all k d below =
    let short : k < length xs = subst (λ n. k < n) (length-reverse xs) below in
    subst P (sym (get_or-reverse xs k d short)) (all (length xs - 1 - k) d (omega arith))

found_first : {X : Type 0} (P : X → Type 0) (test : X → Bool) (y : X) (ys : List X) (x : X) → All P (y ∷ ys) → (passes : Bool) → test y ≡ passes → cond passes (Some y) (find test ys) ≡ Some x → P x × (test x ≡ true)
found_first P test y ys x all true is e =
    let same : y ≡ x = ap (λ o. unwrap_or o y) e in
    (subst P same (All-head P y ys all), subst (λ z. test z ≡ true) same is)
found_first P test y [] x all false is e = absurd (none-some x e)
found_first P test y (z ∷ zs) x all false is e = found_first P test z zs x (All-tail P y (z ∷ zs) all) (test z) refl e

-- what is found passes the test, and has what all have
pub found_has : {X : Type 0} (P : X → Type 0) (test : X → Bool) (xs : List X) (x : X) → All P xs → find test xs ≡ Some x → P x × (test x ≡ true)
found_has P test [] x all e = absurd (none-some x e)
found_has P test (y ∷ ys) x all e = found_first P test y ys x all (test y) refl e

abbrev pub IsWeight : List ℕ × ℕ → Type 0
IsWeight given = (1 ≤ given.1) × (given.1 ≤ 65535)

target_weight : (name : List ℕ) (weight : ℕ) (target : Option IndexColumn) → target_weight_fault name weight target ≡ None → (1 ≤ weight) × (weight ≤ 65535)
target_weight name weight None e = absurd (none-some (column_is_no_field name) (sym e))
target_weight name weight (Some targets.Id) e = absurd (none-some (column_is_no_field name) (sym e))
target_weight name weight (Some (targets.Attr attr)) e = absurd (none-some (column_is_no_field name) (sym e))
target_weight name weight (Some (targets.Field field)) e =
    let both = and_parts (nat_le 1 weight) (nat_le weight 65535) (unless_none _ (value_out_of_range name) e) in
    (leb-true 1 weight both.0, leb-true weight 65535 both.1)

value_weights : (schema : Schema) (value : OptionValue) → option_fault Kinds schema (record { name = field_weights_option; value = value }) ≡ None → All IsWeight (weights_in (Some value))
value_weights schema (values.List list) e =
    All-weaker (λ given. weight_fault schema given ≡ None) IsWeight (λ given none. target_weight given.0 given.1 (column_named schema given.0) none) list
    (first_of_none (weight_fault schema) list e)
value_weights schema (values.Name name) e = All-nil IsWeight
value_weights schema (values.Number number) e = All-nil IsWeight
value_weights schema (values.Text text) e = All-nil IsWeight
value_weights schema (values.Call name text) e = All-nil IsWeight

option_weights : (schema : Schema) (option : SelectOption) → option.name ≡ field_weights_option → option_fault Kinds schema option ≡ None → All IsWeight (weights_in (Some option.value))
option_weights schema option same none =
    value_weights schema option.value (subst (λ (name : List ℕ). option_fault Kinds schema (record { name = name; value = option.value }) ≡ None) same none)

found_weights : (schema : Schema) (options : List SelectOption) → All (λ option. option_fault Kinds schema option ≡ None) options → (found : Option SelectOption) → find (λ option. bytes_eq option.name field_weights_option) options ≡ found → All IsWeight (weights_in (option_map (λ option. option.value) found))
found_weights schema options good None e = All-nil IsWeight
found_weights schema options good (Some option) e =
    let has = found_has (λ option. option_fault Kinds schema option ≡ None) (λ option. bytes_eq option.name field_weights_option) options option good e in
    option_weights schema option ((bytes_eq-Decides option.name field_weights_option).0 has.1) has.0

-- the weights that are given are in range
pub are_weights : (schema : Schema) (select : Select) → select_fault schema select ≡ None → All IsWeight (weights_in (last_value select.options field_weights_option))
are_weights schema select e =
    found_weights schema (reverse select.options) (All-reverse (λ option. option_fault Kinds schema option ≡ None) select.options (options_none schema select e)) _ refl

pub small_weights : (schema : Schema) (select : Select) → select_fault schema select ≡ None → All (λ given. given.1 ≤ 65535) (weights_in (last_value select.options field_weights_option))
small_weights schema select e k d below = (are_weights schema select e k d below).1
