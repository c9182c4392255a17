-- What is wrong with a SELECT, by its text and the columns of its index, in the order of the text: the names of its options and
-- other names, and kinds and ranges; and at last the limits, in their own order. The first class of these that has a fault decides.
use Rattle.std.specs.Prelude.{ℕ, ◌+◌, List, [], ◌∷◌, ◌++◌, length, Bool, true, false, nat_le, nat_lt, ◌&&◌, ◌||◌, ◌==◌, not, is_some, Option, Some, None, if◌then◌else◌}
use Rattle.std.specs.List.{flat_map, list_any, count_by, sum_by}
use Rattle.std.specs.Str.{bytes_eq}
use Rattle.doc_types.specs.declared.schema.Schema.{Schema}
use Rattle.ql_tree.specs.declared.select.Cond.{Cond}
use Rattle.ql_tree.specs.declared.select.Cond.TheVariants as conds
use Rattle.ql_tree.specs.declared.select.FacetPart.{FacetPart}
use Rattle.ql_tree.specs.declared.select.Having.{Having}
use Rattle.ql_tree.specs.declared.select.OptionValue.{OptionValue}
use Rattle.ql_tree.specs.declared.select.OptionValue.TheVariants as values
use Rattle.ql_tree.specs.declared.select.Select.{Select}
use Rattle.ql_tree.specs.declared.select.SelectExpr.{SelectExpr}
use Rattle.ql_tree.specs.declared.select.SelectExpr.TheVariants as exprs
use Rattle.ql_tree.specs.declared.select.SelectItem.{SelectItem}
use Rattle.ql_tree.specs.declared.select.SelectItem.TheVariants as items
use Rattle.ql_tree.specs.declared.select.SelectOption.{SelectOption}
use Rattle.ql_tree.specs.declared.select.SortKey.{SortKey}
use Rattle.ql_tree.specs.declared.select.SortName.{SortName}
use Rattle.ql_tree.specs.declared.select.SortName.TheVariants as sorts
use Rattle.ql_columns.specs.declared.columns.IndexColumn.{IndexColumn}
use Rattle.ql_columns.specs.declared.columns.IndexColumn.TheVariants as targets
use Rattle.ql_columns.specs.Columns.{name_fault, column_named}
use Rattle.ql_refusals.specs.Refusals.{Refused, first, first_of, unless, unknown_column, unknown_option, ranker_not_offered, column_is_field, column_is_no_field, wrong_kind, value_out_of_range, second_match, group_by_missing, too_many_columns, too_many_sort_keys, too_many_facets, max_matches_out_of_range, offset_not_below}
use Rattle.ql_select.specs.declared.faults.Pass.{Pass}
use Rattle.ql_select.specs.declared.faults.Pass.TheVariants.{Names, Kinds}
use Rattle.ql_select.specs.declared.first_fault.Fault.{Fault}
use Rattle.ql_select.specs.declared.first_fault.FaultClass.TheVariants as classes
use Rattle.ql_select.specs.declared.limits.TheConstants.{MAX_COLUMNS, MAX_FACETS, MAX_MATCHES, MAX_SORT_KEYS}
use Rattle.ql_select.specs.Facets.{is_count}
use Rattle.ql_select.specs.FirstFaults.{fault_in, first_fault}
use Rattle.ql_select.specs.Names.{aliased}
use Rattle.ql_select.specs.Options.{expr_ranker, ranker_option, max_matches_option, field_weights_option, is_option, ranker_named, max_matches_of}
use Rattle.ql_select.specs.Parts.{limits}

-- ---- names of columns, and their kinds

-- what is wrong with a column that is named: it isn't there, or it is a field
abbrev pub target_faults : List ℕ → Option IndexColumn → List Fault
target_faults name None = record { class = classes.Name; refusal = unknown_column name } ∷ []
target_faults name (Some targets.Id) = []
target_faults name (Some (targets.Field field)) = record { class = classes.Kind; refusal = column_is_field name } ∷ []
target_faults name (Some (targets.Attr attr)) = []

-- what is wrong with a name of a column
abbrev pub column_faults : Schema → List ℕ → List Fault
column_faults schema name = target_faults name (column_named schema name)

-- what is wrong with an expression
abbrev pub expr_faults : Schema → SelectExpr → List Fault
expr_faults schema (exprs.Column name) = column_faults schema name
expr_faults schema exprs.CountAll = []
expr_faults schema (exprs.CountDistinct name) = column_faults schema name
expr_faults schema (exprs.Least name) = column_faults schema name
expr_faults schema (exprs.Greatest name) = column_faults schema name
expr_faults schema (exprs.Sum name) = column_faults schema name
expr_faults schema exprs.Weight = []
expr_faults schema exprs.GroupBy = []

-- what is wrong with an item of the list
abbrev pub item_faults : Schema → SelectItem → List Fault
item_faults schema items.All = []
item_faults schema (items.One expr alias) = expr_faults schema expr

-- what is wrong with a condition
abbrev pub cond_faults : Schema → Cond → List Fault
cond_faults schema (conds.Match text) = []
cond_faults schema (conds.Compare name op value) = column_faults schema name
cond_faults schema (conds.Among name values negated) = column_faults schema name
cond_faults schema (conds.Between name low high) = column_faults schema name

-- what is wrong with a part that is a name
abbrev pub name_faults : Schema → Option (List ℕ) → List Fault
name_faults schema None = []
name_faults schema (Some name) = column_faults schema name

-- what is wrong with a name that may be an alias of an item at some place: nothing, if it is
abbrev pub unless_aliased : Schema → List ℕ → Option ℕ → List Fault
unless_aliased schema name None = column_faults schema name
unless_aliased schema name (Some place) = []

-- what is wrong with a key of an order, or with what HAVING looks at; in an order within groups only aliases of rows count
abbrev pub key_faults : Schema → Bool → List SelectItem → SortName → List Fault
key_faults schema rows list (sorts.Column name) = unless_aliased schema name (aliased rows list name)
key_faults schema rows list sorts.Weight = []
key_faults schema rows list sorts.CountAll = []

abbrev pub sort_faults : Schema → Bool → List SelectItem → SortKey → List Fault
sort_faults schema rows list key = key_faults schema rows list key.by

-- what is wrong with HAVING
abbrev pub having_faults : Schema → List SelectItem → Option Having → List Fault
having_faults schema list None = []
having_faults schema list (Some having) = key_faults schema false list having.left

-- the order of a facet names the facet's own column
abbrev pub facet_key_fault : List ℕ → SortName → Option Refused
facet_key_fault column (sorts.Column name) = unless (bytes_eq name column) (unknown_column name)
facet_key_fault column sorts.Weight = None
facet_key_fault column sorts.CountAll = None

abbrev pub facet_order_fault : List ℕ → Option SortKey → Option Refused
facet_order_fault column None = None
facet_order_fault column (Some key) = facet_key_fault column key.by

-- what is wrong with a facet
abbrev pub facet_faults : Schema → FacetPart → List Fault
facet_faults schema part = column_faults schema part.column ++ fault_in classes.Name (facet_order_fault part.column part.order)

-- ---- options

-- no option has this name
abbrev pub option_name_fault : SelectOption → Option Refused
option_name_fault option = unless (is_option option.name) (unknown_option option.name)

-- a weight is given to this name
abbrev pub is_weighed : List (List ℕ × ℕ) → List ℕ → Bool
is_weighed list name = list_any (λ given. bytes_eq given.0 name) list

-- what is wrong with the names of `field_weights` after others, from left to right
abbrev pub weight_names_fault : Schema → List (List ℕ × ℕ) → List (List ℕ × ℕ) → Option Refused
weight_names_fault schema before [] = None
weight_names_fault schema before (given ∷ list) =
    first (name_fault schema (is_weighed before given.0) given.0) (weight_names_fault schema (before ++ given ∷ []) list)

-- a weight is given to a field, and is 1 to 65,535
abbrev pub target_weight_fault : List ℕ → ℕ → Option IndexColumn → Option Refused
target_weight_fault name weight (Some (targets.Field field)) =
    unless (nat_le 1 weight && nat_le weight 65535) (value_out_of_range name)
target_weight_fault name weight target = Some (column_is_no_field name)

-- what is wrong with a weight that is given
abbrev pub weight_fault : Schema → List ℕ × ℕ → Option Refused
weight_fault schema given = target_weight_fault given.0 given.1 (column_named schema given.0)

-- what is wrong with the value of `ranker`: `expr` is called with its text, and no other ranker is
abbrev pub ranker_fault : Pass → OptionValue → Option Refused
ranker_fault Names (values.Name name) = unless (is_some (ranker_named name) || bytes_eq name expr_ranker) (ranker_not_offered name)
ranker_fault Names (values.Call name text) = unless (bytes_eq name expr_ranker) (ranker_not_offered name)
ranker_fault Names value = None
ranker_fault Kinds (values.Name name) = unless (not (bytes_eq name expr_ranker)) (wrong_kind ranker_option)
ranker_fault Kinds (values.Call name text) = None
ranker_fault Kinds value = Some (wrong_kind ranker_option)

-- what is wrong with the value of `max_matches`
abbrev pub max_matches_fault : Pass → OptionValue → Option Refused
max_matches_fault Names value = None
max_matches_fault Kinds (values.Number number) = None
max_matches_fault Kinds value = Some (wrong_kind max_matches_option)

-- what is wrong with the value of `field_weights`
abbrev pub field_weights_fault : Pass → Schema → OptionValue → Option Refused
field_weights_fault Names schema (values.List list) = weight_names_fault schema [] list
field_weights_fault Names schema value = None
field_weights_fault Kinds schema (values.List list) = first_of (weight_fault schema) list
field_weights_fault Kinds schema value = Some (wrong_kind field_weights_option)

-- what is wrong with the value of another option: it is no call
abbrev pub other_fault : Pass → List ℕ → OptionValue → Option Refused
other_fault Kinds option (values.Call name text) = Some (wrong_kind option)
other_fault pass option value = None

-- what is wrong with the value of an option
abbrev pub option_fault : Pass → Schema → SelectOption → Option Refused
option_fault pass schema option =
    if bytes_eq option.name ranker_option then ranker_fault pass option.value
    else if bytes_eq option.name max_matches_option then max_matches_fault pass option.value
    else if bytes_eq option.name field_weights_option then field_weights_fault pass schema option.value
    else other_fault pass option.name option.value

-- what is wrong with the options: their names, the names in their values, and kinds and ranges
abbrev pub options_faults : Schema → List SelectOption → List Fault
options_faults schema options =
    fault_in classes.OptionName (first_of option_name_fault options)
    ++ fault_in classes.Name (first_of (option_fault Names schema) options)
    ++ fault_in classes.Kind (first_of (option_fault Kinds schema) options)

-- ---- limits

-- the condition is a MATCH
abbrev pub is_match : Cond → Bool
is_match (conds.Match text) = true
is_match cond = false

-- the expression is a value of several rows
abbrev pub is_aggregate : SelectExpr → Bool
is_aggregate (exprs.Column name) = false
is_aggregate exprs.Weight = false
is_aggregate exprs.GroupBy = false
is_aggregate expr = true

abbrev pub lists_aggregate : SelectItem → Bool
lists_aggregate items.All = false
lists_aggregate (items.One expr alias) = is_aggregate expr

-- the item is GROUPBY()
abbrev pub lists_key : SelectItem → Bool
lists_key (items.One exprs.GroupBy alias) = true
lists_key item = false

-- the SELECT speaks of the groups of a column: WITHIN, GROUPBY()
abbrev pub wants_column : Select → Bool
wants_column select = not (length select.within == 0) || list_any lists_key select.items

-- the SELECT speaks of groups: HAVING, COUNT(*) in ORDER BY
abbrev pub wants_groups : Select → Bool
wants_groups select = is_some select.having || list_any (λ key. is_count key.by) select.order

-- GROUP BY is there where it is wanted; where groups are wanted, an aggregate in the list does too, for one group of all rows
abbrev pub has_groups : Select → Bool
has_groups select =
    is_some select.group
    || (not (wants_column select) && (not (wants_groups select) || list_any lists_aggregate select.items))

-- how many columns an item shows: `*` the id and the attributes, any other item one
abbrev pub width : Schema → SelectItem → ℕ
width schema items.All = 1 + length schema.attrs
width schema (items.One expr alias) = 1

-- what is wrong with the page: its offset and `max_matches`
abbrev pub page_fault : ℕ → ℕ → Option Refused
page_fault offset max_matches =
    first (unless (nat_le 1 max_matches && nat_le max_matches MAX_MATCHES) max_matches_out_of_range)
    (unless (nat_lt offset max_matches) (offset_not_below offset max_matches))

-- which part is longer than it may be: the list, an order, the facets
abbrev pub sizes_fault : Schema → Select → Option Refused
sizes_fault schema select =
    first (unless (nat_le (sum_by (width schema) select.items) MAX_COLUMNS) too_many_columns)
    (first (unless (nat_le (length select.order) MAX_SORT_KEYS && nat_le (length select.within) MAX_SORT_KEYS) too_many_sort_keys)
    (unless (nat_le (length select.facets) MAX_FACETS) too_many_facets))

-- what is missing, or passes a limit
abbrev pub limits_fault : Schema → Select → Option Refused
limits_fault schema select =
    first (unless (nat_le (count_by is_match select.conds) 1) second_match)
    (first (unless (has_groups select) group_by_missing)
    (first (sizes_fault schema select) (page_fault (limits select.limit).0 (max_matches_of select.options))))

-- ---- the whole

-- what is wrong with a SELECT, in the order of the text, and then by its limits
abbrev pub faults_of : Schema → Select → List Fault
faults_of schema select =
    flat_map (item_faults schema) select.items
    ++ flat_map (cond_faults schema) select.conds
    ++ name_faults schema select.group
    ++ flat_map (sort_faults schema true select.items) select.within
    ++ having_faults schema select.items select.having
    ++ flat_map (sort_faults schema false select.items) select.order
    ++ options_faults schema select.options
    ++ flat_map (facet_faults schema) select.facets
    ++ fault_in classes.Limit (limits_fault schema select)

-- the fault of a SELECT that decides, but for those of its MATCH
abbrev pub select_fault : Schema → Select → Option Fault
select_fault schema select = first_fault (faults_of schema select)
