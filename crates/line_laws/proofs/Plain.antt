-- Refusals that a text alone decides have the code 1064.
use Rattle.std.specs.Prelude.{⊤}
use Rattle.std.proofs.Common.{◌≡◌, ℕ, List, [], ◌∷◌, ◌++◌, Bool, true, false, ◌&&◌, ◌||◌, not, is_some, nat_le, nat_lt, length, Option, None, Some, if◌then◌else◌, refl, subst}
use Rattle.std.specs.List.{AllByRecursion, count_by, flat_map, sum_by}
use Rattle.std.specs.Str.{bytes_eq}
use Rattle.doc_types.specs.declared.schema.Schema.{Schema}
use Rattle.ql_tree.specs.declared.select.Cond.{Cond}
use Rattle.ql_tree.specs.declared.select.Cond.TheVariants as conds
use Rattle.ql_tree.specs.declared.select.FacetPart.{FacetPart}
use Rattle.ql_tree.specs.declared.select.Having.{Having}
use Rattle.ql_tree.specs.declared.select.OptionValue.{OptionValue}
use Rattle.ql_tree.specs.declared.select.OptionValue.TheVariants as values
use Rattle.ql_tree.specs.declared.select.Select.{Select}
use Rattle.ql_tree.specs.declared.select.SelectExpr.{SelectExpr}
use Rattle.ql_tree.specs.declared.select.SelectExpr.TheVariants as exprs
use Rattle.ql_tree.specs.declared.select.SelectItem.{SelectItem}
use Rattle.ql_tree.specs.declared.select.SelectItem.TheVariants as items
use Rattle.ql_tree.specs.declared.select.SelectOption.{SelectOption}
use Rattle.ql_tree.specs.declared.select.SortKey.{SortKey}
use Rattle.ql_tree.specs.declared.select.SortName.{SortName}
use Rattle.ql_tree.specs.declared.select.SortName.TheVariants as sorts
use Rattle.ql_columns.specs.Columns.{column_named, name_fault}
use Rattle.ql_columns.specs.declared.columns.IndexColumn.{IndexColumn}
use Rattle.ql_columns.specs.declared.columns.IndexColumn.TheVariants as targets
use Rattle.ql_refusals.specs.Refusals.{Refused, first, first_of, unless}
use Rattle.ql_refusals.specs.Refusals as refusals
use Rattle.ql_select.specs.Faults.{cond_faults, column_faults, expr_faults, facet_faults, facet_key_fault, facet_order_fault, faults_of, field_weights_fault, having_faults, item_faults, key_faults, has_groups, is_match, is_weighed, limits_fault, max_matches_fault, name_faults, option_fault, option_name_fault, options_faults, other_fault, page_fault, ranker_fault, select_fault, sizes_fault, sort_faults, target_faults, target_weight_fault, unless_aliased, weight_fault, weight_names_fault, width}
use Rattle.ql_select.specs.Names.{aliased}
use Rattle.ql_select.specs.Options.{expr_ranker, field_weights_option, is_option, max_matches_of, max_matches_option, ranker_named, ranker_option}
use Rattle.ql_select.specs.Parts.{limits}
use Rattle.ql_select.specs.declared.limits.TheConstants.{MAX_COLUMNS, MAX_FACETS, MAX_MATCHES, MAX_SORT_KEYS}
use Rattle.ql_select.specs.FirstFaults.{IsFirstFault, fault_in}
use Rattle.ql_select.specs.declared.faults.Pass.{Pass}
use Rattle.ql_select.specs.declared.faults.Pass.TheVariants.{Kinds, Names}
use Rattle.ql_select.specs.declared.first_fault.Fault.{Fault}
use Rattle.ql_select.specs.declared.first_fault.FaultClass.{FaultClass}
use Rattle.ql_select.specs.declared.first_fault.FaultClass.TheVariants as classes
use Rattle.ql_select.proofs.FirstFaults.{is_first}

-- what a refusal has, where there is one
abbrev pub Plain : Option Refused → Type 0
Plain None = ⊤
Plain (Some refusal) = refusal.code ≡ 1064

pub plain_is : (fault : Option Refused) (refusal : Refused) → Plain fault → fault ≡ Some refusal → refusal.code ≡ 1064
plain_is fault refusal plain is = subst Plain is plain

pub plain_first : (one other : Option Refused) → Plain one → Plain other → Plain (first one other)
plain_first None other plain plain' = plain'
plain_first (Some refusal) other plain plain' = plain

pub plain_unless : (holds : Bool) (refusal : Refused) → refusal.code ≡ 1064 → Plain (unless holds refusal)
plain_unless true refusal is = tt
plain_unless false refusal is = is

pub plain_if : (b : Bool) (one other : Option Refused) → Plain one → Plain other → Plain (if b then one else other)
plain_if true one other plain plain' = plain
plain_if false one other plain plain' = plain'

pub plain_first_of : {X : Type 0} (fault : X → Option Refused) → ((x : X) → Plain (fault x)) → (xs : List X) → Plain (first_of fault xs)
plain_first_of fault each [] = tt
plain_first_of fault each (x ∷ xs) = plain_first (fault x) (first_of fault xs) (each x) (plain_first_of fault each xs)

-- each fault's refusal has it
abbrev ArePlain : List Fault → Type 0
ArePlain faults = AllByRecursion (λ (fault : Fault). fault.refusal.code ≡ 1064) faults

plain_append : (xs ys : List Fault) → ArePlain xs → ArePlain ys → ArePlain (xs ++ ys)
plain_append [] ys plain plain' = plain'
plain_append (x ∷ xs) ys plain plain' = (plain.0, plain_append xs ys plain.1 plain')

plain_flat : {X : Type 0} (faults : X → List Fault) → ((x : X) → ArePlain (faults x)) → (xs : List X) → ArePlain (flat_map faults xs)
plain_flat faults each [] = tt
plain_flat faults each (x ∷ xs) = plain_append (faults x) (flat_map faults xs) (each x) (plain_flat faults each xs)

plain_in : (class : FaultClass) (fault : Option Refused) → Plain fault → ArePlain (fault_in class fault)
plain_in class None plain = tt
plain_in class (Some refusal) plain = (plain, tt)

plain_at : (before after : List Fault) (fault : Fault) → ArePlain (before ++ fault ∷ after) → fault.refusal.code ≡ 1064
plain_at [] after fault plain = plain.0
plain_at (other ∷ before) after fault plain = plain_at before after fault plain.1

-- ---- columns

plain_target : (name : List ℕ) (target : Option IndexColumn) → ArePlain (target_faults name target)
plain_target name None = (refl, tt)
plain_target name (Some targets.Id) = tt
plain_target name (Some (targets.Field field)) = (refl, tt)
plain_target name (Some (targets.Attr attr)) = tt

plain_column : (schema : Schema) (name : List ℕ) → ArePlain (column_faults schema name)
plain_column schema name = plain_target name (column_named schema name)

pub plain_name : (schema : Schema) (before : Bool) (name : List ℕ) → Plain (name_fault schema before name)
plain_name schema before name =
    plain_if (not (is_some (column_named schema name))) (Some (refusals.unknown_column name)) (if before then Some (refusals.column_twice name) else None) refl (plain_if before (Some (refusals.column_twice name)) None refl tt)

plain_expr : (schema : Schema) (expr : SelectExpr) → ArePlain (expr_faults schema expr)
plain_expr schema (exprs.Column name) = plain_column schema name
plain_expr schema exprs.CountAll = tt
plain_expr schema (exprs.CountDistinct name) = plain_column schema name
plain_expr schema (exprs.Least name) = plain_column schema name
plain_expr schema (exprs.Greatest name) = plain_column schema name
plain_expr schema (exprs.Sum name) = plain_column schema name
plain_expr schema exprs.Weight = tt
plain_expr schema exprs.GroupBy = tt

plain_item : (schema : Schema) (item : SelectItem) → ArePlain (item_faults schema item)
plain_item schema items.All = tt
plain_item schema (items.One expr alias) = plain_expr schema expr

plain_cond : (schema : Schema) (cond : Cond) → ArePlain (cond_faults schema cond)
plain_cond schema (conds.Match text) = tt
plain_cond schema (conds.Compare name op value) = plain_column schema name
plain_cond schema (conds.Among name values negated) = plain_column schema name
plain_cond schema (conds.Between name low high) = plain_column schema name

plain_group : (schema : Schema) (name : Option (List ℕ)) → ArePlain (name_faults schema name)
plain_group schema None = tt
plain_group schema (Some name) = plain_column schema name

plain_unaliased : (schema : Schema) (name : List ℕ) (place : Option ℕ) → ArePlain (unless_aliased schema name place)
plain_unaliased schema name None = plain_column schema name
plain_unaliased schema name (Some place) = tt

plain_key : (schema : Schema) (rows : Bool) (list : List SelectItem) (name : SortName) → ArePlain (key_faults schema rows list name)
plain_key schema rows list (sorts.Column name) = plain_unaliased schema name (aliased rows list name)
plain_key schema rows list sorts.Weight = tt
plain_key schema rows list sorts.CountAll = tt

plain_having : (schema : Schema) (list : List SelectItem) (having : Option Having) → ArePlain (having_faults schema list having)
plain_having schema list None = tt
plain_having schema list (Some having) = plain_key schema false list having.left

plain_facet_key : (column : List ℕ) (name : SortName) → Plain (facet_key_fault column name)
plain_facet_key column (sorts.Column name) = plain_unless (bytes_eq name column) (refusals.unknown_column name) refl
plain_facet_key column sorts.Weight = tt
plain_facet_key column sorts.CountAll = tt

plain_facet_order : (column : List ℕ) (key : Option SortKey) → Plain (facet_order_fault column key)
plain_facet_order column None = tt
plain_facet_order column (Some key) = plain_facet_key column key.by

plain_facet : (schema : Schema) (part : FacetPart) → ArePlain (facet_faults schema part)
plain_facet schema part = plain_append (column_faults schema part.column) (fault_in classes.Name (facet_order_fault part.column part.order)) (plain_column schema part.column) (plain_in classes.Name (facet_order_fault part.column part.order) (plain_facet_order part.column part.order))

-- ---- options

plain_weights : (schema : Schema) (before list : List (List ℕ × ℕ)) → Plain (weight_names_fault schema before list)
plain_weights schema before [] = tt
plain_weights schema before (given ∷ list) = plain_first (name_fault schema (is_weighed before given.0) given.0) (weight_names_fault schema (before ++ given ∷ []) list) (plain_name schema (is_weighed before given.0) given.0) (plain_weights schema (before ++ given ∷ []) list)

plain_target_weight : (name : List ℕ) (weight : ℕ) (target : Option IndexColumn) → Plain (target_weight_fault name weight target)
plain_target_weight name weight (Some (targets.Field field)) = plain_unless (nat_le 1 weight && nat_le weight 65535) (refusals.value_out_of_range name) refl
plain_target_weight name weight (Some targets.Id) = refl
plain_target_weight name weight (Some (targets.Attr attr)) = refl
plain_target_weight name weight None = refl

plain_ranker : (pass : Pass) (value : OptionValue) → Plain (ranker_fault pass value)
plain_ranker Names (values.Name name) = plain_unless (is_some (ranker_named name) || bytes_eq name expr_ranker) (refusals.ranker_not_offered name) refl
plain_ranker Names (values.Call name text) = plain_unless (bytes_eq name expr_ranker) (refusals.ranker_not_offered name) refl
plain_ranker Names value = tt
plain_ranker Kinds (values.Name name) = plain_unless (not (bytes_eq name expr_ranker)) (refusals.wrong_kind ranker_option) refl
plain_ranker Kinds (values.Call name text) = tt
plain_ranker Kinds value = refl

plain_max : (pass : Pass) (value : OptionValue) → Plain (max_matches_fault pass value)
plain_max Names value = tt
plain_max Kinds (values.Number number) = tt
plain_max Kinds value = refl

plain_field_weights : (pass : Pass) (schema : Schema) (value : OptionValue) → Plain (field_weights_fault pass schema value)
plain_field_weights Names schema (values.List list) = plain_weights schema [] list
plain_field_weights Names schema value = tt
plain_field_weights Kinds schema (values.List list) = plain_first_of (weight_fault schema) (λ given. plain_target_weight given.0 given.1 (column_named schema given.0)) list
plain_field_weights Kinds schema value = refl

plain_other : (pass : Pass) (option : List ℕ) (value : OptionValue) → Plain (other_fault pass option value)
plain_other Kinds option (values.Call name text) = refl
plain_other Names option value = tt
plain_other Kinds option value = tt

plain_option : (pass : Pass) (schema : Schema) (option : SelectOption) → Plain (option_fault pass schema option)
plain_option pass schema option =
    let name = option.name in
    let value = option.value in
    let weights = if bytes_eq name field_weights_option then field_weights_fault pass schema value else other_fault pass name value in
    let most = if bytes_eq name max_matches_option then max_matches_fault pass value else weights in
    plain_if (bytes_eq name ranker_option) (ranker_fault pass value) most (plain_ranker pass value) (plain_if (bytes_eq name max_matches_option) (max_matches_fault pass value) weights (plain_max pass value)
    (plain_if (bytes_eq name field_weights_option) (field_weights_fault pass schema value) (other_fault pass name value) (plain_field_weights pass schema value) (plain_other pass name value)))

plain_options : (schema : Schema) (options : List SelectOption) → ArePlain (options_faults schema options)
plain_options schema options =
    let named = first_of option_name_fault options in
    let inner = first_of (option_fault Names schema) options in
    let kinds = first_of (option_fault Kinds schema) options in
    plain_append (fault_in classes.OptionName named ++ fault_in classes.Name inner) (fault_in classes.Kind kinds)
    (plain_append (fault_in classes.OptionName named) (fault_in classes.Name inner)
    (plain_in classes.OptionName named (plain_first_of option_name_fault (λ option. plain_unless (is_option option.name) (refusals.unknown_option option.name) refl) options))
    (plain_in classes.Name inner (plain_first_of (option_fault Names schema) (plain_option Names schema) options)))
    (plain_in classes.Kind kinds (plain_first_of (option_fault Kinds schema) (plain_option Kinds schema) options))

-- ---- the whole

plain_sizes : (schema : Schema) (select : Select) → Plain (sizes_fault schema select)
plain_sizes schema select =
    let columns = unless (nat_le (sum_by (width schema) select.items) MAX_COLUMNS) refusals.too_many_columns in
    let keys = unless (nat_le (length select.order) MAX_SORT_KEYS && nat_le (length select.within) MAX_SORT_KEYS) refusals.too_many_sort_keys in
    let facets = unless (nat_le (length select.facets) MAX_FACETS) refusals.too_many_facets in
    plain_first columns (first keys facets) (plain_unless (nat_le (sum_by (width schema) select.items) MAX_COLUMNS) refusals.too_many_columns refl)
    (plain_first keys facets (plain_unless (nat_le (length select.order) MAX_SORT_KEYS && nat_le (length select.within) MAX_SORT_KEYS) refusals.too_many_sort_keys refl)
    (plain_unless (nat_le (length select.facets) MAX_FACETS) refusals.too_many_facets refl))

plain_page : (offset most : ℕ) → Plain (page_fault offset most)
plain_page offset most =
    plain_first (unless (nat_le 1 most && nat_le most MAX_MATCHES) refusals.max_matches_out_of_range) (unless (nat_lt offset most) (refusals.offset_not_below offset most))
    (plain_unless (nat_le 1 most && nat_le most MAX_MATCHES) refusals.max_matches_out_of_range refl) (plain_unless (nat_lt offset most) (refusals.offset_not_below offset most) refl)

plain_limits : (schema : Schema) (select : Select) → Plain (limits_fault schema select)
plain_limits schema select =
    let matches = unless (nat_le (count_by is_match select.conds) 1) refusals.second_match in
    let groups = unless (has_groups select) refusals.group_by_missing in
    let page = page_fault (limits select.limit).0 (max_matches_of select.options) in
    plain_first matches (first groups (first (sizes_fault schema select) page)) (plain_unless (nat_le (count_by is_match select.conds) 1) refusals.second_match refl)
    (plain_first groups (first (sizes_fault schema select) page) (plain_unless (has_groups select) refusals.group_by_missing refl)
    (plain_first (sizes_fault schema select) page (plain_sizes schema select) (plain_page (limits select.limit).0 (max_matches_of select.options))))

plain_faults : (schema : Schema) (select : Select) → ArePlain (faults_of schema select)
plain_faults schema select =
    let items = flat_map (item_faults schema) select.items in
    let conds = flat_map (cond_faults schema) select.conds in
    let group = name_faults schema select.group in
    let within = flat_map (sort_faults schema true select.items) select.within in
    let having = having_faults schema select.items select.having in
    let order = flat_map (sort_faults schema false select.items) select.order in
    let options = options_faults schema select.options in
    let facets = flat_map (facet_faults schema) select.facets in
    let limits = fault_in classes.Limit (limits_fault schema select) in
    plain_append (items ++ conds ++ group ++ within ++ having ++ order ++ options ++ facets) limits
    (plain_append (items ++ conds ++ group ++ within ++ having ++ order ++ options) facets
    (plain_append (items ++ conds ++ group ++ within ++ having ++ order) options
    (plain_append (items ++ conds ++ group ++ within ++ having) order
    (plain_append (items ++ conds ++ group ++ within) having
    (plain_append (items ++ conds ++ group) within
    (plain_append (items ++ conds) group
    (plain_append items conds (plain_flat (item_faults schema) (plain_item schema) select.items) (plain_flat (cond_faults schema) (plain_cond schema) select.conds))
    (plain_group schema select.group))
    (plain_flat (sort_faults schema true select.items) (λ key. plain_key schema true select.items key.by) select.within))
    (plain_having schema select.items select.having))
    (plain_flat (sort_faults schema false select.items) (λ key. plain_key schema false select.items key.by) select.order))
    (plain_options schema select.options))
    (plain_flat (facet_faults schema) (plain_facet schema) select.facets))
    (plain_in classes.Limit (limits_fault schema select) (plain_limits schema select))

pub plain_select : (schema : Schema) (select : Select) (fault : Fault) → select_fault schema select ≡ Some fault → fault.refusal.code ≡ 1064
plain_select schema select fault is =
    let first : IsFirstFault (faults_of schema select) fault = is_first (faults_of schema select) fault is in
    plain_at first.before first.after fault (subst ArePlain first.stands (plain_faults schema select))
