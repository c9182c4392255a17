-- A SELECT that was gone over: its names part by part, and its faults part after part.
use Rattle.std.proofs.Common.{◌≡◌, List, ◌++◌, Option, ap, ◌∙◌, sym}
use Rattle.std.specs.Prelude.{fold, map, true, false}
use Rattle.std.specs.List.{flat_map}
use Rattle.std.specs.Option.{option_map}
use Rattle.std.proofs.lemmas.List.Sums.{fold-append}
use Rattle.doc_types.specs.declared.schema.Schema.{Schema}
use Rattle.ql_refusals.specs.Refusals.{first_of}
use Rattle.ql_tree.specs.declared.select.Select.{Select}
use Rattle.ql_tree.specs.declared.select.SelectOption.{SelectOption}
use Rattle.ql_select.specs.declared.faults.Pass.TheVariants as passes
use Rattle.ql_select.specs.declared.first_fault.Fault.{Fault}
use Rattle.ql_select.specs.declared.first_fault.FaultClass.TheVariants as classes
use Rattle.ql_select.specs.declared.names.Names.{Names}
use Rattle.ql_select.specs.Facets.{facet_column, facet_of}
use Rattle.ql_select.specs.Faults.{cond_faults, facet_faults, faults_of, having_faults, item_faults, limits_fault, name_faults, option_fault, option_name_fault, options_faults, sort_faults}
use Rattle.ql_select.specs.FirstFaults.{fault_in, sooner}
use Rattle.ql_select.specs.Names.{having_source, names_of, order_key, sources_of, within_key}
use Rattle.ql_select.specs.Parts.{filters_of}
use Rattle.ql_select.specs.Targets.{column_of}

pub same_names : (schema : Schema) (select : Select) (names : Names) → names.sources ≡ sources_of schema select.items → names.filters ≡ filters_of schema select.conds → names.group ≡ option_map (column_of schema) select.group → names.within ≡ map (within_key schema select.items) select.within → names.having ≡ option_map (having_source schema select.items) select.having → names.order ≡ map (order_key schema select.items) select.order → names.facets ≡ map (facet_of schema) select.facets → names.facet_columns ≡ map (facet_column schema) select.facets → names ≡ names_of schema select
same_names schema select names sources filters group within having order facets columns = λ i. record {
  sources = sources i;
  filters = filters i;
  group = group i;
  within = within i;
  having = having i;
  order = order i;
  facets = facets i;
  facet_columns = columns i;
}

-- faults that are noted, as a fact of their list
pub record Noted (old : Option Fault) (faults : List Fault) (new : Option Fault) : Type 0 where
  pub is : new ≡ fold sooner old faults

-- and others after them
then_noted : {old mid new : Option Fault} {xs ys : List Fault} → Noted old xs mid → Noted mid ys new → Noted old (xs ++ ys) new
then_noted {old} {mid} {new} {xs} {ys} one two = record {
  is = two.is ∙ ap (λ (kept : Option Fault). fold sooner kept ys) one.is ∙ sym (fold-append sooner old xs ys);
}

pub all_noted : (schema : Schema) (select : Select) (old items conds group within having order options facets new : Option Fault) → Noted old (flat_map (item_faults schema) select.items) items → Noted items (flat_map (cond_faults schema) select.conds) conds → Noted conds (name_faults schema select.group) group → Noted group (flat_map (sort_faults schema true select.items) select.within) within → Noted within (having_faults schema select.items select.having) having → Noted having (flat_map (sort_faults schema false select.items) select.order) order → Noted order (options_faults schema select.options) options → Noted options (flat_map (facet_faults schema) select.facets) facets → Noted facets (fault_in classes.Limit (limits_fault schema select)) new → new ≡ fold sooner old (faults_of schema select)
all_noted schema select old items conds group within having order options facets new a b c d e f g h i =
    let parts = then_noted (then_noted (then_noted (then_noted (then_noted a b) c) d) e) f in
    (then_noted (then_noted (then_noted parts g) h) i).is

pub options_noted : (schema : Schema) (options : List SelectOption) (old names values new : Option Fault) → Noted old (fault_in classes.OptionName (first_of option_name_fault options)) names → Noted names (fault_in classes.Name (first_of (option_fault passes.Names schema) options)) values → Noted values (fault_in classes.Kind (first_of (option_fault passes.Kinds schema) options)) new → new ≡ fold sooner old (options_faults schema options)
options_noted schema options old names values new a b c = (then_noted (then_noted a b) c).is
