use Rattle.std.proofs.Common.{◌≤◌, ◌<◌, ◌^◌, List, length, sym, subst}
use Rattle.std.specs.Prelude.{All}
use Rattle.ql_tree.specs.declared.select.SelectItem.{SelectItem}
use Rattle.ql_tree.specs.declared.select.SelectOption.{SelectOption}
use Rattle.ql_select.specs.Options.{field_weights_option, last_value, weights_in}
use Rattle.ql_select.proofs.NoFault.{few_items, few_sources, is_page, small_weights}
use Rattle.ql_select.proofs.selecting.rest_of.Goals as goal

pub weights_of-requires : goal.weights_of-requires
weights_of-requires c = record {
  small = subst (λ (options : List SelectOption). All (λ given. given.1 ≤ 65535) (weights_in (last_value options field_weights_option)))
      (sym c.as_slice-options.ensures) (small_weights c.args.conf.now.schema c.args.select.now c.requires.good);
}

pub page_of-page-requires-clause-begins : goal.page_of-page-requires-clause-begins
page_of-page-requires-clause-begins c = (is_page c.args.conf.now.schema c.args.select.now c.requires.good).2

pub page_of-page-requires-clause-most : goal.page_of-page-requires-clause-most
page_of-page-requires-clause-most c = (is_page c.args.conf.now.schema c.args.select.now c.requires.good).1

pub row_order-requires : goal.row_order-requires
row_order-requires c = record { few = few_sources c.args.conf.now.schema c.args.select.now c.args.names c.requires.good c.requires.names }

pub table_of-requires : goal.table_of-requires
table_of-requires c = record { few = few_sources c.args.conf.now.schema c.args.select.now c.args.names c.requires.good c.requires.names }

pub columns_shown-requires-clause-short : goal.columns_shown-requires-clause-short
columns_shown-requires-clause-short c =
    subst (λ (items : List SelectItem). length items < 2 ^ 16) (sym c.as_slice-items.ensures) (few_items c.args.conf.now.schema c.args.select.now c.requires.good)
