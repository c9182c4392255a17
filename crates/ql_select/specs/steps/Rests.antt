-- What a SELECT means, all but its query, and with it.
use Rattle.std.specs.Prelude.{length}
use Rattle.index_conf.specs.declared.conf.IndexConf.{IndexConf}
use Rattle.ql_tree.specs.declared.select.Select.{Select}
use Rattle.doc_search.specs.declared.ranking.Ranking.{Ranking}
use Rattle.query_tree.specs.declared.query.Query.{Query}
use Rattle.ql_select.specs.declared.names.Names.{Names}
use Rattle.ql_select.specs.declared.rest.Rest.{Rest}
use Rattle.ql_select.specs.declared.selection.Selection.{Selection}
use Rattle.ql_select.specs.Columns.{columns_shown}
use Rattle.ql_select.specs.Groups.{row_order, table_of}
use Rattle.ql_select.specs.Options.{weights_of}
use Rattle.ql_select.specs.Parts.{page_of}

-- what a SELECT with these names means, all but its query and how it is weighed
abbrev pub rest_of : IndexConf → Select → Names → Rest
rest_of conf select names = record {
  weights = record { list = weights_of conf.schema select.options };
  filters = names.filters;
  order = row_order names;
  page = page_of select;
  attrs = length conf.schema.attrs;
  table = table_of names (page_of select);
  facets = names.facets;
  shown = columns_shown conf.schema names.group select.items;
  facet_columns = names.facet_columns;
}

-- what it means with this query, and weighed so
abbrev pub with_query : Query → Ranking → Rest → Selection
with_query query ranking rest = record {
  asked = record {
    question = record { query = query; ranker = ranking; weights = rest.weights; filters = rest.filters; order = rest.order; page = rest.page; attrs = rest.attrs };
    table = rest.table;
    facets = rest.facets;
  };
  shown = rest.shown;
  facets = rest.facet_columns;
}
