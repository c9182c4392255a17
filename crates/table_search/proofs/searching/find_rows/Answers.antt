use Rattle.std.proofs.Common.{◌≡◌, ◌∙◌, List, [], length, arith, subst, sym}
use Rattle.group_facet.specs.declared.facets.Facet.{Facet}
use Rattle.row_select.specs.Pages.{IsTop}
use Rattle.row_select.specs.declared.row.Row.{Row}
use Rattle.table_search.specs.Gathering.{GatherFacets}
use Rattle.table_search.specs.Tables.{ShowsTable}
use Rattle.table_search.specs.declared.asked.Table.{Table}
use Rattle.table_search.specs.declared.found.FoundTable.TheVariants as found_tables
use Rattle.table_search.proofs.searching.find_rows.Goals as goal

pub returns : goal.returns
returns g c =
    let asked = c.args.asked.now in
    let question = asked.question in
    let its = c.in-Ok.ensures in
    let last = c.search_into.new.sink.first in
    let counted : c.search_into.new.sink.second.first.rows ≡ length its.0 = omega (arith, its.2.1.0) in
    let top : IsTop its.0 question.order question.page c.in_ok-finish.field-0.items =
    subst (λ order. IsTop its.0 order question.page c.in_ok-finish.field-0.items) (its.2.0.order ∙ c.new.ensures.order)
    (subst (λ page. IsTop its.0 last.order page c.in_ok-finish.field-0.items) (its.2.0.page ∙ c.new.ensures.page) (c.in_ok-finish.ensures its.0 (its.2.0.keeps c.new.ensures.nothing))) in
    record {
      found = its.0;
      are = its.1;
      table = subst (λ (t : Table). ShowsTable question t its.0 (found_tables.Rows c.new-3.result) c.search_into.new.sink.second.first.rows) (sym c.requires.rows)
          (subst (λ (rows : List Row). IsTop its.0 question.order question.page rows) (sym c.new-3.ensures) top, counted);
      facets = c.in_ok-finish-2.ensures asked.facets its.0
          (its.2.1.1 asked.facets (subst (λ (facets : List Facet). GatherFacets facets [] c.in_ok-new.field-0.list.items) c.as_slice.ensures c.in_ok-new.ensures));
    }
