use Rattle.std.proofs.Common.{List, [], subst, sym}
use Rattle.group_facet.specs.ShownGroups.{AreTop}
use Rattle.group_facet.specs.declared.facets.Facet.{Facet}
use Rattle.table_search.specs.Gathering.{GatherFacets}
use Rattle.table_search.specs.Tables.{ShowsTable}
use Rattle.table_search.specs.declared.asked.Table.{Table}
use Rattle.table_search.specs.declared.found.FoundTable.TheVariants as found_tables
use Rattle.table_search.proofs.searching.find_groups.Goals as goal

pub returns : goal.returns
returns g c =
    let asked = c.args.asked.now in
    let table = c.args.table.now in
    let its = c.in-Ok.ensures in
    let groups = c.in_ok-finish.field-0.items in
    record {
      found = its.0;
      are = its.1;
      table = subst (λ (t : Table). ShowsTable asked.question t its.0 (found_tables.Groups c.new-3.result) c.in_ok-shown.shown.found) (sym c.requires.groups) (record {
        groups = groups;
        are = c.in_ok-finish.ensures table.group its.0 (its.2.0 table.group c.new.ensures);
        top = subst (AreTop table.page groups) (sym c.new-3.ensures) c.in_ok-shown.ensures.rows;
        counts = c.in_ok-shown.ensures.found;
      });
      facets = c.in_ok-finish-2.ensures asked.facets its.0
          (its.2.1 asked.facets (subst (λ (facets : List Facet). GatherFacets facets [] c.in_ok-new.field-0.list.items) c.as_slice.ensures c.in_ok-new.ensures));
    }
