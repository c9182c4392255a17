use Rattle.std.proofs.Common.{◌≤◌, ◌<◌, length, arith}
use Rattle.group_facet.proofs.Beside.{amid_last, amid_more}
use Rattle.table_search.proofs.Offered.{GoesOn, gone_on}
use Rattle.table_search.proofs.facet_sinks.offer_to_all.Goals as goal

pub loop-counts-preserved : goal.loop-counts-preserved
loop-counts-preserved g c =
    let at = c.loop-counts in
    let low : at.counts-index < length at.list = omega (arith, at.auto.list, c.loop-counts-test.true) in
    amid_more (GoesOn (g.R.FoundRow.as_row c.args.row.now)) c.args.list.now at.counts-index at.list c.counts-item.result c.offer.new.self low c.in_ok-offer.ensures at.invariant

pub returns : goal.returns
returns g c = λ facets offered are.
    let at = c.loop-counts in
    let past : length c.args.list.now ≤ at.counts-index = omega (arith, c.loop-counts-test.false) in
    let now_past : length at.list ≤ at.counts-index = omega (arith, at.auto.list, c.loop-counts-test.false) in
    gone_on facets offered (g.R.FoundRow.as_row c.args.row.now) c.args.list.now at.list (amid_last (GoesOn (g.R.FoundRow.as_row c.args.row.now)) c.args.list.now at.counts-index at.list past now_past at.invariant) are
