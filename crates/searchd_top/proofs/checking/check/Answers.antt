use Rattle.std.proofs.Common.{List, map, subst, sym}
use Rattle.index_conf.specs.declared.conf.IndexConf.{IndexConf}
use Rattle.program_host.specs.declared.status.Status.{Status}
use Rattle.searchd_top.specs.Checks.{ChecksIndexes, check_lines}
use Rattle.searchd_top.specs.Requests.{store_requests}
use Rattle.searchd_top.specs.steps.Openings.{holdings_of}
use Rattle.searchd_top.specs.steps.Sides.{DoesBy, PrintsOut}
use Rattle.searchd_top.proofs.Held.{checks_all, checks_stopped, opens_first, room_all, room_stopped, stops_from}
use Rattle.searchd_top.proofs.checking.check.Goals as goal

pub print_checked-requires-after_bounds : goal.print_checked-requires-after_bounds
print_checked-requires-after_bounds g c κs within =
    let opens = opens_first g.H.Host g.H.Store.Disk c.args.conf.now.indexes c.as_slice-indexes.result.now c.new-opened.result.items c.open_stores.new.opened.items c.args.host.now c.open_stores.new.host
    c.as_slice-indexes.ensures c.new-opened.ensures.items c.in-Ok.ensures.opens in
    room_all g.H.Host g.H.Store.Disk c.args.conf.now.indexes c.open_stores.new.opened.items c.args.host.now c.open_stores.new.host opens c.in-Ok.ensures.doors c.requires.stores

pub give_up-requires-after_bounds : goal.give_up-requires-after_bounds
give_up-requires-after_bounds g c κs within =
    let stops = stops_from g.H.Host g.H.Store.Disk c.args.conf.now.indexes c.as_slice-indexes.result.now c.in-Err.stop c.new-opened.result.items c.open_stores.new.opened.items c.args.host.now c.open_stores.new.host
    c.as_slice-indexes.ensures c.new-opened.ensures.items c.in-Err.ensures.opens in
    room_stopped g.H.Host g.H.Store.Disk c.args.conf.now.indexes c.in-Err.stop c.open_stores.new.opened.items c.args.host.now c.open_stores.new.host stops c.in-Err.ensures.doors c.requires.stores

pub returns-in-Ok-clause-checks : goal.returns-in-Ok-clause-checks
returns-in-Ok-clause-checks g c =
    let opens = opens_first g.H.Host g.H.Store.Disk c.args.conf.now.indexes c.as_slice-indexes.result.now c.new-opened.result.items c.open_stores.new.opened.items c.args.host.now c.open_stores.new.host
    c.as_slice-indexes.ensures c.new-opened.ensures.items c.in-Ok.ensures.opens in
    let prints = subst (λ (list : List IndexConf). PrintsOut g.H.Host c.print_checked.result (check_lines list (map holdings_of c.open_stores.new.opened.items)) c.open_stores.new.host c.print_checked.new.host)
    c.as_slice-indexes.ensures c.print_checked.ensures.prints in
    checks_all g.H.Host g.H.Store.Disk c.args.conf.now.indexes c.print_checked.result c.open_stores.new.opened.items c.args.host.now c.open_stores.new.host c.print_checked.new.host opens c.in-Ok.ensures.doors
    c.in-Ok.ensures.prints c.print_checked.ensures.back prints

pub returns-in-Err-clause-checks : goal.returns-in-Err-clause-checks
returns-in-Err-clause-checks g c =
    let stops = stops_from g.H.Host g.H.Store.Disk c.args.conf.now.indexes c.as_slice-indexes.result.now c.in-Err.stop c.new-opened.result.items c.open_stores.new.opened.items c.args.host.now c.open_stores.new.host
    c.as_slice-indexes.ensures c.new-opened.ensures.items c.in-Err.ensures.opens in
    subst (λ (status : Status). DoesBy g.H.Host c.args.host.now c.give_up.new.host (ChecksIndexes g.H.Store.Disk c.args.conf.now.indexes (store_requests c.args.conf.now.indexes) status)) (sym c.give_up.ensures.status)
    (checks_stopped g.H.Host g.H.Store.Disk c.args.conf.now.indexes c.in-Err.stop c.open_stores.new.opened.items c.args.host.now c.open_stores.new.host c.give_up.new.host stops c.in-Err.ensures.doors c.in-Err.ensures.prints
    c.give_up.ensures.back c.give_up.ensures.prints)
