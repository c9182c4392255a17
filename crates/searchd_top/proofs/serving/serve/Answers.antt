use Rattle.std.proofs.Common.{◌++◌, List, option_copied, subst, sym}
use Rattle.index_conf.specs.declared.conf.IndexConf.{IndexConf}
use Rattle.served_stores.specs.Stores.{AreStores}
use Rattle.program_host.specs.declared.status.Status.{Status}
use Rattle.searchd_top.specs.Plans.{Plan}
use Rattle.searchd_top.specs.Requests.{door_requests, store_requests}
use Rattle.searchd_top.specs.Sessions.{ServesIndexes}
use Rattle.searchd_top.specs.steps.Servings.{ServesOpened, plan_of}
use Rattle.searchd_top.specs.steps.Sides.{DoesBy}
use Rattle.searchd_top.proofs.Held.{opens_first, room_all, room_stopped, stops_from}
use Rattle.searchd_top.proofs.ServedIndexes.{are_stores, serves_opened, serves_stopped}
use Rattle.searchd_top.proofs.serving.serve.Goals as goal

pub serve_opened-requires-clause-opened : goal.serve_opened-requires-clause-opened
serve_opened-requires-clause-opened g c κs within =
    let opens = opens_first g.H.Host g.H.Store.Disk c.args.conf.indexes c.as_slice.result.now c.new-opened.result.items c.open_stores.new.opened.items c.args.host.now c.open_stores.new.host
    c.as_slice.ensures c.new-opened.ensures.items c.in-Ok.ensures.opens in
    subst (λ (indexes : List IndexConf). AreStores g.H.Store.Disk indexes c.open_stores.new.opened.items) (sym c.into_vec-indexes.ensures)
    (are_stores g.H.Host g.H.Store.Disk g.H.Entry.Door g.H.Entry.Line.Link c.args.conf.indexes c.open_stores.new.opened.items c.args.host.now c.open_stores.new.host opens)

pub serve_opened-requires-clause-stores : goal.serve_opened-requires-clause-stores
serve_opened-requires-clause-stores g c κs within =
    let opens = opens_first g.H.Host g.H.Store.Disk c.args.conf.indexes c.as_slice.result.now c.new-opened.result.items c.open_stores.new.opened.items c.args.host.now c.open_stores.new.host
    c.as_slice.ensures c.new-opened.ensures.items c.in-Ok.ensures.opens in
    room_all g.H.Host g.H.Store.Disk c.args.conf.indexes c.open_stores.new.opened.items c.args.host.now c.open_stores.new.host opens c.in-Ok.ensures.doors c.requires.stores

pub give_up-requires-after_bounds : goal.give_up-requires-after_bounds
give_up-requires-after_bounds g c κs within =
    let stops = stops_from g.H.Host g.H.Store.Disk c.args.conf.indexes c.as_slice.result.now c.in-Err.stop c.new-opened.result.items c.open_stores.new.opened.items c.args.host.now c.open_stores.new.host
    c.as_slice.ensures c.new-opened.ensures.items c.in-Err.ensures.opens in
    room_stopped g.H.Host g.H.Store.Disk c.args.conf.indexes c.in-Err.stop c.open_stores.new.opened.items c.args.host.now c.open_stores.new.host stops c.in-Err.ensures.doors c.requires.stores

pub returns-in-Ok-clause-serves : goal.returns-in-Ok-clause-serves
returns-in-Ok-clause-serves g c =
    let plan : Plan = plan_of (option_copied c.args.listen) c.args.workers c.args.sessions in
    let opens = opens_first g.H.Host g.H.Store.Disk c.args.conf.indexes c.as_slice.result.now c.new-opened.result.items c.open_stores.new.opened.items c.args.host.now c.open_stores.new.host
    c.as_slice.ensures c.new-opened.ensures.items c.in-Ok.ensures.opens in
    let serves = subst (λ (indexes : List IndexConf). ServesOpened g.H.Host g.H.Store.Disk g.H.Entry.Door g.H.Entry.Line.Link indexes plan c.open_stores.new.opened.items c.serve_opened.result c.open_stores.new.host c.serve_opened.new.host) c.into_vec-indexes.ensures c.serve_opened.ensures.serves in
    serves_opened g.H.Host g.H.Store.Disk g.H.Entry.Door g.H.Entry.Line.Link c.args.conf.indexes plan c.open_stores.new.opened.items c.serve_opened.result c.args.host.now c.open_stores.new.host c.serve_opened.new.host opens c.in-Ok.ensures.doors c.in-Ok.ensures.prints serves c.serve_opened.ensures.prints

pub returns-in-Err-clause-serves : goal.returns-in-Err-clause-serves
returns-in-Err-clause-serves g c =
    let plan : Plan = plan_of (option_copied c.args.listen) c.args.workers c.args.sessions in
    let stops = stops_from g.H.Host g.H.Store.Disk c.args.conf.indexes c.as_slice.result.now c.in-Err.stop c.new-opened.result.items c.open_stores.new.opened.items c.args.host.now c.open_stores.new.host
    c.as_slice.ensures c.new-opened.ensures.items c.in-Err.ensures.opens in
    subst (λ (status : Status). DoesBy g.H.Host c.args.host.now c.give_up.new.host (ServesIndexes g.H.Store.Disk g.H.Entry.Door g.H.Entry.Line.Link c.args.conf.indexes plan (store_requests c.args.conf.indexes ++ door_requests plan) status)) (sym c.give_up.ensures.status)
    (serves_stopped g.H.Host g.H.Store.Disk g.H.Entry.Door g.H.Entry.Line.Link c.args.conf.indexes plan c.in-Err.stop c.open_stores.new.opened.items c.args.host.now c.open_stores.new.host c.give_up.new.host stops c.in-Err.ensures.doors c.in-Err.ensures.prints
    c.give_up.ensures.back c.give_up.ensures.prints)
