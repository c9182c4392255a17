use Rattle.std.proofs.Common.{List, ap, arith, length, length-append, option_copied, subst, sym}
use Rattle.index_conf.specs.declared.conf.IndexConf.{IndexConf}
use Rattle.program_host.specs.declared.status.Status.{Status}
use Rattle.searchd_top.specs.Plans.{Plan}
use Rattle.searchd_top.specs.steps.Servings.{AreNames, ServesOpened, plan_of}
use Rattle.searchd_top.proofs.ServedIndexes.{doors_long, ends_long, names_long, serves_all, serves_no_room, serves_refused, short_names}
use Rattle.searchd_top.proofs.serving.serve_opened.Goals as goal

pub hand_all_back-requires-clause-many : goal.hand_all_back-requires-clause-many
hand_all_back-requires-clause-many g c κs within =
    let plan : Plan = plan_of (option_copied c.args.listen) c.args.workers c.args.sessions in
    let names : AreNames c.args.indexes.items c.in-Ok.names.items = subst (λ (indexes : List IndexConf). AreNames indexes c.in-Ok.names.items) c.deref.ensures.value c.in-Ok.ensures.names in
    omega (
      arith,
      names_long c.args.indexes.items c.in-Ok.names.items names,
      c.requires.opened.many,
      ends_long g.H.Host g.H.Store.Disk g.H.Entry.Door g.H.Entry.Line.Link c.args.indexes.items plan c.args.opened.items c.in-Ok-doors.given.items c.serve_stores-served.result c.requires.opened.many c.serve_stores-served.ensures,
    )

pub hand_all_back-requires-clause-short : goal.hand_all_back-requires-clause-short
hand_all_back-requires-clause-short g c κs within =
    short_names c.args.indexes.items c.in-Ok.names.items c.requires.served (subst (λ (indexes : List IndexConf). AreNames indexes c.in-Ok.names.items) c.deref.ensures.value c.in-Ok.ensures.names)

pub hand_all_back-requires-clause-stores : goal.hand_all_back-requires-clause-stores
hand_all_back-requires-clause-stores g c κs within =
    let plan : Plan = plan_of (option_copied c.args.listen) c.args.workers c.args.sessions in
    let e = c.in-Ok-doors.ensures in
    omega (
      arith,
      c.requires.stores,
      ap length e.takes_stores,
      ap length e.gives_stores,
      ends_long g.H.Host g.H.Store.Disk g.H.Entry.Door g.H.Entry.Line.Link c.args.indexes.items plan c.args.opened.items c.in-Ok-doors.given.items c.serve_stores-served.result c.requires.opened.many c.serve_stores-served.ensures,
    )

pub hand_all_back-requires-clause-doors : goal.hand_all_back-requires-clause-doors
hand_all_back-requires-clause-doors g c κs within =
    let plan : Plan = plan_of (option_copied c.args.listen) c.args.workers c.args.sessions in
    let e = c.in-Ok-doors.ensures in
    omega (
      arith,
      c.requires.doors,
      ap length e.takes_doors,
      ap length e.gives_doors,
      length-append (g.H.Host.doors_given c.args.host.now) c.in-Ok-doors.given.items,
      doors_long g.H.Host g.H.Store.Disk g.H.Entry.Door g.H.Entry.Line.Link c.args.indexes.items plan c.args.opened.items c.in-Ok-doors.given.items c.serve_stores-served.result c.serve_stores-served.ensures,
    )

pub returns-in-Ok-doors-clause-serves : goal.returns-in-Ok-doors-clause-serves
returns-in-Ok-doors-clause-serves g c =
    let plan : Plan = plan_of (option_copied c.args.listen) c.args.workers c.args.sessions in
    let names : AreNames c.args.indexes.items c.in-Ok.names.items = subst (λ (indexes : List IndexConf). AreNames indexes c.in-Ok.names.items) c.deref.ensures.value c.in-Ok.ensures.names in
    let e = c.in-Ok-doors.ensures in
    serves_all g.H.Host g.H.Store.Disk g.H.Entry.Door g.H.Entry.Line.Link c.args.indexes.items plan c.args.opened.items c.in-Ok.names.items c.in-Ok-doors.given.items c.serve_stores-served.result c.hand_all_back.result c.args.host.now c.doors.new.self c.hand_all_back.new.host
    names e.count c.requires.opened.many c.serve_stores-served.ensures e.cause e.asks e.gives_stores e.takes_stores e.gives_doors e.takes_doors c.hand_all_back.ensures.hands

pub returns-in-Err-doors-clause-serves : goal.returns-in-Err-doors-clause-serves
returns-in-Err-doors-clause-serves g c =
    let plan : Plan = plan_of (option_copied c.args.listen) c.args.workers c.args.sessions in
    let e = c.in-Err-doors.ensures in
    subst (λ (status : Status). ServesOpened g.H.Host g.H.Store.Disk g.H.Entry.Door g.H.Entry.Line.Link c.args.indexes.items plan c.args.opened.items status c.args.host.now c.hand_back.new.host) (sym c.from.ensures)
    (serves_refused g.H.Host g.H.Store.Disk g.H.Entry.Door g.H.Entry.Line.Link c.args.indexes.items plan c.args.opened.items c.in-Err-doors.fault c.args.host.now c.doors.new.self c.hand_back.new.host
    e.cause e.asks e.gives_stores e.takes_stores e.gives_doors e.takes_doors c.hand_back.ensures.back)

pub returns-in-Err-clause-serves : goal.returns-in-Err-clause-serves
returns-in-Err-clause-serves g c =
    let plan : Plan = plan_of (option_copied c.args.listen) c.args.workers c.args.sessions in
    serves_no_room g.H.Host g.H.Store.Disk g.H.Entry.Door g.H.Entry.Line.Link c.args.indexes.items plan c.args.opened.items c.args.host.now c.hand_back-in-Err.new.host c.hand_back-in-Err.ensures.back
