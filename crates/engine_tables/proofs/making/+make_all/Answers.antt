use Rattle.std.proofs.Common.{rules}
use Rattle.engine_tables.specs.steps.Makings.{CanBeMade}
use Rattle.engine_tables.proofs.Composing.{fewer_can_be_made, last_is_named, left_alike, makes_all, makes_back, room_for_last}
use Rattle.engine_tables.proofs.making.+make_all.Goals as goal

pub make_all-requires : goal.make_all-requires
make_all-requires g t c κs =
    let fewer : CanBeMade g.D.Disk g.J.Naming.book g.J.Naming.faults g.J.Naming.stops g.J.Naming.schema g.J.Naming.base g.J.Naming.opened c.pop.new.self.items c.take_last-store.new.self.items c.args.none =
    fewer_can_be_made g.D.Disk g.J.Naming.book g.J.Naming.faults g.J.Naming.stops g.J.Naming.schema g.J.Naming.base g.J.Naming.opened c.args.confs.items c.pop.new.self.items c.in-Some.conf c.args.stores.items c.take_last-store.new.self.items c.take_last-store.result c.args.none c.in-Some.ensures.items c.take_last-store.ensures.items c.requires in
    search rules

pub make_one-requires-clause-named : goal.make_one-requires-clause-named
make_one-requires-clause-named g t c =
    last_is_named g.D.Disk g.J.Naming.book g.J.Naming.faults g.J.Naming.stops g.J.Naming.schema g.J.Naming.base g.J.Naming.opened c.args.confs.items c.pop.new.self.items c.in-Some.conf c.args.stores.items c.take_last-store.new.self.items c.take_last-store.result c.args.none c.in-Some.ensures.items c.take_last-store.ensures.items c.requires c.in-Going.made c.in-Going.ensures

pub make_one-requires-clause-made : goal.make_one-requires-clause-made
make_one-requires-clause-made g t c =
    room_for_last g.D.Disk g.J.Naming.book g.J.Naming.faults g.J.Naming.stops g.J.Naming.schema g.J.Naming.base g.J.Naming.opened c.args.confs.items c.pop.new.self.items c.in-Some.conf c.args.stores.items c.take_last-store.new.self.items c.take_last-store.result c.args.none c.in-Some.ensures.items c.take_last-store.ensures.items c.requires c.in-Going.made c.in-Going.ensures

pub returns-in-Going : goal.returns-in-Going
returns-in-Going g t c =
    makes_all g.D.Disk g.J.Naming.schema g.J.Naming.base g.J.Naming.opened c.args.confs.items c.pop.new.self.items c.in-Some.conf c.args.stores.items c.take_last-store.new.self.items c.take_last-store.result c.args.none c.in-Some.ensures.items c.take_last-store.ensures.items c.in-Going.made c.make_one.result
    (left_alike g.D.Disk g.J.Naming.book g.J.Naming.faults g.J.Naming.stops g.J.Naming.schema g.J.Naming.base g.J.Naming.opened c.args.confs.items c.pop.new.self.items c.in-Some.conf c.args.stores.items c.take_last-store.new.self.items c.take_last-store.result c.args.none c.in-Some.ensures.items c.take_last-store.ensures.items c.requires) c.in-Going.ensures c.make_one.ensures

pub returns-in-Stopped : goal.returns-in-Stopped
returns-in-Stopped g t c =
    makes_back g.D.Disk g.J.Naming.schema g.J.Naming.base g.J.Naming.opened c.args.confs.items c.pop.new.self.items c.in-Some.conf c.args.stores.items c.take_last-store.new.self.items c.take_last-store.result c.args.none c.in-Some.ensures.items c.take_last-store.ensures.items c.in-Stopped.ended c.push_reserved.new.self _ c.into_disk.ensures c.push_reserved.ensures.items c.push_reserved.ensures.capacity c.in-Stopped.ensures
