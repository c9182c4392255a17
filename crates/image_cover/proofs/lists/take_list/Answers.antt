use Rattle.std.proofs.Common.{refl, ◌+◌}
use Rattle.image_cover.proofs.Listing.{listed_more, listed_stop}
use Rattle.image_cover.specs.Covers.{seen}
use Rattle.image_cover.proofs.lists.take_list.Goals as goal

pub returns-in-None : goal.returns-in-None
returns-in-None c = listed_stop c.args.bytes.now c.args.rows c.args.start c.entries.at c.entries.least c.entries.counter c.args.count c.args.starts.now c.args.width (seen c.args.cover.now) (seen c.entries.cover) c.entries.invariant c.entries-test.true c.in-None.ensures

pub entries-preserved : goal.entries-preserved
entries-preserved c =
    let its = c.in-Some.ensures in
    listed_more c.args.bytes.now c.args.rows c.args.start c.entries.at c.in-Some.end c.entries.least (c.in-Some.row + 1) c.entries.counter c.args.starts.now c.args.width (seen c.args.cover.now) (seen c.entries.cover) (seen c.take_entry.new.cover) c.in-Some.row its.0 its.1 c.entries.invariant its.2 its.3 its.4 refl its.5
