use Rattle.image_cover.proofs.Counting.{counted_more}
use Rattle.image_cover.specs.Covers.{seen}
use Rattle.image_cover.proofs.lists.take_differences.Goals as goal

pub hits-preserved : goal.hits-preserved
hits-preserved c =
    let its = c.in_ok-hit.ensures in
    counted_more c.args.bytes.now c.args.start c.hits.at c.in_ok-hit.end c.hits.last c.key_of-last.result c.hits.counter c.args.row c.args.own.now (seen c.args.cover.now) (seen c.hits.cover) (seen c.take.new.self) c.in_ok-hit.hit its.0 c.place_of-place.result c.hits.invariant its.1 its.2 c.key_of-last.ensures c.place_of-place.ensures c.take.ensures
