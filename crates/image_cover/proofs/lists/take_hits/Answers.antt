use Rattle.std.proofs.Common.{arith}
use Rattle.posting_codec.proofs.Reading.{none_empty}
use Rattle.image_cover.proofs.Counting.{hits_answer}
use Rattle.image_cover.specs.Covers.{seen}
use Rattle.image_cover.proofs.lists.take_hits.Goals as goal

pub returns-then-count-eq0 : goal.returns-then-count-eq0
returns-then-count-eq0 c =
    let its = c.in_ok-count.ensures in
    none_empty c.args.bytes.now c.args.at c.in_ok-count.count its.0 its.1 (omega arith)

pub returns : goal.returns
returns c =
    let its = c.in_ok-count.ensures in
    hits_answer c.args.bytes.now c.args.at c.in_ok-count.count c.in_ok-count.start c.args.row its.0 c.args.own.now (seen c.args.cover.now) (seen c.take_differences.new.cover) c.take_differences.result (omega arith) its.1 its.2 c.take_differences.ensures
