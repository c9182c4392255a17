use Rattle.std.proofs.Common.{◌<◌, ◌^◌, length, arith, rules}
use Rattle.posting_codec.proofs.Entries.{distance_there, posting_size, size_there, within}
use Rattle.posting_codec.proofs.postings.posting_at.Goals as goal

pub number_at-size-requires : goal.number_at-size-requires
number_at-size-requires c =
    let (row, hits, rest, entry) = c.requires in
    let first = c.number_at-distance.ensures _ _ (distance_there c.args.bytes.now c.args.at c.args.least row hits rest entry) in
    (_, _, size_there c.args.bytes.now c.args.at c.number_at-distance.result.1 c.args.least row hits rest entry first.1)

pub overflow_add-result-2 : goal.overflow_add-result-2
overflow_add-result-2 c =
    let (row, hits, rest, entry) = c.requires in
    let first = c.number_at-distance.ensures _ _ (distance_there c.args.bytes.now c.args.at c.args.least row hits rest entry) in
    let there = size_there c.args.bytes.now c.args.at c.number_at-distance.result.1 c.args.least row hits rest entry first.1 in
    let second = c.number_at-size.ensures _ _ there in
    let inside = within c.args.bytes.now c.number_at-distance.result.1 _ _ there in
    let small : length c.args.bytes.now < 2 ^ 63 = search rules in
    omega (arith, second.0, second.1, there.fits, inside, small)

pub returns : goal.returns
returns c row hits rest entry =
    let first = c.number_at-distance.ensures _ _ (distance_there c.args.bytes.now c.args.at c.args.least row hits rest entry) in
    let second = c.number_at-size.ensures _ _ (size_there c.args.bytes.now c.args.at c.number_at-distance.result.1 c.args.least row hits rest entry first.1) in
    (omega (arith, first.0, entry.is.behind), omega (arith, first.1, second.0, second.1, posting_size c.args.least row hits), omega (arith, second.0))
