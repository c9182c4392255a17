use Rattle.std.proofs.Common.{◌≡◌, ℕ, ◌+◌, ◌-◌, List, length, rules}
use Rattle.posting_codec.specs.HitLists.{AreHitsAt, hit_list}
use Rattle.posting_codec.specs.PostingLists.{least_after}
use Rattle.posting_codec.specs.steps.Heads.{IsHeadAt, head_length}
use Rattle.posting_codec.proofs.Entries.{entry_found}
use Rattle.posting_codec.proofs.postings.read_posting.Goals as goal

pub returns-then-end-start : goal.returns-then-end-start
returns-then-end-start c =
    let head : (rest : List ℕ) × IsHeadAt c.args.bytes.now c.args.at (least_after c.args.previous) c.in-Some.head.0 c.in-Some.head.1 rest × (c.in-Some.head.2 ≡ c.args.at + head_length (least_after c.args.previous) c.in-Some.head.0 c.in-Some.head.1) = search rules in
    let hits : (rest : List ℕ) × AreHitsAt c.args.bytes.now c.in-Some.head.2 c.in-Some-2.hits.items rest × (c.in-Some-2.end ≡ c.in-Some.head.2 + length (hit_list c.in-Some-2.hits.items)) = search rules in
    let fits : c.in-Some-2.end - c.in-Some.head.2 ≡ c.in-Some.head.1 = search rules in
    let found = entry_found c.args.bytes.now c.args.at (least_after c.args.previous) c.in-Some.head.0 c.in-Some.head.1 c.in-Some.head.2 c.in-Some-2.end head.0 c.in-Some-2.hits.items hits.0 head.1 head.2 hits.1 hits.2 fits in
    (hits.0, found.0, found.1)
