use Rattle.std.proofs.Common.{◌≡◌, ℕ, ◌+◌, ◌-◌, ◌<◌, ◌≤◌, ◌^◌, List, length, rules}
use Rattle.posting_codec.specs.Numbers.{number, IsNumberAt}
use Rattle.posting_codec.specs.PostingLists.{least_after}
use Rattle.posting_codec.proofs.Entries.{head_found}
use Rattle.posting_codec.proofs.postings.read_head.Goals as goal

pub returns : goal.returns
returns c =
    let first : (rest : List ℕ) × IsNumberAt c.args.bytes.now c.args.at c.in_ok-distance.distance rest × (c.in_ok-distance.sized ≡ c.args.at + length (number c.in_ok-distance.distance)) = search rules in
    let row : (least_after c.args.previous ≤ c.in_ok-row.row) × (c.in_ok-row.row + 1 < 2 ^ 32) × (c.in_ok-distance.distance ≡ c.in_ok-row.row + 1 - least_after c.args.previous) = search rules in
    let second : (rest : List ℕ) × IsNumberAt c.args.bytes.now c.in_ok-distance.sized c.in_ok-size.size rest × (c.in_ok-size.start ≡ c.in_ok-distance.sized + length (number c.in_ok-size.size)) = search rules in
    head_found c.args.bytes.now c.args.at c.in_ok-distance.sized c.in_ok-size.start (least_after c.args.previous) c.in_ok-distance.distance c.in_ok-row.row c.in_ok-size.size _ _ first.1 first.2 row.0 row.1 row.2 second.1 second.2
