use Rattle.std.proofs.Common.{arith, ◌∙◌, ap, map, List, ℕ}
use Rattle.posting_codec.proofs.Entries.{entry_found}
use Rattle.image_cover.specs.Places.{place_in, take_all}
use Rattle.image_cover.proofs.Listing.{no_head, no_such_hits, no_such_size}
use Rattle.image_cover.specs.Covers.{seen}
use Rattle.image_cover.proofs.lists.take_entry.Goals as goal

pub returns-in-None : goal.returns-in-None
returns-in-None c = no_head c.args.bytes.now c.args.at c.args.least c.args.rows c.in-None.ensures

pub returns-then-end-start : goal.returns-then-end-start
returns-then-end-start c =
    let h = c.in-Some.ensures in
    let its = c.in-Some-take_hits.ensures in
    let found = entry_found c.args.bytes.now c.args.at c.args.least c.in-Some.head.0 c.in-Some.head.1 c.in-Some.head.2 c.in-Some-take_hits.end h.0 its.0 its.1 h.1 h.2 its.2 its.3 c.if-end-start.true in
    (its.0, its.1, found.0, omega arith, found.1, its.4 ∙ ap (λ (own : List ℕ). take_all (seen c.args.cover.now) (map (place_in c.in-Some.head.0 own) its.0)) c.own_of-own.ensures)

pub returns-else-end-start : goal.returns-else-end-start
returns-else-end-start c =
    let h = c.in-Some.ensures in
    let its = c.in-Some-take_hits.ensures in
    no_such_size c.args.bytes.now c.args.at c.args.least c.args.rows c.in-Some.head.0 c.in-Some.head.1 c.in-Some.head.2 c.in-Some-take_hits.end h.0 its.0 its.1 h.1 h.2 its.2 its.3 c.if-end-start.false

pub returns-in-None-take_hits : goal.returns-in-None-take_hits
returns-in-None-take_hits c =
    let h = c.in-Some.ensures in
    no_such_hits c.args.bytes.now c.args.at c.args.least c.args.rows c.in-Some.head.0 c.in-Some.head.1 c.in-Some.head.2 h.0 h.1 h.2 c.in-None-take_hits.ensures
