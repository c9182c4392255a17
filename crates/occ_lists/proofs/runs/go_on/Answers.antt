use Rattle.std.proofs.Common.{rules, ◌∙◌}
use Rattle.occ_lists.specs.Places.{has_place}
use Rattle.occ_lists.proofs.Following.{capped, retains_alike, moved_is}
use Rattle.occ_lists.proofs.runs.go_on.Goals as goal

pub returns : goal.returns
returns c =
    let places = c.args.places.now in
    retains_alike _ (λ end. has_place places (capped end)) capped _ (λ x b t y h. search rules) c.args.ends.now.items c.retain_mut.new.self.items c.retain_mut.ensures.filtered
    ∙ moved_is places c.args.ends.now.items c.requires.below
