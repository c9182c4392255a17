use Rattle.std.proofs.Common.{◌≡◌, ◌∷◌, rules}
use Rattle.group_facet.specs.steps.Showing.{Shows}
use Rattle.group_facet.proofs.Finished.{showing_more}
use Rattle.group_facet.proofs.groups.rows_of.Goals as goal

pub loop-key-preserved : goal.loop-key-preserved
loop-key-preserved c =
    let next : c.loop-key.key-iterator ≡ (c.in-Some.key, c.in-Some.part) ∷ c.next.new.self = search rules in
    let shows : Shows (c.in-Some.key, c.in-Some.part) c.in_ok-into_row.field-0 = λ group rows its. search (rules, its, c.in_ok-into_row.ensures) in
    showing_more c.args.parts.entries c.loop-key.key-iterator c.next.new.self (c.in-Some.key, c.in-Some.part) c.loop-key.groups.items c.push.new.self.items c.in_ok-into_row.field-0
    next c.in_ok-push.ensures.items shows c.loop-key.invariant
