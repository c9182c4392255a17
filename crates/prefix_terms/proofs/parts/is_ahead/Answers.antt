use Rattle.std.proofs.Common.{◌≡◌, true, false, not, rules, sym, ap, ◌∙◌}
use Rattle.std.proofs.lemmas.Bool.{or_left}
use Rattle.prefix_terms.specs.steps.Parts.{is_alive}
use Rattle.prefix_terms.proofs.Livings.{first_ahead}
use Rattle.prefix_terms.proofs.parts.is_ahead.Goals as goal

pub returns-then-not-is_dead : goal.returns-then-not-is_dead
returns-then-not-is_dead g c =
    let test = is_alive c.args.dead.now in
    let place = g.C.Chunk.place c.args.chunk.now c.rows.cursor in
    let gone : c.is_dead.result ≡ false = search rules in
    let alive : test c.in-Some.row ≡ true = ap not (sym c.is_dead.ensures ∙ gone) in
    sym (sym c.rows.invariant.same ∙ first_ahead test place c.in-Some.row (sym c.in-Some.ensures.next) ∙ or_left _ _ alive)
