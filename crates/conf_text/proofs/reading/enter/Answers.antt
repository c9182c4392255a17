use Rattle.std.proofs.Common.{sym, subst}
use Rattle.conf_text.specs.declared.reading.LinePlace.{LinePlace as CodePlace}
use Rattle.conf_text.specs.Sections.{after_opening}
use Rattle.conf_text.specs.steps.Taking.{Leads, PlaceHas, place_of}
use Rattle.conf_text.proofs.reading.enter.Goals as goal

pub returns : goal.returns
returns c = λ entries has.
    let headed : PlaceHas entries c.replace-headed.result = subst (λ (p : CodePlace). PlaceHas entries p) (sym c.replace-headed.ensures.value) has in
    let leads : Leads (after_opening (place_of c.replace-headed.result)) entries c.go_to.new.place =
    subst (λ (p : CodePlace). Leads (after_opening (place_of c.replace-headed.result)) entries p) (sym c.go_to.ensures) (c.after_opening.ensures entries headed) in
    subst (λ (p : CodePlace). Leads (after_opening (place_of p)) entries c.go_to.new.place) c.replace-headed.ensures.value leads
