use Rattle.std.proofs.Common.{◌≡◌, ◌∙◌, ℤ, Some, ap, sym}
use Rattle.std.proofs.lemmas.Bool.Decides.{Decides-int_eq}
use Rattle.group_facet.proofs.KeyPlaces.{place_is}
use Rattle.group_facet.proofs.places.stands_at.Goals as goal

pub returns-in-Some-clause-place : goal.returns-in-Some-clause-place
returns-in-Some-clause-place g c = λ same.
    let key : c.in-Some.there.now ≡ c.args.key.now = (Decides-int_eq c.in-Some.there.now c.args.key.now).0 (sym c.is_same.ensures ∙ same) in
    place_is c.args.map.now.entries c.args.place c.args.key.now c.in-Some.field-0-1.now c.len.ensures.unique
    (sym c.in-Some.ensures.entry ∙ ap (λ (k : ℤ). Some (k, c.in-Some.field-0-1.now)) key)
