use Rattle.std.proofs.Common.{◌-◌, ◌∷◌, refl, arith}
use Rattle.image_parts.proofs.SpanSteps.{span_told}
use Rattle.image_parts.proofs.marks.span_at.Goals as goal

pub next_number-zone-requires : goal.next_number-zone-requires
next_number-zone-requires c =
    let s = c.requires.0 in let more = c.requires.1 in
    let field = c.next_number-field.ensures s.0 (s.1.zone ∷ (s.1.first ∷ ((s.1.last - s.1.first) ∷ more))) c.requires.2 in
    (s.1.zone, s.1.first ∷ ((s.1.last - s.1.first) ∷ more), field.1)

pub next_number-first-requires : goal.next_number-first-requires
next_number-first-requires c =
    let s = c.requires.0 in let more = c.requires.1 in
    let field = c.next_number-field.ensures s.0 (s.1.zone ∷ (s.1.first ∷ ((s.1.last - s.1.first) ∷ more))) c.requires.2 in
    let zone = c.next_number-zone.ensures _ _ field.1 in
    (s.1.first, (s.1.last - s.1.first) ∷ more, zone.1)

pub next_number-length-requires : goal.next_number-length-requires
next_number-length-requires c =
    let s = c.requires.0 in let more = c.requires.1 in
    let field = c.next_number-field.ensures s.0 (s.1.zone ∷ (s.1.first ∷ ((s.1.last - s.1.first) ∷ more))) c.requires.2 in
    let zone = c.next_number-zone.ensures _ _ field.1 in
    let first = c.next_number-first.ensures _ _ zone.1 in
    (s.1.last - s.1.first, more, first.1)

pub overflow_cast-span : goal.overflow_cast-span
overflow_cast-span c =
    let s = c.requires.0 in let more = c.requires.1 in
    let field = c.next_number-field.ensures s.0 (s.1.zone ∷ (s.1.first ∷ ((s.1.last - s.1.first) ∷ more))) c.requires.2 in
    let zone = c.next_number-zone.ensures _ _ field.1 in
    omega (arith, zone.0, c.requires.3.zone)

pub overflow_add-span : goal.overflow_add-span
overflow_add-span c =
    let s = c.requires.0 in let more = c.requires.1 in
    let field = c.next_number-field.ensures s.0 (s.1.zone ∷ (s.1.first ∷ ((s.1.last - s.1.first) ∷ more))) c.requires.2 in
    let zone = c.next_number-zone.ensures _ _ field.1 in
    let first = c.next_number-first.ensures _ _ zone.1 in
    let size = c.next_number-length.ensures _ _ first.1 in
    omega (arith, first.0, size.0, c.requires.3.order, c.requires.3.last)

pub overflow_cast-result : goal.overflow_cast-result
overflow_cast-result c =
    let s = c.requires.0 in let more = c.requires.1 in
    let field = c.next_number-field.ensures s.0 (s.1.zone ∷ (s.1.first ∷ ((s.1.last - s.1.first) ∷ more))) c.requires.2 in
    omega (arith, field.0, c.requires.3.field)

pub returns : goal.returns
returns c = λ span others are roomy.
    let field = c.next_number-field.ensures span.0 (span.1.zone ∷ (span.1.first ∷ ((span.1.last - span.1.first) ∷ others))) are in
    let zone = c.next_number-zone.ensures _ _ field.1 in
    let first = c.next_number-first.ensures _ _ zone.1 in
    let size = c.next_number-length.ensures _ _ first.1 in
    (span_told span _ _ _ _ _ roomy field.0 zone.0 first.0 size.0 refl, size.1)
