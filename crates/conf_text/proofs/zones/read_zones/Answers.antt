use Rattle.std.proofs.Common.{◌≡◌, ◌+◌, ◌<◌, ◌∙◌, ℕ, List, length, take, drop, refl, sym, ap, subst, arith}
use Rattle.conf_text.specs.Lines.{trimmed}
use Rattle.conf_text.specs.steps.Settings.{HasNames}
use Rattle.conf_text.specs.Shapes.{small}
use Rattle.conf_text.proofs.Parts.{place, place_within}
use Rattle.conf_text.proofs.ZoneLists.{ZonesRead, zone, zones_more, zones_end, zones_bad}
use Rattle.conf_text.proofs.zones.read_zones.Goals as goal

pub split_at-requires : goal.split_at-requires
split_at-requires c = omega (arith, c.place_of-end.ensures, place_within 44 c.zones.rest.now)

-- the name
name_is : (rest front piece name : List ℕ) (end : ℕ) → end ≡ place 44 rest → front ≡ take end rest → piece ≡ trimmed front → name ≡ small piece → name ≡ zone (take (place 44 rest) rest)
name_is rest front piece name end at cut trim is = is ∙ ap small (trim ∙ ap trimmed (cut ∙ ap (λ n. take n rest) at))

pub returns-then-not-new : goal.returns-then-not-new
returns-then-not-new c =
    let name = name_is c.zones.rest.now c.split_at.result.0.now c.trim.result.now c.in_ok-zone.zone c.place_of-end.result c.place_of-end.ensures c.split_at.ensures.front c.trim.ensures c.in_ok-zone.ensures in
    let test = c.in_ok-new.ensures c.zones.zones.items c.zones.invariant.1 in
    (refl, zones_bad c.args.value.now c.zones.rest.now c.zones.zones.items c.in_ok-zone.zone c.zones.invariant.0 name (sym test.0 ∙ c.if-not-new.true))

pub returns-then-end-rest : goal.returns-then-end-rest
returns-then-end-rest c =
    let name = name_is c.zones.rest.now c.split_at.result.0.now c.trim.result.now c.in_ok-zone.zone c.place_of-end.result c.place_of-end.ensures c.split_at.ensures.front c.trim.ensures c.in_ok-zone.ensures in
    let test = c.in_ok-new.ensures c.zones.zones.items c.zones.invariant.1 in
    let read = zones_end c.args.value.now c.zones.rest.now c.zones.zones.items c.in_ok-zone.zone c.zones.invariant.0 (sym c.place_of-end.ensures ∙ c.if-end-rest.true) name (sym test.0 ∙ c.if-not-new.false) in
    (read.0, c.in_ok-push.ensures.items ∙ read.1)

pub zones-preserved : goal.zones-preserved
zones-preserved c =
    let rest = c.zones.rest.now in
    let name = name_is c.zones.rest.now c.split_at.result.0.now c.trim.result.now c.in_ok-zone.zone c.place_of-end.result c.place_of-end.ensures c.split_at.ensures.front c.trim.ensures c.in_ok-zone.ensures in
    let test = c.in_ok-new.ensures c.zones.zones.items c.zones.invariant.1 in
    let within : place 44 rest < length rest = omega (arith, c.if-end-rest.false, c.place_of-end.ensures, place_within 44 rest) in
    let left : c.split_at-in-zones.result.1.now ≡ drop (place 44 rest + 1) rest = c.split_at-in-zones.ensures.back ∙ ap (λ n. drop (n + 1) rest) c.place_of-end.ensures in
    let read = zones_more c.args.value.now rest c.zones.zones.items c.in_ok-zone.zone c.zones.invariant.0 within name (sym test.0 ∙ c.if-not-new.false) in (
      subst (λ (l : List ℕ). ZonesRead c.args.value.now l c.push.new.self.items) (sym left)
          (subst (λ (z : List (List ℕ)). ZonesRead c.args.value.now (drop (place 44 rest + 1) rest) z) (sym c.in_ok-push.ensures.items) read),
      subst (HasNames c.is_new_zone.new.seen) (sym c.in_ok-push.ensures.items) (test.1 c.if-not-new.false),
    )
