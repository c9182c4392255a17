use Rattle.std.proofs.Common.{◌≡◌, true, sym, ◌∙◌, ap}
use Rattle.conf_text.specs.Values.{is_tag_name}
use Rattle.conf_text.proofs.ZoneLists.{zone_taken}
use Rattle.conf_text.proofs.zones.is_new_zone.Goals as goal

pub returns : goal.returns
returns c zones has =
    let tag : is_tag_name c.args.name.now ≡ true = sym (c.tag_name.ensures ∙ ap is_tag_name c.as_bytes.ensures) ∙ c.if-not-tag_name.false in
    let same : c.in_ok-clone.field-0 ≡ c.args.name.now = c.in_ok-clone.ensures.cases in
    zone_taken c.args.seen.now c.insert.new.self zones c.args.name.now c.in_ok-insert.field-0 has tag (rw (sym same) c.in_ok-insert.ensures.added) (rw (sym same) c.in_ok-insert.ensures.updates.0)
