use Rattle.std.proofs.Common.{◌≡◌, ℕ, ◌++◌, List, map, sym, ◌∙◌, ap, subst}
use Rattle.std.specs.Prelude.{OnOk, option_to_list}
use Rattle.mark_scan.specs.declared.mark.MarkKind.{MarkKind}
use Rattle.mark_scan.specs.steps.Scanning.{tag_text}
use Rattle.mark_scan.specs.Tags.{span, zone_kind, tag_kinds}
use Rattle.mark_scan.proofs.TagKinds.{kinds_removed, kinds_kept, marks_twice}
use Rattle.mark_scan.proofs.tags.push_tag.Goals as goal

pub returns-then-removed : goal.returns-then-removed
returns-then-removed c =
    let rules = c.args.rules.now in
    let kinds = kinds_removed rules.sp rules.zones (tag_text c.args.tag.now) (sym c.removed.ensures ∙ c.if-removed.true) in
    subst (λ (ks : List MarkKind). OnOk c.push_kind.result (c.push_kind.new.list.items ≡ c.args.list.now.items ++ map (span c.args.from c.args.to) ks)) (sym kinds) c.push_kind.ensures

pub returns : goal.returns
returns c =
    let rules = c.args.rules.now in
    let f = span c.args.from c.args.to in
    let zoned : c.zone.result ≡ zone_kind rules.zones (tag_text c.args.tag.now) = c.zone.ensures ∙ ap (λ (zs : List (List ℕ)). zone_kind zs (tag_text c.args.tag.now)) c.as_slice.ensures in
    let kinds = kinds_kept rules.sp rules.zones (tag_text c.args.tag.now) (sym c.removed.ensures ∙ c.if-removed.false) in
    marks_twice f (tag_kinds rules.sp rules.zones (tag_text c.args.tag.now)) (option_to_list c.paragraph.result) (option_to_list c.zone.result) c.args.list.now.items c.push_kind-2.new.list.items c.push_kind-3.new.list.items (kinds ∙ sym ((λ i. option_to_list (c.paragraph.ensures i) ++ option_to_list (zoned i)))) c.in_ok-push_kind.ensures c.in_ok-push_kind-2.ensures
