use Rattle.std.proofs.Common.{◌≡◌, ◌<◌, length, get_or, subst, rules}
use Rattle.ql_select.proofs.Numbering.{shown_more}
use Rattle.ql_select.proofs.showing.show_all.Goals as goal

pub attrs-preserved : goal.attrs-preserved
attrs-preserved c =
    let same = c.as_slice-attr-items.ensures in
    shown_more c.args.schema.now c.args.shown.now.items c.attrs.shown.items _ c.attr-item.result c.attrs.place
    (subst (λ attrs. c.attrs.place < length attrs) same c.attrs-test.true)
    (subst (λ attrs. c.attr-item.result ≡ get_or attrs c.attrs.place c.attr-item.result) same c.attr-item.is)
    c.attrs.invariant (search rules)
