use Rattle.std.proofs.Common.{Global, Vec, subst}
use Rattle.std.specs.List.{AllZip}
use Rattle.std.proofs.lemmas.Result.{IfOk-weaker}
use Rattle.group_facet.specs.Groups.{IsGroup, part}
use Rattle.group_facet.specs.declared.grouping.GroupRow.{GroupRow}
use Rattle.group_facet.proofs.Finished.{shown_all}
use Rattle.group_facet.proofs.groups.Groups.finish.Goals as goal

pub returns : goal.returns
returns c = λ group offered so.
    IfOk-weaker _ _ _ (λ (groups : Vec GroupRow Global) show.
    subst (λ keys. AllZip (λ key shown. IsGroup group key (part group.by key offered) shown) keys groups.items) so.keys
    (shown_all group offered c.args.self.parts.entries groups.items show so.parts)) c.rows_of.ensures
