use Rattle.std.proofs.Common.{refl}
use Rattle.conf_text.specs.declared.draft.Draft.{Draft}
use Rattle.conf_text.proofs.Keeping.{kept}
use Rattle.conf_text.proofs.draft.Draft.keep.Goals as goal

pub returns : goal.returns
returns c = λ texts name entries value is sets new.
    let after : Draft = record c.set.new.self { given = c.push.new.self } in
    kept texts name entries c.args.self.now c.set.new.self after c.args.key value c.args.setting is sets new c.in_ok-set.ensures c.in_ok-push.ensures.items refl
