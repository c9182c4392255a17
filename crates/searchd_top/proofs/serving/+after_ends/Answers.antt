use Rattle.std.proofs.Common.{rules, ◌≡◌, ◌∷◌, ◌++◌, [], ◌∙◌, ap, sym, map}
use Rattle.program_host.specs.declared.status.Status.{Status}
use Rattle.searchd_top.specs.steps.Servings.{after_ends}
use Rattle.searchd_top.proofs.ServedIndexes.{after_last_end}
use Rattle.searchd_top.proofs.serving.+after_ends.Goals as goal

pub returns-in-Some-Some-clause-says : goal.returns-in-Some-Some-clause-says
returns-in-Some-Some-clause-says g t c =
    let v = c.in-Some-Some in
    let names : c.args.names.items ≡ c.pop.new.self.items ++ v.name ∷ [] = search rules in
    let ends : c.args.ends.now ≡ v.before.now ++ v.end.now ∷ [] = search rules in
    c.after_ends.ensures.says
    ∙ ap (λ (later : Status). after_ends c.pop.new.self.items (map (λ end. end.answer) v.before.now) later) c.after_end-status.ensures.says
    ∙ sym (after_last_end c.pop.new.self.items c.args.names.items v.name v.before.now c.args.ends.now v.end.now c.args.later names ends c.requires.many)
