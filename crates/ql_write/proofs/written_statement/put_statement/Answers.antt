use Rattle.std.proofs.Common.{◌++◌, ◌∷◌, [], sym, ◌∙◌, ap, append_assoc, vec_len}
use Rattle.ql_write.specs.Canonical.{canonical_text}
use Rattle.ql_write.proofs.Writings.{spaced_text, popped}
use Rattle.ql_write.proofs.written_statement.put_statement.Goals as goal

pub returns-in-Ok-clause-ok : goal.returns-in-Ok-clause-ok
returns-in-Ok-clause-ok c =
    let old = c.args.out.now.items in
    let text = canonical_text c.args.statement.now in
    popped (old ++ text) c.put.new.out.items c.pop.new.self.items (vec_len c.put.new.out)
    (c.in-Ok.ensures ∙ ap (λ v. old ++ v) (spaced_text c.args.statement.now) ∙ sym (append_assoc old text (32 ∷ [])))
    c.put.new.out.ok.0
    c.pop.ensures.rest
