use Rattle.std.proofs.Common.{◌≡◌, ℕ, suc, ◌+◌, ◌-◌, [], ◌∷◌, ◌++◌, arith, sym, ap, ◌∙◌, append_assoc, append-nil, length-append}
use Rattle.self_test.specs.Documents.{document_from, documents_from}
use Rattle.self_test.proofs.generator.documents.Goals as goal

pub documents-preserved : goal.documents-preserved
documents-preserved c =
    let split : c.args.docs - c.documents.counter ≡ suc (c.args.docs - (c.documents.counter + 1)) = omega arith in
    let more = documents_from c.documents.draws.x in
    rw (c.in_ok-push.ensures.items, c.document.ensures.draws, c.document.ensures.stands) (
      c.documents.invariant.0 ∙ ap (λ (n : ℕ). c.documents.documents.items ++ more n) split ∙ sym (append_assoc c.documents.documents.items _ _),
      omega (arith, c.documents.invariant.1, length-append c.documents.documents.items (document_from c.documents.draws.x ∷ [])),
    )

pub returns-clause-are : goal.returns-clause-are
returns-clause-are c =
    let none : c.args.docs - c.documents.counter ≡ 0 = omega arith in
    sym (c.documents.invariant.0 ∙ ap (λ (n : ℕ). c.documents.documents.items ++ documents_from c.documents.draws.x n) none ∙ append-nil c.documents.documents.items)
