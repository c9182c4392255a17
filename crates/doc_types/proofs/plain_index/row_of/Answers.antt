use Rattle.std.proofs.Common.{◌≡◌, ◌<◌, rules, arith, of_calls, ◌∙◌}
use Rattle.std.proofs.Common.{◌≡◌, ◌∙◌, ℕ, ◌<◌, ◌==◌, rules, arith}
use Rattle.std.proofs.lemmas.Bool.Decides.{nat_tests}
use Rattle.std.proofs.lemmas.Cmp.{nat_cmp_total}
use Rattle.std.specs.Ordering.{nat_cmp, is_eq}
use Rattle.doc_types.specs.declared.documents.DocRow.{DocRow}
use Rattle.std.specs.declared.cmp.Ordering.TheVariants.{Less}
use Rattle.std.proofs.lemmas.Fn.{always_returns_same}
use Rattle.doc_types.proofs.BinarySearches.{found_place}
use Rattle.doc_types.proofs.plain_index.row_of.Goals as goal

same : (a b : ℕ) → (a == b) ≡ is_eq (nat_cmp a b)
same a b = grind (arith, nat_tests)

is_less : (a b : ℕ) → a < b → nat_cmp a b ≡ Less
is_less a b l = grind (arith, nat_tests)

pub returns : goal.returns
returns c =
    c.ok.ensures.value
    ∙ found_place nat_cmp_total (λ (row : DocRow). row.doc.id) c.args.id (λ row. row.doc.id == c.args.id) (λ row. same row.doc.id c.args.id) c.args.rows.now (λ i j d l h. is_less _ _ (c.requires i j d l h)) c.binary_search_by.result c.binary_search_by.ensures.bound
    (c.binary_search_by.ensures.position (λ row. nat_cmp row.doc.id c.args.id) (always_returns_same _ _ _ (λ a r f k. search (rules, of_calls))))
