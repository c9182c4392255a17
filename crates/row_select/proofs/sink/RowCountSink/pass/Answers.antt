use Rattle.std.proofs.Common.{◌≡◌, ◌+◌, ◌∷◌, [], ℕ, OnOk, sym, ◌∙◌, subst}
use Rattle.std.proofs.lemmas.List.{length-append}
use Rattle.row_select.proofs.sink.RowCountSink.pass.Goals as goal

pub returns : goal.returns
returns g c = λ first rows its lighter took.
    let row = g.R.FoundRow.as_row c.args.row.now in
    subst (λ (n : ℕ). OnOk c.offer.result (c.offer.new.self.rows ≡ first.rows + n)) (length-append rows (row ∷ []) ∙ sym (length-append rows (its ∷ [])))
    (c.offer.ensures first rows took)
